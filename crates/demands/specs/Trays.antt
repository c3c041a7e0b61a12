-- The words in which building and stripping at the desk are stated.
use Rattle.std.specs.Prelude.{ℕ, ◌*◌, ◌≤◌, ◌<◌, ◌/◌, ◌%◌, false, List, ◌⊎◌, ◌≡◌, T, length, take, drop}
use Rattle.paper.specs.Answers.{Said, accepted, and_then}
use Rattle.paper.specs.Reading.{reading}
use Rattle.paper.specs.Writing.{blanks}
use Rattle.paper.specs.Trays.{tray_record_good, build, strip}
use Rattle.paper.specs.Buffers.{room_for, tray_answer, buildable}
use Rattle.paper.specs.Demands.{Faulty}
use Rattle.desk.specs.declared.Session.{Session}
use Rattle.desk.specs.Standing.{rules_of}
use Rattle.demands.specs.Faults.{FaultyOrShort}

-- the answer to a call of build: 207, 201, 206, then the reading's answer on what was built
abbrev pub answer_to_build : Session → List ℕ → List ℕ → List ℕ → Said
answer_to_build s header tray before = and_then (buildable header tray before) (reading (rules_of s) (build header tray))

-- record k of a tray is good: its mark, the body that goes with it, zeros at the end
abbrev pub GoodAt : List ℕ → ℕ → Type 0
GoodAt tray k = T (tray_record_good (take 96 (drop (k * 96) tray)))

-- all that it asks for: a header body of 94 bytes and a tray of whole records, each of them good; a file that is not too long, has room and is
-- accepted by the reading
pub record Buildable (s : Session) (header tray before : List ℕ) : Type 0 where
  pub body : length header ≡ 94
  pub whole : length tray % 96 ≡ 0
  pub good : (k : ℕ) → k < length tray / 96 → GoodAt tray k
  pub short : length (build header tray) ≤ 940000
  pub room : length (build header tray) ≤ length before
  pub reads : reading (rules_of s) (build header tray) ≡ accepted

-- "header body not 94 bytes or tray no multiple of 96"
abbrev pub Misshapen : List ℕ → List ℕ → Type 0
Misshapen header tray = (length header ≡ 94 → ⊥) ⊎ (length tray % 96 ≡ 0 → ⊥)

-- "then the first record with a bad mark, a body not beginning with 5 for LO, 6 for IN, 7 for AD, or a nonzero tail": at this place of the tray
pub record FirstBad (header tray : List ℕ) (place : ℕ) : Type 0 where
  pub body : length header ≡ 94
  pub whole : length tray % 96 ≡ 0
  pub there : place < length tray / 96
  pub bad : tray_record_good (take 96 (drop (place * 96) tray)) ≡ false
  pub first : (k : ℕ) → k < place → GoodAt tray k

-- all that 207 is for: the lengths, at 0; then the first bad record, at its place
abbrev pub TrayBad : List ℕ → List ℕ → ℕ → Type 0
TrayBad header tray place = (Misshapen header tray × (place ≡ 0)) ⊎ FirstBad header tray place

-- the refusals before the reading: 207; then 201 and 206 for a tray that 207 does not refuse, by the length of the file that would be built
abbrev pub NotBuildable : List ℕ → List ℕ → List ℕ → ℕ → ℕ → Type 0
NotBuildable header tray before n place =
    ((n ≡ 207) × TrayBad header tray place)
    ⊎ ((n ≡ 201) × (tray_answer header tray ≡ accepted) × (940000 < length (build header tray)) × (place ≡ 0))
    ⊎ ((n ≡ 206) × (tray_answer header tray ≡ accepted) × (length (build header tray) ≤ 940000) × (length before < length (build header tray)) × (place ≡ 0))

-- the first fault of building, its number and place: one of those; else that of the file built, by the reading
abbrev pub BuildFaulty : Session → List ℕ → List ℕ → List ℕ → ℕ → ℕ → Type 0
BuildFaulty s header tray before n place =
    NotBuildable header tray before n place
    ⊎ ((tray_answer header tray ≡ accepted)
    × (length (build header tray) ≤ 940000)
    × (length (build header tray) ≤ length before)
    × Faulty (rules_of s) (build header tray) n place)

-- the bytes that a file would have taken are all spaces, and the rest of the buffer stays
pub record Spaced (file before after : List ℕ) : Type 0 where
  pub spaces : take (length file) after ≡ blanks (length file)
  pub rest : drop (length file) after ≡ drop (length file) before

-- the answer to a call of strip: the reading's refusals, then 206
abbrev pub answer_to_strip : Session → List ℕ → List ℕ → Said
answer_to_strip s file before = and_then (reading (rules_of s) file) (room_for (strip file) before)

-- all that it asks for: a file that the reading accepts, and room for the tray
pub record Strippable (s : Session) (file before : List ℕ) : Type 0 where
  pub reads : reading (rules_of s) file ≡ accepted
  pub room : length (strip file) ≤ length before

-- the first fault of stripping: the reading's, then 206
abbrev pub StripFaulty : Session → List ℕ → List ℕ → ℕ → ℕ → Type 0
StripFaulty s file before n place = FaultyOrShort (rules_of s) file (strip file) before n place
