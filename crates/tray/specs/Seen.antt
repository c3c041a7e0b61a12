-- A tray looked at in pieces.
use Rattle.std.specs.Prelude.{ℕ, ◌+◌, ◌/◌, ◌%◌, ◌^◌, ◌≤◌, ◌<◌, ◌&&◌, List, ◌≡◌, Option, Some, None, Err, eqb, length}
use Rattle.paper.specs.declared.answer.Refusal.{Refusal}
use Rattle.paper.specs.Answers.{Said, said, refused_by, refused, and_then, require}
use Rattle.paper.specs.Trays.{tray_records, tray_fault}
use Rattle.tray.specs.declared.pieces.Pieces.{Pieces}

-- more bytes than 64 bits can count: no tray in memory and no file has so many records
abbrev pub most_seen : ℕ
most_seen = 2 ^ 60

-- all of the tray was looked at, and this was found
pub record SeenWhole (p : Pieces) (tray : List ℕ) : Type 0 where
  pub faults : said p.faults ≡ tray_fault 0 (tray_records tray)
  pub records : p.records ≡ length tray / 96
  pub left : p.left ≡ length tray % 96

-- what is known of the tray so far: all that; or that it has more records than are looked at
pub record Seen (p : Pieces) (tray : List ℕ) : Type 0 where
  pub whole : p.records ≤ most_seen → SeenWhole p tray
  pub endless : most_seen < p.records → most_seen < length tray / 96

-- one piece more was looked at
pub record SeenMore (p : Pieces) (piece : List ℕ) (r : Pieces) : Type 0 where
  pub faults : said r.faults ≡ and_then (said p.faults) (tray_fault p.records (tray_records piece))
  pub records : r.records ≡ p.records + length piece / 96
  pub left : r.left ≡ length piece % 96

-- what is known after one piece more; of a tray without end, nothing more
pub record ReadOn (p : Pieces) (piece : List ℕ) (r : Pieces) : Type 0 where
  pub further : p.records ≤ most_seen → SeenMore p piece r
  pub stays : most_seen < p.records → r ≡ p

-- the answer of a tray that has an end: the lengths first, then the first bad record, and last 201
abbrev pub long_answer : Pieces → List ℕ → Said
long_answer p header = and_then (require (eqb (length header) 94 && eqb p.left 0) 207 0) (and_then (said p.faults) (refused 201 0))

-- it is given of a tray that has an end, and of no other
abbrev pub Tells : Pieces → List ℕ → Option Refusal → Type 0
Tells p header (Some r) = (p.records ≤ most_seen) × (refused_by r ≡ long_answer p header)
Tells p header None = most_seen < p.records
