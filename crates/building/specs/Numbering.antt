-- Numbering, record by record.
use Rattle.std.specs.Prelude.{ℕ, ◌*◌, ◌^◌, ◌≤◌, List, [], ◌∷◌, ◌≡◌, length}
use Rattle.paper.specs.declared.record.Kind.{Kind}
use Rattle.paper.specs.declared.record.Kind.TheVariants.{FileHeader, BatchHeader, Individual, Additional, BatchControl, FileControl, Other}
use Rattle.paper.specs.Kinds.{kind_of}
use Rattle.paper.specs.Trays.{batches_after, individuals_after, numbering, build}
use Rattle.tray.specs.Trays.{Sound}
use Rattle.building.specs.declared.numbering.Numbering.{Numbering}

abbrev pub none : Numbering
none = record { batches = 0; individuals = 0 }

-- one record further
unfoldable pub after : Kind → Numbering → Numbering
after k n = record { batches = batches_after k n.batches; individuals = individuals_after k n.individuals }

unfoldable pub through : Numbering → List (List ℕ) → Numbering
through n [] = n
through n (r ∷ rs) = through (after (kind_of r) n) rs

-- the number of the record that was counted last
unfoldable pub last_number : Kind → Numbering → ℕ
last_number FileHeader n = n.individuals
last_number BatchHeader n = n.batches
last_number Individual n = n.individuals
last_number Additional n = n.individuals
last_number BatchControl n = n.individuals
last_number FileControl n = n.individuals
last_number Other n = n.individuals

-- records under their numbers, after those that were numbered before
abbrev pub numbered_from : Numbering → List (List ℕ) → List (List ℕ)
numbered_from n rs = numbering n.batches n.individuals rs

-- no number exceeds this
abbrev pub Few : ℕ → Numbering → Type 0
Few most n = (n.batches ≤ most) × (n.individuals ≤ most)

-- a record to be written under its number
pub record ToStamp (body : List ℕ) (n : Numbering) (buffer : List ℕ) : Type 0 where
  pub long : length body ≡ 94
  pub few : Few (10 ^ 18) n
  pub room : length buffer ≡ 94

-- what a batch is written from, and room for so many records
pub record ToNumber (tray : List ℕ) (most : ℕ) (n : Numbering) (buffer : List ℕ) (records : ℕ) : Type 0 where
  pub sound : Sound tray
  pub short : length tray ≤ 960000
  pub few : Few most n
  pub room : records * 94 ≤ length buffer

-- a header and a tray that 207, 201 and 206 do not refuse
pub record ToBuild (header tray buffer : List ℕ) : Type 0 where
  pub long : length header ≡ 94
  pub sound : Sound tray
  pub short : length (build header tray) ≤ 940000
  pub room : length (build header tray) ≤ length buffer
