-- Batches whose records read as said: each item with the additionals that it must have, numbers that rise in a batch and are new in the file, and sums that fit the controls.
use Prim.Native.Nat.{ℕ}
use mathlib.Core.Bool.{Bool, true, false}
use mathlib.Core.List.{List, [], ◌∷◌}
use mathlib.Core.Path.{◌≡◌}
use lib.Dec.{T}
use Rattle.paper.specs.declared.record.Kind.TheVariants.{BatchHeader, Individual, Additional}
use Rattle.paper.specs.Checks.{fine}
use Rattle.paper.specs.Fields.{among, every, good}
use Rattle.paper.specs.Kinds.{kind_of}
use Rattle.paper.specs.Records.{number_in, flagged_in, additional}
use Rattle.paper.specs.Controls.{zeros}
use Rattle.paper.specs.Extract.{Item, Batch}
use Rattle.paper.proofs.Grouping.{Is}
use Rattle.received.proofs.Written.{Fits}
use Rattle.received.proofs.Tallies.{tallied}

-- after an individual record whose position 79 is 1 stands one additional, else none
abbrev pub Followed : Bool → List ℕ → List (List ℕ) → Type 0
Followed flagged r [] = flagged ≡ false
Followed flagged r (x ∷ xs) = (flagged ≡ true) × (kind_of x ≡ Additional) × T (every good x) × (additional r x ≡ fine) × (xs ≡ [])

-- the numbers in 88-94 of individual records, besides those before them
unfoldable pub seen_after : List ℕ → List Item → List ℕ
seen_after seen [] = seen
seen_after seen (i ∷ is) = seen_after (number_in i.individual ∷ seen) is

-- what is said of a batch that opens, and of an individual record under a header and after a number
module _ (Opens : Batch → Type 0) (Reads : List ℕ → ℕ → List ℕ → Type 0) where
  pub record ItemRead (header : List ℕ) (previous : ℕ) (seen : List ℕ) (i : Item) : Type 0 where
    pub kind : kind_of i.individual ≡ Individual
    pub good : T (every good i.individual)
    pub reads : Reads header previous i.individual
    pub new : among seen (number_in i.individual) ≡ false
    pub followed : Followed (flagged_in i.individual) i.individual i.additionals

  abbrev pub ItemsRead : List ℕ → ℕ → List ℕ → List Item → Type 0
  ItemsRead header previous seen [] = Unit {0}
  ItemsRead header previous seen (i ∷ is) = ItemRead header previous seen i × ItemsRead header (number_in i.individual) (number_in i.individual ∷ seen) is

  pub record BatchRead (seen : List ℕ) (b : Batch) : Type 0 where
    pub whole : Is BatchHeader b.header
    pub good : T (every good b.header)
    pub opens : Opens b
    pub items : ItemsRead b.header 0 seen b.items
    pub fits : Fits 6 (tallied zeros b.items)

  abbrev pub BatchesRead : List ℕ → List Batch → Type 0
  BatchesRead seen [] = Unit {0}
  BatchesRead seen (b ∷ bs) = BatchRead seen b × BatchesRead (seen_after seen b.items) bs
