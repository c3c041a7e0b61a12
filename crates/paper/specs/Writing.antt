-- What an extract and a built file share: numbers in digits, controls, and records closed by their controls.
use Rattle.std.specs.Prelude.{ℕ, zero, suc, ◌+◌, ◌/◌, ◌%◌, List, [], ◌∷◌, ◌++◌, replicate}
use Rattle.paper.specs.declared.record.Kind.{Kind}
use Rattle.paper.specs.declared.record.Kind.TheVariants.{FileHeader, BatchHeader, Individual, Additional, BatchControl, FileControl, Other}
use Rattle.paper.specs.Fields.{bytes, field}
use Rattle.paper.specs.Kinds.{kind_of}
use Rattle.paper.specs.declared.record.Tally.{Tally}
use Rattle.paper.specs.Controls.{blocks}
use Rattle.paper.specs.Reading.{Reckoning, nothing_counted, counted}

-- n in so many digits: its last ones, with zeros in front
unfoldable pub spelled : ℕ → ℕ → List ℕ
spelled zero n = []
spelled (suc width) n = spelled width (n / 10) ++ (48 + n % 10) ∷ []

unfoldable pub blanks : ℕ → List ℕ
blanks n = replicate n 32

unfoldable pub joined : List (List ℕ) → List ℕ
joined [] = []
joined (r ∷ rs) = r ++ joined rs

-- the record with n in positions 88-94
unfoldable pub numbered : ℕ → List ℕ → List ℕ
numbered n r = field r 1 87 ++ spelled 7 n

-- 8, batch control under its header; free control positions are blank, and sums keep their last digits
unfoldable pub batch_control_of : List ℕ → Tally → List ℕ
batch_control_of header t =
    bytes "8" ++ field header 2 4 ++ spelled 6 t.records ++ spelled 10 t.destinations ++ spelled 12 t.debits ++ spelled 12 t.credits
    ++ field header 41 50 ++ blanks 25 ++ field header 80 87 ++ field header 88 94

-- 9, file control of a file of `all` records, this one included
unfoldable pub file_control_of : ℕ → ℕ → Tally → List ℕ
file_control_of all batches t =
    bytes "9" ++ spelled 6 batches ++ spelled 6 (blocks all) ++ spelled 8 t.records ++ spelled 10 t.destinations ++ spelled 12 t.debits
    ++ spelled 12 t.credits ++ blanks 39

-- the control of the batch that is open; before the first batch none is
unfoldable pub owed : ℕ → Reckoning → List (List ℕ)
owed zero c = []
owed (suc n) c = batch_control_of c.header c.batch ∷ []

unfoldable pub settled : ℕ → Reckoning → Reckoning
settled zero c = c
settled (suc n) c = counted BatchControl c []

-- a control goes before each later batch header
unfoldable pub owed_before : Kind → Reckoning → List (List ℕ)
owed_before FileHeader c = []
owed_before BatchHeader c = owed c.batches c
owed_before Individual c = []
owed_before Additional c = []
owed_before BatchControl c = []
owed_before FileControl c = []
owed_before Other c = []

unfoldable pub settled_before : Kind → Reckoning → Reckoning
settled_before FileHeader c = c
settled_before BatchHeader c = settled c.batches c
settled_before Individual c = c
settled_before Additional c = c
settled_before BatchControl c = c
settled_before FileControl c = c
settled_before Other c = c

-- and one at the end if there was a batch; then the file control
unfoldable pub ending : Reckoning → List (List ℕ)
ending c = let d = settled c.batches c in owed c.batches c ++ file_control_of (d.place + 1) d.batches d.closed ∷ []

unfoldable pub with_controls : Reckoning → List (List ℕ) → List (List ℕ)
with_controls c [] = ending c
with_controls c (r ∷ rs) = owed_before (kind_of r) c ++ r ∷ with_controls (counted (kind_of r) (settled_before (kind_of r) c) r) rs

-- the file of a header and records of types 5, 6 and 7
unfoldable pub closing : List ℕ → List (List ℕ) → List ℕ
closing header rs = joined (header ∷ with_controls (counted FileHeader nothing_counted header) rs)
