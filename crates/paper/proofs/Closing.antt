-- Records closed by their controls: all are records of 94 bytes, and how many there are.
use Prim.Native.Nat.{ℕ, zero, suc, ◌+◌, ◌*◌}
use native.Mathlib.Omega.{arith}
use mathlib.Core.List.{[], List, ◌∷◌}
use mathlib.Core.Path.{◌≡◌, refl, ap, ◌∙◌}
use lib.ListN.{length, length-append, length-take, length-drop}
use Rattle.paper.specs.declared.record.Kind.{Kind}
use Rattle.paper.specs.declared.record.Kind.TheVariants.{FileHeader, BatchHeader, Individual, Additional, BatchControl, FileControl, Other}
use Rattle.paper.specs.Kinds.{kind_of}
use Rattle.paper.specs.declared.record.Tally.{Tally}
use Rattle.paper.specs.Reading.{Reckoning, nothing_counted, counted, records_of}
use Rattle.paper.specs.Writing.{blanks, batch_control_of, file_control_of, owed, owed_before, settled_before, ending, with_controls, closing}
use Rattle.paper.proofs.Lists.{Sized, sized_append, length_joined, records_joined, length_spelled}

-- the open batch's header is a whole record
abbrev pub Ready : ℕ → List ℕ → Type 0
Ready zero header = Unit {0}
Ready (suc n) header = length header ≡ 94

pub length_batch_control : (header : List ℕ) (t : Tally) → length header ≡ 94 → length (batch_control_of header t) ≡ 94
unfolding batch_control_of blanks
length_batch_control header t h = simp (length-append, length_spelled, length-take, length-drop, h)

pub length_file_control : (all batches : ℕ) (t : Tally) → length (file_control_of all batches t) ≡ 94
unfolding file_control_of blanks
length_file_control all batches t = simp (length-append, length_spelled)

owed_sized : (n : ℕ) (c : Reckoning) → Ready n c.header → Sized 94 (owed n c)
unfolding owed
owed_sized zero c h = tt
owed_sized (suc n) c h = (length_batch_control c.header c.batch h, tt)

owed_before_sized : (k : Kind) (c : Reckoning) → Ready c.batches c.header → Sized 94 (owed_before k c)
unfolding owed_before
owed_before_sized FileHeader c h = tt
owed_before_sized BatchHeader c h = owed_sized c.batches c h
owed_before_sized Individual c h = tt
owed_before_sized Additional c h = tt
owed_before_sized BatchControl c h = tt
owed_before_sized FileControl c h = tt
owed_before_sized Other c h = tt

-- the counts after a record that was written
abbrev pub after_writing : Kind → Reckoning → List ℕ → Reckoning
after_writing k c r = counted k (settled_before k c) r

ready_after : (k : Kind) (c : Reckoning) (r : List ℕ) → length r ≡ 94 → Ready c.batches c.header
    → Ready (after_writing k c r).batches (after_writing k c r).header
unfolding counted settled_before
ready_after FileHeader c r l h = h
ready_after BatchHeader c r l h = l
ready_after Individual c r l h = h
ready_after Additional c r l h = h
ready_after BatchControl c r l h = h
ready_after FileControl c r l h = h
ready_after Other c r l h = h

pub controls_sized : (rs : List (List ℕ)) (c : Reckoning) → Sized 94 rs → Ready c.batches c.header → Sized 94 (with_controls c rs)
unfolding with_controls ending
controls_sized [] c z h = sized_append 94 (owed c.batches c) _ (owed_sized c.batches c h) (length_file_control _ _ _, tt)
controls_sized (r ∷ rs) c z h =
    sized_append 94 (owed_before (kind_of r) c) _ (owed_before_sized (kind_of r) c h)
    (z.0, controls_sized rs (after_writing (kind_of r) c r) z.1 (ready_after (kind_of r) c r z.0 h))

-- what closing gives is cut into the header, the records and their controls again
pub closing_records : (header : List ℕ) (rs : List (List ℕ)) → length header ≡ 94 → Sized 94 rs
    → records_of (closing header rs) ≡ header ∷ with_controls (counted FileHeader nothing_counted header) rs
unfolding closing records_of counted nothing_counted
closing_records header rs h z = records_joined 94 _ (omega arith) (h, controls_sized rs (counted FileHeader nothing_counted header) z tt)

-- ---- how many: the records, a control for each batch, the file control

abbrev pub headers : Kind → ℕ
headers FileHeader = 0
headers BatchHeader = 1
headers Individual = 0
headers Additional = 0
headers BatchControl = 0
headers FileControl = 0
headers Other = 0

unfoldable pub headers_of : List (List ℕ) → ℕ
headers_of [] = 0
headers_of (r ∷ rs) = headers (kind_of r) + headers_of rs

-- the control that is owed
abbrev pub owing : ℕ → ℕ
owing zero = 0
owing (suc n) = 1

length_owed : (n : ℕ) (c : Reckoning) → length (owed n c) ≡ owing n
unfolding owed
length_owed zero c = refl
length_owed (suc n) c = refl

owed_step : (k : Kind) (c : Reckoning) (r : List ℕ) → length (owed_before k c) + owing (after_writing k c r).batches ≡ headers k + owing c.batches
unfolding owed_before counted settled_before
owed_step FileHeader c r = refl
owed_step BatchHeader c r = omega (arith, length_owed c.batches c)
owed_step Individual c r = refl
owed_step Additional c r = refl
owed_step BatchControl c r = refl
owed_step FileControl c r = refl
owed_step Other c r = refl

pub length_controls : (rs : List (List ℕ)) (c : Reckoning) → length (with_controls c rs) ≡ length rs + headers_of rs + owing c.batches + 1
unfolding with_controls ending headers_of
length_controls [] c = length-append (owed c.batches c) _ ∙ omega (arith, length_owed c.batches c)
length_controls (r ∷ rs) c =
    length-append (owed_before (kind_of r) c) (r ∷ with_controls (after_writing (kind_of r) c r) rs)
    ∙ omega (arith, owed_step (kind_of r) c r, length_controls rs (after_writing (kind_of r) c r))

-- the length of what closing gives
pub length_closing : (header : List ℕ) (rs : List (List ℕ)) → length header ≡ 94 → Sized 94 rs
    → length (closing header rs) ≡ (length rs + headers_of rs + 2) * 94
unfolding closing counted nothing_counted
length_closing header rs h z =
    length_joined 94 _ (h, controls_sized rs (counted FileHeader nothing_counted header) z tt)
    ∙ ap (λ (n : ℕ). suc n * 94) (length_controls rs (counted FileHeader nothing_counted header)) ∙ omega arith
