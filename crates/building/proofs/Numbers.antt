-- Records under their numbers: what stands at a place, and how far the numbering has come there.
use Prim.Native.Nat.{ℕ, zero, suc, ◌+◌, ◌≤◌}
use mathlib.Core.Bool.{not}
use mathlib.Core.List.{List, [], ◌∷◌, ◌++◌}
use mathlib.Core.Logic.{inl, inr}
use mathlib.Core.Path.{◌≡◌, refl, ap, ◌∙◌}
use native.Mathlib.Omega.{arith}
use lib.ListN.{length, take, drop}
use lib.Seq.{take-add}
use Rattle.paper.specs.declared.record.Kind.{Kind}
use Rattle.paper.specs.declared.record.Kind.TheVariants.{FileHeader, BatchHeader, Individual, Additional, BatchControl, FileControl, Other}
use Rattle.paper.specs.Kinds.{opens_batch, kind_of}
use Rattle.paper.specs.Writing.{numbered}
use Rattle.paper.specs.Trays.{batches_after, individuals_after, numbered_by, numbering}
use Rattle.paper.proofs.Lists.{Sized, kind_numbered}
use Rattle.batches.specs.Blocks.{own_at}
use Rattle.tray.proofs.Places.{OnTray}
use Rattle.building.specs.declared.numbering.Numbering.{Numbering}
use Rattle.building.specs.Numbering.{after, through, last_number, numbered_from}

-- ---- how far the numbering has come

pub through_append : (n : Numbering) (a b : List (List ℕ)) → through n (a ++ b) ≡ through (through n a) b
unfolding through
through_append n [] b = refl
through_append n (r ∷ a) b = through_append (after (kind_of r) n) a b

-- one record further
pub through_one : (n : Numbering) (rs : List (List ℕ)) (i : ℕ) {r : List ℕ} {more : List (List ℕ)} → drop i rs ≡ r ∷ more
    → through n (take (i + 1) rs) ≡ after (kind_of r) (through n (take i rs))
unfolding through
through_one n rs i e = rw (take-add i 1 rs, e) (through_append n (take i rs) _)

-- by one a record at the most
pub after_grows : (k : Kind) (n : Numbering) → ((after k n).batches ≤ n.batches + 1) × ((after k n).individuals ≤ n.individuals + 1)
unfolding after batches_after individuals_after
after_grows FileHeader n = (omega arith, omega arith)
after_grows BatchHeader n = (omega arith, omega arith)
after_grows Individual n = (omega arith, omega arith)
after_grows Additional n = (omega arith, omega arith)
after_grows BatchControl n = (omega arith, omega arith)
after_grows FileControl n = (omega arith, omega arith)
after_grows Other n = (omega arith, omega arith)

pub through_grows : (n : Numbering) (rs : List (List ℕ))
    → ((through n rs).batches ≤ n.batches + length rs) × ((through n rs).individuals ≤ n.individuals + length rs)
unfolding through
through_grows n [] = (omega arith, omega arith)
through_grows n (r ∷ rs) =
    let first = after_grows (kind_of r) n in
    let later = through_grows (after (kind_of r) n) rs in
    (omega (arith, first.0, later.0), omega (arith, first.1, later.1))

-- ---- what stands at a place

pub drop_numbered : (n : Numbering) (rs : List (List ℕ)) (i : ℕ) → drop i (numbered_from n rs) ≡ numbered_from (through n (take i rs)) (drop i rs)
unfolding numbering through after
drop_numbered n rs zero = refl
drop_numbered n [] (suc i) = refl
drop_numbered n (r ∷ rs) (suc i) = drop_numbered (after (kind_of r) n) rs i

pub length_numbering : (n : Numbering) (rs : List (List ℕ)) → length (numbered_from n rs) ≡ length rs
unfolding numbering after
length_numbering n [] = refl
length_numbering n (r ∷ rs) = ap suc (length_numbering (after (kind_of r) n) rs)

-- a record of a tray gets the number that was counted last
pub number_of : (k : Kind) → OnTray k → (n : Numbering) (r : List ℕ)
    → numbered_by k n.batches n.individuals r ≡ numbered (last_number k (after k n)) r
unfolding numbered_by last_number after batches_after individuals_after
number_of k (inl h) n r = rw h refl
number_of k (inr (inl h)) n r = rw h refl
number_of k (inr (inr h)) n r = rw h refl

pub numbered_at : (n : Numbering) (rs : List (List ℕ)) (i : ℕ) (r : List ℕ) → drop i rs ≡ r ∷ drop (i + 1) rs
    → OnTray (kind_of r)
    → drop i (numbered_from n rs) ≡ numbered (last_number (kind_of r) (after (kind_of r) (through n (take i rs)))) r ∷ drop (i + 1) (numbered_from n rs)
unfolding numbering after
numbered_at n rs i r e k =
    let so = through n (take i rs) in
    drop_numbered n rs i ∙ ap (numbered_from so) e
    ∙ rw (drop_numbered n rs (i + 1), through_one n rs i e, number_of (kind_of r) k so r) refl

-- ---- numbering changes no kind

pub kind_kept : (k : Kind) (b n : ℕ) (r : List ℕ) → 87 ≤ length r → kind_of (numbered_by k b n r) ≡ kind_of r
unfolding numbered_by
kind_kept FileHeader b n r l = refl
kind_kept BatchHeader b n r l = kind_numbered (suc b) r l
kind_kept Individual b n r l = kind_numbered (suc n) r l
kind_kept Additional b n r l = kind_numbered n r l
kind_kept BatchControl b n r l = refl
kind_kept FileControl b n r l = refl
kind_kept Other b n r l = refl

pub own_numbered : (n : Numbering) (rs : List (List ℕ)) → Sized 94 rs → own_at (numbered_from n rs) ≡ own_at rs
unfolding own_at numbering
own_numbered n [] z = refl
own_numbered n (r ∷ rs) z = ap (λ (k : Kind). not (opens_batch k)) (kind_kept (kind_of r) n.batches n.individuals r (omega (arith, z.0)))
