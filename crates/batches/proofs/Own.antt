-- The records of a batch: those before the next batch header, and what is counted of them.
use Prim.Native.Nat.{ℕ, zero, suc, ◌+◌, ◌*◌, ◌^◌, ◌≤◌, ◌<◌}
use mathlib.Core.Bool.{Bool, true, false, not, cond, false≢true}
use mathlib.Core.List.{List, [], ◌∷◌, ◌++◌}
use mathlib.Core.Logic.{◌⊎◌, inl, inr}
use mathlib.Core.Path.{◌≡◌, refl, ap}
use native.Mathlib.Omega.{arith}
use borrow.Author.Tests.{not-true, not-false}
use lib.ListN.{length, drop, drop_of_length-le}
use Rattle.paper.specs.declared.record.Kind.{Kind}
use Rattle.paper.specs.declared.record.Kind.TheVariants.{FileHeader, BatchHeader, Individual, Additional, BatchControl, FileControl, Other}
use Rattle.paper.specs.declared.record.Tally.{Tally}
use Rattle.paper.specs.Kinds.{opens_batch, kind_of}
use Rattle.paper.proofs.Grouping.{Is}
use Rattle.paper.proofs.Lists.{Sized}
use Rattle.controls.specs.Bounds.{Below}
use Rattle.controls.proofs.Bounds.{below_more, below_additional, below_individual}
use Rattle.batches.specs.Blocks.{own_at, own_of, with_record, tallied}

-- ---- which they are

pub own_sized : (rs : List (List ℕ)) → Sized 94 rs → Sized 94 (own_of rs)
unfolding own_of
own_sized [] z = tt
own_sized (r ∷ rs) z = go (opens_batch (kind_of r)) (own_sized rs z.1)
  where
    go : (b : Bool) → Sized 94 (own_of rs) → Sized 94 (cond b [] (r ∷ own_of rs))
    go true o = tt
    go false o = (z.0, o)

pub own_fewer : (rs : List (List ℕ)) → length (own_of rs) ≤ length rs
unfolding own_of
own_fewer [] = omega arith
own_fewer (r ∷ rs) = go (opens_batch (kind_of r)) (own_fewer rs)
  where
    go : (b : Bool) → length (own_of rs) ≤ length rs → length (cond b [] (r ∷ own_of rs)) ≤ suc (length rs)
    go true o = omega arith
    go false o = omega arith

pub own_one : (r : List ℕ) (rs : List (List ℕ)) → own_at (r ∷ rs) ≡ true → own_of (r ∷ rs) ≡ r ∷ own_of rs
unfolding own_at own_of
own_one r rs h = rw (not-true (opens_batch (kind_of r)) h) refl

pub own_none : (rs : List (List ℕ)) → own_at rs ≡ false → own_of rs ≡ []
unfolding own_at own_of
own_none [] h = refl
own_none (r ∷ rs) h = rw (not-false (opens_batch (kind_of r)) h) refl

-- a record of the batch stands at an index, or none
pub own_there : (rs : List (List ℕ)) (i : ℕ) {r : List ℕ} {more : List (List ℕ)} → drop i rs ≡ r ∷ more → (b : Bool) → b ≡ opens_batch (kind_of r) → not b ≡ own_at (drop i rs)
unfolding own_at
own_there rs i h b e = rw (h, e) refl

pub none_there : (rs : List (List ℕ)) (i : ℕ) → length rs ≤ i → false ≡ own_at (drop i rs)
unfolding own_at
none_there rs i l = rw (drop_of_length-le rs {i = i} l) refl

pub own_inside : (rs : List (List ℕ)) (i : ℕ) → own_at (drop i rs) ≡ true → i < length rs
unfolding own_at
own_inside [] zero h = absurd (false≢true h)
own_inside [] (suc i) h = absurd (false≢true h)
own_inside (r ∷ rs) zero h = omega arith
own_inside (r ∷ rs) (suc i) h = let l = own_inside rs i h in omega arith

-- records that stand within a batch
abbrev pub Within : List (List ℕ) → Type 0
Within [] = Unit {0}
Within (r ∷ rs) = (Is Individual r ⊎ Is Additional r) × Within rs

pub stays : (r : List ℕ) → Is Individual r ⊎ Is Additional r → opens_batch (kind_of r) ≡ false
stays r (inl h) = rw h.0 refl
stays r (inr h) = rw h.0 refl

pub own_within : (rs rest : List (List ℕ)) → Within rs → own_of rest ≡ [] → own_of (rs ++ rest) ≡ rs
unfolding own_of
own_within [] rest w e = e
own_within (r ∷ rs) rest w e = rw (stays r w.0) (ap (λ (l : List (List ℕ)). r ∷ l) (own_within rs rest w.1 e))

-- ---- what is counted of them

-- with one record more
pub tallied_snoc : (t : Tally) (rs : List (List ℕ)) (r : List ℕ) → tallied t (rs ++ r ∷ []) ≡ with_record (kind_of r) (tallied t rs) r
unfolding tallied
tallied_snoc t [] r = refl
tallied_snoc t (x ∷ rs) r = tallied_snoc (with_record (kind_of x) t x) rs r

record_below : {n : ℕ} (k : Kind) (t : Tally) (r : List ℕ) → length r ≡ 94 → Below n t → Below (n + 10 ^ 10) (with_record k t r)
unfolding with_record
record_below FileHeader t r l b = below_more t (omega arith) b
record_below BatchHeader t r l b = below_more t (omega arith) b
record_below Individual t r l b = below_individual t r l b
record_below Additional t r l b = below_more _ (omega arith) (below_additional t b)
record_below BatchControl t r l b = below_more t (omega arith) b
record_below FileControl t r l b = below_more t (omega arith) b
record_below Other t r l b = below_more t (omega arith) b

pub tallied_below : {n : ℕ} (t : Tally) (rs : List (List ℕ)) → Sized 94 rs → Below n t → Below (n + length rs * 10 ^ 10) (tallied t rs)
unfolding tallied
tallied_below {n = n} t [] z b = below_more t (omega arith) b
tallied_below {n = n} t (r ∷ rs) z b =
    below_more (tallied (with_record (kind_of r) t r) rs) (omega arith) (tallied_below {n = n + 10 ^ 10} (with_record (kind_of r) t r) rs z.1 (record_below (kind_of r) t r z.0 b))
