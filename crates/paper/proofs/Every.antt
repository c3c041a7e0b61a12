-- Tests of every byte, over the test: of lists joined and of their parts.
use Prim.Native.Nat.{ℕ, zero, suc, ◌<◌}
use mathlib.Core.Bool.{Bool}
use mathlib.Core.List.{List, [], ◌∷◌, ◌++◌}
use native.Mathlib.Omega.{arith}
use lib.Dec.{T}
use lib.ListN.{length, get_or, set, take, drop}
use Rattle.paper.specs.Fields.{every}
use Rattle.paper.proofs.Tests.{and_l, and_r, and_both}
use Rattle.paper.proofs.Digits.{every_append}

module _ (test : ℕ → Bool) where
  -- it holds of the byte at each place
  pub every_at : (l : List ℕ) (i : ℕ) → T (every test l) → i < length l → T (test (get_or l i 0))
  unfolding every
  every_at [] i t h = absurd (omega arith)
  every_at (b ∷ l) zero t h = and_l (test b) (every test l) t
  every_at (b ∷ l) (suc i) t h = every_at l i (and_r (test b) (every test l) t) (omega arith)

  -- and of the byte put in another's place
  pub every_set : (l : List ℕ) (i d : ℕ) → T (every test l) → T (test d) → T (every test (set l i d))
  unfolding every
  every_set [] i d t h = t
  every_set (b ∷ l) zero d t h = and_both (test d) (every test l) h (and_r (test b) (every test l) t)
  every_set (b ∷ l) (suc i) d t h =
      and_both (test b) (every test (set l i d)) (and_l (test b) (every test l) t) (every_set l i d (and_r (test b) (every test l) t) h)

  pub every_both : (a b : List ℕ) → T (every test a) → T (every test b) → T (every test (a ++ b))
  every_both a b s t = rw (every_append test a b) (and_both (every test a) (every test b) s t)

  pub every_drop : (n : ℕ) (l : List ℕ) → T (every test l) → T (every test (drop n l))
  unfolding every
  every_drop zero l h = h
  every_drop (suc n) [] h = h
  every_drop (suc n) (b ∷ l) h = every_drop n l (and_r (test b) (every test l) h)

  pub every_take : (n : ℕ) (l : List ℕ) → T (every test l) → T (every test (take n l))
  unfolding every
  every_take zero l h = tt
  every_take (suc n) [] h = h
  every_take (suc n) (b ∷ l) h = and_both (test b) (every test (take n l)) (and_l (test b) (every test l) h) (every_take n l (and_r (test b) (every test l) h))

  -- what every byte of one test passes in another
  pub every_other : (other : ℕ → Bool) → ((b : ℕ) → T (test b) → T (other b)) → (l : List ℕ) → T (every test l) → T (every other l)
  unfolding every
  every_other other o [] h = tt
  every_other other o (b ∷ l) h =
      and_both (other b) (every other l) (o b (and_l (test b) (every test l) h)) (every_other other o l (and_r (test b) (every test l) h))
