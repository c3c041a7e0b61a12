-- What the keys and bounds of a `match` arm say of the number that was matched.
use Rattle.std.proofs.Common.{◌≡◌, ℕ, ◌<◌, ◌≤◌, true, false, List, [], ◌∷◌, refl, ne_eqb, le-leb}
use borrow.Author.Tests.{lt-leb}
use Rattle.paper.specs.Fields.{within, among}

module _ (low high n : ℕ) where
  pub inside : low ≤ n → n ≤ high → true ≡ within low high n
  inside h k = simp (le-leb low n h, le-leb n high k)

  pub under : n < low → false ≡ within low high n
  under h = simp (lt-leb low n h)

  pub over : low ≤ n → high < n → false ≡ within low high n
  over h k = simp (le-leb low n h, lt-leb n high k)

-- what holds at each number listed
abbrev pub Keys : (ℕ → Type 0) → List ℕ → Type 0
Keys P [] = Unit {0}
Keys P (k ∷ ks) = P k × Keys P ks

-- a number that is none of those listed
pub apart : (n : ℕ) (xs : List ℕ) → Keys (λ x. n ≡ x → ⊥) xs → false ≡ among xs n
unfolding among
apart n [] h = refl
apart n (x ∷ xs) h = rw (ne_eqb n x h.0) (apart n xs h.1)
