-- Numbers that stood before.
use Prim.Native.Nat.{ℕ, ◌+◌, ◌≤◌, ◌<◌}
use mathlib.Core.Bool.{Bool, true, false}
use mathlib.Core.List.{List, ◌∷◌}
use mathlib.Core.Logic.{⊎_elim}
use mathlib.Core.Path.{◌≡◌}
use native.Mathlib.Nat.{eq-or-lt_of_le}
use native.Mathlib.Numerals.{add-one}
use native.Mathlib.Omega.{arith}
use Rattle.paper.specs.Kinds.{is_individual, kind_of}
use Rattle.paper.specs.Records.{number_in}
use Rattle.paper.specs.Reading.{record_at}
use Rattle.repeats.specs.Numbers.{numbers_before}

-- none up to a place, nor there
pub new_next : {test : ℕ → Bool} {from place : ℕ} → ((k : ℕ) → from ≤ k → k < place → test k ≡ false) → (from ≤ place → test place ≡ false)
    → (k : ℕ) → from ≤ k → k < place + 1 → test k ≡ false
new_next {from = from} {place = place} new e k l u =
    ⊎_elim (λ (q : k ≡ place). rw q (e (omega arith))) (λ (q : k < place). new k l q) (eq-or-lt_of_le {n = k} {m = place} (omega arith))

module _ (file : List ℕ) (place : ℕ) where
  abbrev individual : Bool
  individual = is_individual (kind_of (record_at file place))

  pub next_other : individual ≡ false → numbers_before file (place + 1) ≡ numbers_before file place
  unfolding numbers_before
  next_other e = rw (add-one, e)

  pub next_individual : {v : ℕ} → individual ≡ true → v ≡ number_in (record_at file place) → numbers_before file (place + 1) ≡ v ∷ numbers_before file place
  unfolding numbers_before
  next_individual e q = rw (add-one, e, q)
