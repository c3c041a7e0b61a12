-- Two numbers for each of many, in one buffer: where they stand.
use Prim.Native.Nat.{ℕ, zero, suc, ◌+◌, ◌*◌, ◌/◌, ◌%◌, ◌≤◌, ◌<◌}
use native.Mathlib.Omega.{arith}
use mathlib.Core.Bool.{Bool, true, false}
use mathlib.Core.List.{List, [], ◌∷◌}
use mathlib.Core.Path.{◌≡◌, refl, ◌∙◌}
use borrow.Author.Tests.{ltb-true, lt-ltb}
use lib.Dec.{ltb}
use lib.ListN.{length, get_or, set, length-set}
use lib.Seq.{get_or-set_same, get_or-set_other}
use Rattle.export.specs.Spoken.{pair_written}

module _ (i first second : ℕ) (buffer : List ℕ) where
  abbrev both : List ℕ
  both = set (set buffer (2 * i) first) (2 * i + 1) second

  pub both_written : i < length buffer / 2 → both ≡ pair_written i first second buffer
  unfolding pair_written
  both_written h = rw (lt-ltb i (length buffer / 2) h)

  pub pair_length : length (pair_written i first second buffer) ≡ length buffer
  unfolding pair_written
  pair_length = go (ltb i (length buffer / 2)) refl
    where
      go : (b : Bool) → ltb i (length buffer / 2) ≡ b → length (pair_written i first second buffer) ≡ length buffer
      go true e = rw e (length-set (set buffer (2 * i) first) (2 * i + 1) second ∙ length-set buffer (2 * i) first)
      go false e = rw e refl

  module _ (k : ℕ) where
    -- at the two indices of number i
    pub pair_at : k / 2 ≡ i → i < length buffer / 2 → get_or (pair_written i first second buffer) k 0 ≡ get_or (first ∷ second ∷ []) (k % 2) 0
    pair_at e l = rw (← both_written l) (go (k % 2) refl)
      where
        go : (j : ℕ) → k % 2 ≡ j → get_or both k 0 ≡ get_or (first ∷ second ∷ []) j 0
        go zero m =
            let q : k ≡ 2 * i = omega arith in
            rw q (get_or-set_other (set buffer (2 * i) first) (2 * i + 1) (2 * i) second 0 (λ x. omega arith) ∙ get_or-set_same buffer (2 * i) first 0 (omega arith))
        go (suc zero) m =
            let q : k ≡ 2 * i + 1 = omega arith in
            rw q (get_or-set_same (set buffer (2 * i) first) (2 * i + 1) second 0 (rw length-set (omega arith)))
        go (suc (suc j)) m = absurd (omega arith)

    -- at any other, and where there is no room for both
    pub pair_apart : (k / 2 ≡ i → length buffer / 2 ≤ i) → get_or (pair_written i first second buffer) k 0 ≡ get_or buffer k 0
    unfolding pair_written
    pair_apart h = go (ltb i (length buffer / 2)) refl
      where
        other : i < length buffer / 2 → k / 2 ≡ i → ⊥
        other l e = let none = h e in omega arith

        go : (b : Bool) → ltb i (length buffer / 2) ≡ b → get_or (pair_written i first second buffer) k 0 ≡ get_or buffer k 0
        go true e =
            let l : i < length buffer / 2 = ltb-true i (length buffer / 2) e in
            rw e
            (get_or-set_other (set buffer (2 * i) first) (2 * i + 1) k second 0 (λ x. other l (omega arith)) ∙ get_or-set_other buffer (2 * i) k first 0 (λ x. other l (omega arith)))
        go false e = rw e refl
