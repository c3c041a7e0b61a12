-- Numbers as they are written into fields: digits, which spell the number where it fits.
use Prim.Native.Nat.{ℕ, zero, suc, ◌+◌, ◌-◌, ◌≤◌, ◌<◌, ◌/◌, ◌%◌, ◌^◌}
use native.Mathlib.Nat.{pow-zero, pow-suc, mod-one, mod-eq_of_lt}
use native.Mathlib.Omega.{arith}
use mathlib.Core.List.{List, [], ◌∷◌}
use mathlib.Core.Path.{◌≡◌}
use lib.Arith.{mod-mul}
use lib.Dec.{T, eqb, eqb_refl, eqb→eq}
use lib.ListN.{length}
use borrow.Author.Tests.{le-leb}
use Rattle.paper.specs.Fields.{every, digit, digits, value, value_from, spells}
use Rattle.paper.specs.Writing.{spelled}
use Rattle.paper.proofs.Tests.{and_l, and_r, and_both}
use Rattle.paper.proofs.Digits.{value_from_snoc, value_bound, ten_pos}
use Rattle.paper.proofs.Every.{every_both}

pub digits_spelled : (w n : ℕ) → T (digits (spelled w n))
unfolding spelled every digit
digits_spelled zero n = tt
digits_spelled (suc w) n =
    every_both digit (spelled w (n / 10)) ((48 + n % 10) ∷ []) (digits_spelled w (n / 10)) (last (48 + n % 10) (omega arith) (omega arith))
  where
    last : (d : ℕ) → 48 ≤ d → d ≤ 57 → T (every digit (d ∷ []))
    last d h k = rw (le-leb 48 d h, le-leb d 57 k) tt

-- so many digits spell the number but for what is above them
pub value_spelled : (w n : ℕ) → value (spelled w n) ≡ n % 10 ^ w
unfolding spelled value_from
value_spelled zero n = rw (pow-zero, mod-one)
value_spelled (suc w) n =
    let e : 48 + n % 10 - 48 ≡ n % 10 = omega arith in
    rw (value_from_snoc 0 (spelled w (n / 10)) (48 + n % 10), value_spelled w (n / 10), e, pow-suc, mod-mul n {m = 10 ^ w} {c = 10} (ten_pos w) (omega arith))

-- a sum that keeps its last digits, and a number that fits
pub spells_last : (w n : ℕ) → T (spells (spelled w n) (n % 10 ^ w))
unfolding spells
spells_last w n = and_both (digits (spelled w n)) (eqb (value (spelled w n)) (n % 10 ^ w)) (digits_spelled w n) (rw (value_spelled w n) (eqb_refl (n % 10 ^ w)))

pub spells_own : (w n : ℕ) → n < 10 ^ w → T (spells (spelled w n) n)
spells_own w n h = rw (mod-eq_of_lt h) at (spells_last w n)

-- what is spelled in so many digits is below
pub spells_below : (w n : ℕ) (f : List ℕ) → length f ≡ w → T (spells f n) → n < 10 ^ w
unfolding spells
spells_below w n f l t = rw (eqb→eq (value f) n (and_r (digits f) (eqb (value f) n) t)) at (value_bound w f l (and_l (digits f) (eqb (value f) n) t))
