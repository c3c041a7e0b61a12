-- What is written are characters: digits and blanks.
use Prim.Native.Nat.{ℕ, zero, suc}
use native.Mathlib.Omega.{arith}
use lib.Dec.{T}
use borrow.Author.Tests.{le-leb, ne_eqb}
use Rattle.paper.specs.Fields.{every, good, digit, among}
use Rattle.paper.specs.Writing.{spelled, blanks}
use Rattle.paper.proofs.Digits.{digit_range}
use Rattle.paper.proofs.Every.{every_other}
use Rattle.paper.proofs.Spelling.{digits_spelled}

-- digits are characters
pub digit_good : (b : ℕ) → T (digit b) → T (good b)
unfolding good among
digit_good b t =
    let r = digit_range b t in
    rw (
      le-leb 32 b (omega arith),
      le-leb b 95 (omega arith),
      ne_eqb b 34 (omega arith),
      ne_eqb b 38 (omega arith),
      ne_eqb b 39 (omega arith),
      ne_eqb b 91 (omega arith),
      ne_eqb b 92 (omega arith),
      ne_eqb b 93 (omega arith),
      ne_eqb b 94 (omega arith),
    ) tt

pub good_spelled : (w n : ℕ) → T (every good (spelled w n))
good_spelled w n = every_other digit good digit_good (spelled w n) (digits_spelled w n)

pub good_blanks : (n : ℕ) → T (every good (blanks n))
unfolding blanks every good among
good_blanks zero = tt
good_blanks (suc n) = good_blanks n
