-- Numbers in as many digits as they need: how many these are, and that they spell the number.
use Prim.Native.Nat.{ℕ, zero, suc, ◌+◌, ◌-◌, ◌≤◌, ◌<◌, ◌/◌, ◌%◌, ◌^◌}
use mathlib.Core.Bool.{Bool, true, false, cond}
use mathlib.Core.List.{[], ◌∷◌, ◌++◌}
use mathlib.Core.Path.{◌≡◌, refl, ◌∙◌}
use native.Mathlib.Nat.{pow-zero, pow-suc, mod-eq_of_lt}
use native.Mathlib.Omega.{arith}
use lib.Dec.{T, ltb}
use lib.IntN.{ℤ, pos, negsuc, nat_abs}
use lib.Signed.{lt_z}
use lib.ListN.{length, get_or, length-append, get_or-append}
use borrow.Author.Tests.{lt-ltb, le-ltb, ltb-false, ltb-true}
use Rattle.paper.specs.Fields.{bytes, digits, value}
use Rattle.paper.specs.Writing.{spelled}
use Rattle.paper.specs.Listing.{width_by, width, decimal, signed_decimal}
use Rattle.paper.proofs.Lists.{length_spelled}
use Rattle.paper.proofs.Spelling.{digits_spelled, value_spelled}

-- ---- how many digits

-- of two digits or more, a number needs one more than its tenth
pub width_turn : (more n : ℕ) → 10 ≤ n → width_by (suc more) n ≡ suc (width_by more (n / 10))
unfolding width_by
width_turn more n h = rw (le-ltb n 10 h)

pub width_end : (more n : ℕ) → n < 10 → width_by more n ≡ 1
unfolding width_by
width_end zero n h = refl
width_end (suc more) n h = rw (lt-ltb n 10 h)

pub tenth : (w n : ℕ) → n < 10 ^ suc w → n / 10 < 10 ^ w
tenth w n h = omega (arith, pow-suc 10 w)

-- so many digits were counted, and the rest needs at most those that are left of twenty
abbrev pub Counted : ℕ → ℕ → ℕ → Type 0
Counted n count rest = (1 ≤ count) × (count ≤ 20) × (width n + 1 ≡ count + width_by (20 - count) rest) × (rest < 10 ^ (21 - count))

pub counted_turn : (n count rest : ℕ) → 10 ≤ rest → Counted n count rest → Counted n (count + 1) (rest / 10)
counted_turn n count rest h k = go (20 - count) refl k.2 (let e : 21 - count ≡ suc (20 - count) = omega arith in rw e at k.3)
  where
    go : (left : ℕ) → 20 - count ≡ left → width n + 1 ≡ count + width_by left rest → rest < 10 ^ suc left → Counted n (count + 1) (rest / 10)
    go zero e p l = absurd (omega (arith, pow-suc 10 0, pow-zero 10))
    go (suc m) e p l =
        let a : 20 - (count + 1) ≡ m = omega arith in
        let b : 21 - (count + 1) ≡ suc m = omega arith in
        (omega arith, omega arith, rw a (omega (arith, width_turn m rest h)), rw b (tenth (suc m) rest l))

-- a number below 10 to the w needs no more than w digits
width_by_most : (more w n : ℕ) → n < 10 ^ suc w → width_by more n ≤ suc w
unfolding width_by
width_by_most zero w n h = omega arith
width_by_most (suc more) w n h = go (ltb n 10) refl w h (λ v. width_by_most more v (n / 10))
  where
    go : (b : Bool) → ltb n 10 ≡ b → (v : ℕ) → n < 10 ^ suc v → ((u : ℕ) → n / 10 < 10 ^ suc u → width_by more (n / 10) ≤ suc u)
        → cond b 1 (suc (width_by more (n / 10))) ≤ suc v
    go true e v h r = omega arith
    go false e zero h r = absurd (omega (arith, ltb-false n 10 e, pow-suc 10 0, pow-zero 10))
    go false e (suc u) h r = omega (arith, r u (tenth (suc u) n h))

pub width_most : (w n : ℕ) → n < 10 ^ w → 1 ≤ w → width n ≤ w
unfolding width
width_most zero n h k = absurd (omega arith)
width_most (suc w) n h k = width_by_most 19 w n h

-- and no number more than twenty
width_by_all : (more n : ℕ) → width_by more n ≤ suc more
unfolding width_by
width_by_all zero n = omega arith
width_by_all (suc more) n = go (ltb n 10) (width_by_all more (n / 10))
  where
    go : (b : Bool) → width_by more (n / 10) ≤ suc more → cond b 1 (suc (width_by more (n / 10))) ≤ suc (suc more)
    go true r = omega arith
    go false r = omega arith

-- what holds of one digit, and of one more than the tenth's, holds of as many as the number needs
by_tenths : (P : ℕ → ℕ → Type 0) → ((n : ℕ) → n < 10 → P n 1) → ((n w : ℕ) → 10 ≤ n → P (n / 10) w → P n (suc w))
    → (more n : ℕ) → n < 10 ^ suc more → P n (width_by more n)
unfolding width_by
by_tenths P one next zero n h = one n (omega (arith, pow-suc 10 0, pow-zero 10))
by_tenths P one next (suc more) n h = go (ltb n 10) refl (by_tenths P one next more (n / 10) (tenth (suc more) n h))
  where
    go : (b : Bool) → ltb n 10 ≡ b → P (n / 10) (width_by more (n / 10)) → P n (cond b 1 (suc (width_by more (n / 10))))
    go true e r = one n (ltb-true n 10 e)
    go false e r = next n (width_by more (n / 10)) (ltb-false n 10 e) r

-- as many digits as it needs are enough
width_enough : (n : ℕ) → n < 10 ^ 20 → n < 10 ^ width n
unfolding width
width_enough n h = by_tenths (λ n w. n < 10 ^ w) (λ n k. omega (arith, pow-suc 10 0, pow-zero 10)) (λ n w k r. omega (arith, pow-suc 10 w)) 19 n h

pub length_decimal : (n : ℕ) → length (decimal n) ≡ width n
unfolding decimal
length_decimal n = length_spelled (width n) n

pub decimal_most : (n : ℕ) → length (decimal n) ≤ 20
unfolding width
decimal_most n = omega (arith, length_decimal n, width_by_all 19 n)

-- ---- what they spell

-- what is printed is the number
pub value_decimal : (n : ℕ) → n < 10 ^ 20 → value (decimal n) ≡ n
unfolding decimal
value_decimal n h = value_spelled (width n) n ∙ mod-eq_of_lt (width_enough n h)

-- all are digits
pub digits_decimal : (n : ℕ) → T (digits (decimal n))
unfolding decimal
digits_decimal n = digits_spelled (width n) n

-- the first is no zero, but in the number zero itself
pub first_decimal : (n : ℕ) → 0 < n → n < 10 ^ 20 → 48 < get_or (decimal n) 0 0
unfolding decimal width spelled
first_decimal n g h =
    (by_tenths (λ n w. (0 < w) × (0 < n → 48 < get_or (spelled w n) 0 0)) (λ n k. (omega arith, λ g. omega arith))
    (λ n w k r. (omega arith, λ g. on n w r.0 (r.1 (omega arith)))) 19 n h).1 g
  where
    on : (n w : ℕ) → 0 < w → 48 < get_or (spelled w (n / 10)) 0 0 → 48 < get_or (spelled (suc w) n) 0 0
    on n w h k = rw (get_or-append (spelled w (n / 10)) ((48 + n % 10) ∷ []) 0 0 (omega (arith, length_spelled w (n / 10)))) k

-- ---- a minus sign where negative

pub signed_down : (n : ℤ) → lt_z n (pos 0) ≡ true → signed_decimal n ≡ bytes "-" ++ decimal (nat_abs n)
unfolding signed_decimal
signed_down (pos n) h = absurd (omega (arith, ltb-true n 0 h))
signed_down (negsuc n) h = refl

pub signed_up : (n : ℤ) → lt_z n (pos 0) ≡ false → signed_decimal n ≡ decimal (nat_abs n)
unfolding signed_decimal
signed_up (pos n) h = refl
signed_up (negsuc n) h = let z : ◌≡◌ {A = ℕ} 0 1 = cc in absurd (omega arith)

-- one sign, and at most as many digits as any number of the size
pub signed_most : (w : ℕ) (n : ℤ) → nat_abs n < 10 ^ w → 1 ≤ w → length (signed_decimal n) ≤ 1 + w
unfolding signed_decimal
signed_most w (pos n) h k = omega (arith, length_decimal n, width_most w n h k)
signed_most w (negsuc n) h k = omega (arith, length-append (bytes "-") (decimal (suc n)), length_decimal (suc n), width_most w (suc n) h k)
