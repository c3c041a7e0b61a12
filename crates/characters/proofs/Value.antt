-- The value of digits, one digit further, for any length.
use Rattle.std.proofs.Common.{◌≡◌, ℕ, ◌+◌, ◌-◌, ◌*◌, ◌%◌, ◌^◌, ◌<◌, ◌≤◌, Bool, true, false, cond, ◌&&◌, T, eqb, ltb, List, [], ◌∷◌, ◌++◌, length, get_or, drop, sym, refl, ap, ◌∙◌, mul_assoc, add-mul, pow-suc, zero-add, add-one, arith, lit<, drop_of_length-le, drop-cons}
use mathlib.Core.Bool.{and-false}
use native.Mathlib.Nat.{pow-zero, pow-le-pow_right, pow-succ'}
use Rattle.paper.specs.Fields.{digit, digits, value, value_from, number, spells}
use Rattle.paper.proofs.Tests.{within_range, T_of}
use Rattle.paper.proofs.Digits.{every_append}
use Rattle.paper.proofs.Every.{every_at}

-- i digits have been read, and they spell n
abbrev pub Read : List ℕ → ℕ → ℕ → Type 0
Read s n i = T (digits s) → value s ≡ value_from n (drop i s)

module _ (s : List ℕ) (n i : ℕ) where
  value_turn : i < length s → value_from n (drop i s) ≡ value_from (n * 10 + (get_or s i 0 - 48)) (drop (i + 1) s)
  unfolding value_from
  value_turn h = simp (add-one, drop-cons s i 0 h)

  -- the low four bits of a digit are its value
  pub read_turn : i < length s → Read s n i → Read s (n * 10 + get_or s i 0 % 16) (i + 1)
  unfolding digit
  read_turn h k t =
      let d = within_range 48 57 (get_or s i 0) (every_at digit s i t h) in
      let low : get_or s i 0 - 48 ≡ get_or s i 0 % 16 = omega arith in
      k t ∙ (value_turn h ∙ rw low)

  pub read_end : length s ≤ i → Read s n i → T (digits s) → n ≡ value s
  unfolding value_from
  read_end h k t = simp (k t, drop_of_length-le s h)

-- any byte adds at most 15, so that eighteen of them fit
pub small : (i n : ℕ) → i ≤ 17 → n + 2 ≤ 2 * 10 ^ i → n < 200000000000000000
small i n h k = omega (arith, pow-le-pow_right {n = 10} (lit< tt) h)

pub grown : (i n : ℕ) {d : ℕ} → d ≤ 15 → n + 2 ≤ 2 * 10 ^ i → n * 10 + d + 2 ≤ 2 * 10 ^ (i + 1)
grown i n h k = rw (add-one, pow-suc) (omega arith)

module _ (f : List ℕ) where
  pub a_number : {n : ℕ} → digits f ≡ true → n ≡ value f → n ≡ number f
  unfolding number
  a_number e q = rw (e, q)

  pub no_number : digits f ≡ false → 0 ≡ number f
  unfolding number
  no_number e = rw e

  -- a number above 0 is one of digits
  pub some_number : (digits f && ltb 0 (number f)) ≡ ltb 0 (number f)
  unfolding number
  some_number = go (digits f) refl
    where
      go : (d : Bool) → digits f ≡ d → (d && ltb 0 (cond d (value f) 0)) ≡ ltb 0 (cond d (value f) 0)
      go true e = refl
      go false e = refl

  -- the value counts where all are digits
  pub spelled : (d : Bool) (n m : ℕ) → d ≡ digits f → (T (digits f) → n ≡ value f) → (d && eqb n m) ≡ spells f m
  unfolding spells
  spelled true n m e q = rw (← e, q (T_of (sym e)))
  spelled false n m e q = rw (← e)

-- ---- digits joined

value_through : (n : ℕ) (a b : List ℕ) → value_from n (a ++ b) ≡ value_from (value_from n a) b
unfolding value_from
value_through n [] b = refl
value_through n (d ∷ a) b = value_through (n * 10 + (d - 48)) a b

value_from_lem : (n : ℕ) (b : List ℕ) → value_from n b ≡ n * 10 ^ length b + value b
unfolding value_from
value_from_lem n [] = rw (pow-zero 10) (omega arith)
value_from_lem n (d ∷ b) =
    let p : ℕ = 10 ^ length b in
    let x = value_from_lem (n * 10 + (d - 48)) b in
    let y = value_from_lem (d - 48) b in
    let z : (n * 10 + (d - 48)) * p ≡ n * (10 * p) + (d - 48) * p = add-mul (n * 10) (d - 48) p ∙ ap (λ (q : ℕ). q + (d - 48) * p) (mul_assoc n 10 p) in
    rw (x, zero-add (d - 48), y, pow-succ' 10 (length b)) (omega (arith, z))

pub value_append : (a b : List ℕ) → value (a ++ b) ≡ value a * 10 ^ length b + value b
value_append a b = value_through 0 a b ∙ value_from_lem (value a) b

-- the number of two fields joined, where both are digits
module _ (a b : List ℕ) where
  pub number_joined : digits a ≡ true → digits b ≡ true → number (a ++ b) ≡ value a * 10 ^ length b + value b
  unfolding number
  number_joined h k = rw (every_append digit a b, h, k) (value_append a b)

  pub first_none : digits a ≡ false → 0 ≡ number (a ++ b)
  unfolding number
  first_none h = rw (every_append digit a b, h)

  pub last_none : digits b ≡ false → 0 ≡ number (a ++ b)
  unfolding number
  last_none h = rw (every_append digit a b, h, and-false (digits a))
