-- Laws of a set of numbers in the bits of a row of bytes.
use mathlib.Core.Path.{◌≡◌, refl, sym, ◌∙◌, ap}
use mathlib.Core.Bool.{Bool, true, false, ◌||◌}
use mathlib.Core.List.{List}
use Prim.Native.Nat.{ℕ, zero, suc, ◌+◌, ◌*◌, ◌/◌, ◌%◌, ◌^◌, ◌<◌}
use native.Mathlib.Nat.{pow-succ', pow-zero, div-div-eq-div-mul, not-suc-le-zero, le_of_suc-le-suc, div-one, one-mul}
use native.Mathlib.Omega.{arith}
use lib.Bits.{bit_and, and_mask}
use lib.Dec.{eqb, eqb-zero-suc, eqb-suc-zero, eqb-suc-suc, lit<}
use lib.ListN.{length, get_or, set, replicate, get_or-replicate, length-replicate}
use lib.Pow.{shl_exact}
use lib.Seq.{get_or-set_same, get_or-set_other}
use borrow.Author.Tests.{eq-eqb, ne_eqb, eqb-true, eqb-false}
use Rattle.repeats.specs.Bits.{bit_of, has_bit, Empty}

odd_not : (b : ℕ) → eqb (b % 2) 1 ≡ false → b % 2 ≡ 0
odd_not b e = let h : b % 2 ≡ 1 → ⊥ = eqb-false (b % 2) 1 e in omega (arith, h)

bit_zero : (k : ℕ) → bit_of k 0 ≡ false
unfolding bit_of
bit_zero zero = refl
bit_zero (suc k) = bit_zero k

bit_add : (j k b : ℕ) → bit_of j b ≡ false → bit_of k (b + 2 ^ j) ≡ (eqb k j || bit_of k b)
unfolding bit_of
bit_add zero zero b e = let h : (b + 1) % 2 ≡ 1 = omega (arith, odd_not b e) in eq-eqb ((b + 1) % 2) 1 h
bit_add zero (suc k) b e = let h : (b + 1) / 2 ≡ b / 2 = omega (arith, odd_not b e) in rw (h, eqb-suc-zero)
bit_add (suc j) zero b e = let h : (b + 2 ^ suc j) % 2 ≡ b % 2 = omega (arith, pow-succ' 2 j) in rw (h, eqb-zero-suc)
bit_add (suc j) (suc k) b e =
    let h : (b + 2 ^ suc j) / 2 ≡ b / 2 + 2 ^ j = omega (arith, pow-succ' 2 j) in
    rw (h, eqb-suc-suc) (bit_add j k (b / 2) e)

bit_fits : (n j b : ℕ) → j < n → b < 2 ^ n → bit_of j b ≡ false → b + 2 ^ j < 2 ^ n
unfolding bit_of
bit_fits zero j b h l e = absurd (not-suc-le-zero h)
bit_fits (suc n) zero b h l e = omega (arith, odd_not b e, pow-succ' 2 n, pow-zero 2)
bit_fits (suc n) (suc j) b h l e =
    let p : b / 2 < 2 ^ n = omega (arith, pow-succ' 2 n) in
    omega (arith, bit_fits n j (b / 2) (le_of_suc-le-suc h) p e, pow-succ' 2 n, pow-succ' 2 j)

bit_test : (j b : ℕ) → eqb (b / 2 ^ j % 2) 1 ≡ bit_of j b
unfolding bit_of
bit_test zero b = rw (div-one)
bit_test (suc j) b = rw (pow-succ', ← div-div-eq-div-mul) (bit_test j (b / 2))

-- as the code shifts
shifted : (j : ℕ) → j < 8 → 1 * 2 ^ j % 2 ^ 8 ≡ 2 ^ j
shifted j h = shl_exact {a = 1} 1 j 8 (lit< tt) (omega arith) ∙ one-mul (2 ^ j)

-- the same number, or the same byte and another bit
same_bit : (n k : ℕ) → k / 8 ≡ n / 8 → eqb (k % 8) (n % 8) ≡ eqb k n
same_bit n k e = by (eqb (k % 8) (n % 8)) refl
  where
    by : (t : Bool) → eqb (k % 8) (n % 8) ≡ t → t ≡ eqb k n
    by true q = let h : k ≡ n = omega (arith, eqb-true (k % 8) (n % 8) q) in sym (eq-eqb k n h)
    by false q = let d : k % 8 ≡ n % 8 → ⊥ = eqb-false (k % 8) (n % 8) q in sym (ne_eqb k n (λ h. d (ap (λ (m : ℕ). m % 8) h)))

-- a new row
pub blank : (m : ℕ) → Empty (replicate m 0)
unfolding has_bit
blank m n l = let i : n / 8 < m = omega (arith, length-replicate {A = ℕ} m 0) in rw (get_or-replicate {A = ℕ} m (n / 8) 0 0 i) (bit_zero (n % 8))

module _ (s : List ℕ) (n : ℕ) where
  abbrev old : ℕ
  old = get_or s (n / 8) 0

  abbrev one : ℕ
  one = 1 * 2 ^ (n % 8) % 2 ^ 8

  pub tested : eqb (bit_and (old / 2 ^ (n % 8)) 1) 1 ≡ has_bit s n
  unfolding has_bit
  tested = rw (and_mask (old / 2 ^ (n % 8)) 1) (bit_test (n % 8) old)

  pub added_fits : old < 2 ^ 8 → has_bit s n ≡ false → old + one < 2 ^ 8
  unfolding has_bit
  added_fits l e = rw (shifted (n % 8) (omega arith)) (bit_fits 8 (n % 8) old (omega arith) l e)

  abbrev new : ℕ
  new = old + 2 ^ (n % 8)

  pub added : n / 8 < length s → has_bit s n ≡ false → (k : ℕ) → has_bit (set s (n / 8) (old + one)) k ≡ (eqb k n || has_bit s k)
  unfolding has_bit
  added l e k = rw (shifted (n % 8) (omega arith)) (by_place (eqb (k / 8) (n / 8)) refl)
    where
      by_place : (t : Bool) → eqb (k / 8) (n / 8) ≡ t → bit_of (k % 8) (get_or (set s (n / 8) new) (k / 8) 0) ≡ (eqb k n || bit_of (k % 8) (get_or s (k / 8) 0))
      by_place true q =
          let h : k / 8 ≡ n / 8 = eqb-true (k / 8) (n / 8) q in
          rw (h, get_or-set_same s (n / 8) new 0 l, ← same_bit n k h) (bit_add (n % 8) (k % 8) old e)
      by_place false q =
          let d : k / 8 ≡ n / 8 → ⊥ = eqb-false (k / 8) (n / 8) q in
          rw (get_or-set_other s (n / 8) (k / 8) new 0 d, ne_eqb k n (λ h. d (ap (λ (m : ℕ). m / 8) h)))
