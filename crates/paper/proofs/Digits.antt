-- Digit fields, over the length: a field of digits is its value spelled out, and the value is below 10 to the length.
use Prim.Native.Nat.{ℕ, zero, suc, ◌+◌, ◌*◌, ◌-◌, ◌≤◌, ◌<◌, ◌/◌, ◌%◌, ◌^◌}
use native.Mathlib.Nat.{pow-zero, pow-suc, mod-lt}
use native.Mathlib.Omega.{arith}
use mathlib.Core.Bool.{Bool, true, false, ◌&&◌, cond, and_assoc}
use mathlib.Core.List.{[], List, ◌∷◌, ◌++◌}
use mathlib.Core.Path.{◌≡◌, refl, sym, ap, ◌∙◌, ap₂}
use lib.Arith.{mod-mul, digits_div, digits_mod}
use lib.Dec.{eqb, T, eqb→eq}
use lib.ListN.{length, get_or, take}
use lib.Seq.{take_all, length-take-le, take-suc}
use Rattle.paper.specs.Fields.{every, digit, digits, value_from, value, number, spells}
use Rattle.paper.specs.Writing.{spelled}
use Rattle.paper.proofs.Tests.{and_l, and_r, T_of, within_range}

-- a list as long as suc w, cut before its last element

pub cut_last : (w : ℕ) (f : List ℕ) → length f ≡ suc w → f ≡ take w f ++ get_or f w 0 ∷ []
cut_last w f h = sym (take_all (suc w) f (omega arith)) ∙ take-suc f w 0 (omega arith)

pub value_from_snoc : (n : ℕ) (f : List ℕ) (d : ℕ) → value_from n (f ++ d ∷ []) ≡ value_from n f * 10 + (d - 48)
unfolding value_from
value_from_snoc n [] d = refl
value_from_snoc n (x ∷ f) d = value_from_snoc (n * 10 + (x - 48)) f d

pub every_append : (p : ℕ → Bool) (a b : List ℕ) → every p (a ++ b) ≡ (every p a && every p b)
unfolding every
every_append p [] b = refl
every_append p (x ∷ a) b = ap (λ (c : Bool). p x && c) (every_append p a b) ∙ sym (and_assoc (p x) (every p a) (every p b))

pub every_l : (p : ℕ → Bool) (a b : List ℕ) → T (every p (a ++ b)) → T (every p a)
every_l p a b t = and_l (every p a) (every p b) (rw (every_append p a b) at t)

pub every_r : (p : ℕ → Bool) (a b : List ℕ) → T (every p (a ++ b)) → T (every p b)
every_r p a b t = and_r (every p a) (every p b) (rw (every_append p a b) at t)

pub digit_range : (d : ℕ) → T (digit d) → (48 ≤ d) × (d ≤ 57)
unfolding digit
digit_range d t = within_range 48 57 d t

-- a field of w digits is its value in w digits
pub spelled_value : (w : ℕ) (f : List ℕ) → length f ≡ w → T (digits f) → spelled w (value f) ≡ f
unfolding spelled every
spelled_value zero [] h t = refl
spelled_value zero (x ∷ f) h t = absurd (omega arith)
spelled_value (suc w) f h t =
    let e : f ≡ take w f ++ get_or f w 0 ∷ [] = cut_last w f h in
    let d : ℕ = get_or f w 0 in
    let t2 : T (every digit (take w f ++ d ∷ [])) = rw e at t in
    let r : (48 ≤ d) × (d ≤ 57) = digit_range d (and_l (digit d) true (every_r digit (take w f) (d ∷ []) t2)) in
    let lt : d - 48 < 10 = omega arith in
    let v : value f ≡ value (take w f) * 10 + (d - 48) = ap value e ∙ value_from_snoc 0 (take w f) d in
    ap₂ (λ (a : ℕ) (b : ℕ). spelled w a ++ (48 + b) ∷ []) (ap (λ (x : ℕ). x / 10) v ∙ digits_div (value (take w f)) lt) (ap (λ (x : ℕ). x % 10) v ∙ digits_mod (value (take w f)) lt)
    ∙ ap₂ (λ (a : List ℕ) (b : ℕ). a ++ b ∷ []) (spelled_value w (take w f) (length-take-le w f (omega arith)) (every_l digit (take w f) (d ∷ []) t2)) (omega arith)
    ∙ sym e

pub value_bound : (w : ℕ) (f : List ℕ) → length f ≡ w → T (digits f) → value f < 10 ^ w
unfolding value_from every
value_bound zero [] h t = omega (arith, pow-zero 10)
value_bound zero (x ∷ f) h t = absurd (omega arith)
value_bound (suc w) f h t =
    let e : f ≡ take w f ++ get_or f w 0 ∷ [] = cut_last w f h in
    let d : ℕ = get_or f w 0 in
    let t2 : T (every digit (take w f ++ d ∷ [])) = rw e at t in
    let r : (48 ≤ d) × (d ≤ 57) = digit_range d (and_l (digit d) true (every_r digit (take w f) (d ∷ []) t2)) in
    let v : value f ≡ value (take w f) * 10 + (d - 48) = ap value e ∙ value_from_snoc 0 (take w f) d in
    let i : value (take w f) < 10 ^ w = value_bound w (take w f) (length-take-le w f (omega arith)) (every_l digit (take w f) (d ∷ []) t2) in
    omega (arith, pow-suc 10 w, v)

-- a field that spells n is n in as many digits
pub spells_spelled : (w : ℕ) (f : List ℕ) (n : ℕ) → length f ≡ w → T (spells f n) → f ≡ spelled w n
unfolding spells
spells_spelled w f n h t =
    sym (spelled_value w f h (and_l (digits f) (eqb (value f) n) t)) ∙ ap (spelled w) (eqb→eq (value f) n (and_r (digits f) (eqb (value f) n) t))

pub ten_pos : (w : ℕ) → 0 < 10 ^ w
ten_pos zero = omega (arith, pow-zero 10)
ten_pos (suc w) = omega (arith, pow-suc 10 w, ten_pos w)

-- whatever stands in a field of w bytes, its number is below 10 to the w
pub number_bound : (w : ℕ) (f : List ℕ) → length f ≡ w → number f < 10 ^ w
unfolding number
number_bound w f h = go (digits f) refl
  where
    go : (b : Bool) → digits f ≡ b → cond b (value f) 0 < 10 ^ w
    go true e = value_bound w f h (T_of e)
    go false e = ten_pos w

-- only the last w digits count
pub spelled_mod : (w n : ℕ) → spelled w (n % 10 ^ w) ≡ spelled w n
unfolding spelled
spelled_mod zero n = refl
spelled_mod (suc w) n =
    let lt : n % 10 < 10 = mod-lt n (omega arith) in
    let m : n % 10 ^ suc w ≡ (n / 10 % 10 ^ w) * 10 + n % 10 = ap (λ (x : ℕ). n % x) (pow-suc 10 w) ∙ mod-mul n (ten_pos w) (omega arith) in
    ap₂ (λ (a : ℕ) (b : ℕ). spelled w a ++ (48 + b) ∷ []) (ap (λ (x : ℕ). x / 10) m ∙ digits_div (n / 10 % 10 ^ w) lt) (ap (λ (x : ℕ). x % 10) m ∙ digits_mod (n / 10 % 10 ^ w) lt)
    ∙ ap (λ (l : List ℕ). l ++ (48 + n % 10) ∷ []) (spelled_mod w (n / 10))
