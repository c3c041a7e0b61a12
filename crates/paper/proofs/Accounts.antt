-- What the check digit finds: an account with one position changed is bad, and of the digits that may stand last exactly one is good.
use Prim.Native.Nat.{ℕ, zero, suc, ◌+◌, ◌-◌, ◌*◌, ◌/◌, ◌%◌, ◌≤◌, ◌<◌}
use mathlib.Core.Bool.{Bool, true, false, ◌&&◌, ◌||◌}
use mathlib.Core.List.{List, [], ◌∷◌, ◌++◌}
use mathlib.Core.Path.{◌≡◌, refl, sym, ap, ap₂, ◌∙◌}
use native.Mathlib.Omega.{arith}
use borrow.Author.Tests.{eqb-true, eqb-false, eq-eqb, ne_eqb, leb-true, leb-false, le-leb}
use lib.Dec.{T, eqb, leb}
use lib.ListN.{length, take, drop, get_or, set, length-take, length-drop, length-set}
use lib.Seq.{drop-cons, get_or-set_same, set-get_or, take-set-lt, drop-set-add, take_at, drop_at}
use Rattle.paper.specs.Fields.{field, among, every, digit, digits, value_from, value, is, bytes}
use Rattle.paper.specs.Accounts.{weights, weighted, block_good, account_checked}
use Rattle.paper.proofs.Tests.{not_both, and_l, and_r, or_go, T_of, of_T, same→eq}
use Rattle.paper.proofs.Digits.{digit_range, every_append}
use Rattle.paper.proofs.Every.{every_at}
use Rattle.paper.proofs.Runs.{Run, in_run}
use Rattle.paper.proofs.Lists.{field_at}

-- a good block is digits
pub block_is_digits : (f : List ℕ) → T (block_good f) → T (digits f)
unfolding block_good
block_is_digits f t = and_l (digits f) _ t

-- ---- the sum, the check digit with weight 1

abbrev all_weights : List ℕ
all_weights = weights ++ 1 ∷ []

weighted_none : (ws : List ℕ) → weighted ws [] ≡ 0
unfolding weighted
weighted_none [] = refl
weighted_none (w ∷ ws) = refl

weighted_append : (u v f : List ℕ) → weighted (u ++ v) f ≡ weighted u (take (length u) f) + weighted v (drop (length u) f)
unfolding weighted
weighted_append [] v f = omega arith
weighted_append (w ∷ u) v [] = omega (arith, weighted_none v)
weighted_append (w ∷ u) v (d ∷ f) = omega (arith, weighted_append u v f)

-- of a block the rule is one sum
block_sum : (f : List ℕ) → length f ≡ 14 → block_good f ≡ (digits f && eqb (weighted all_weights f % 10) 0)
unfolding block_good weighted value_from
block_sum f l =
    let at = drop-cons f 13 0 (omega arith) in
    let sum : weighted weights (take 13 f) + value (take 1 (drop 13 f)) ≡ weighted all_weights f = rw (weighted_append weights (1 ∷ []) f, at) (omega arith) in
    ap (λ (n : ℕ). digits f && eqb (n % 10) 0) sum

-- one digit's share of it
weighted_set : (ws f : List ℕ) (i d : ℕ) → i < length f
    → weighted ws (set f i d) + get_or ws i 0 * (get_or f i 0 - 48) ≡ weighted ws f + get_or ws i 0 * (d - 48)
unfolding weighted
weighted_set [] f i d l = omega arith
weighted_set (w ∷ ws) [] i d l = absurd (omega arith)
weighted_set (w ∷ ws) (x ∷ f) zero d l = omega arith
weighted_set (w ∷ ws) (x ∷ f) (suc i) d l = omega (arith, weighted_set ws f i d (omega arith))

-- ---- one position changed

-- each weight is prime to ten: its product with a digit has a unit of its own, from which another factor brings the digit back
module _ (w x y s : ℕ) (h : x < 10) (k : y < 10) (p : (s + w * x) % 10 ≡ 0) (q : (s + w * y) % 10 ≡ 0) where
  brought_back : (n back : ℕ) → Run (λ z. back * (n * z % 10) % 10 ≡ z) 0 10 → T (eqb w n) → x ≡ y
  brought_back n back each e =
      let units : w * x % 10 ≡ w * y % 10 = omega (arith, p, q) in
      let is_so : w ≡ n = eqb-true w n (of_T (eqb w n) e) in
      let digit = in_run (λ z. back * (n * z % 10) % 10 ≡ z) 0 10 each in
      sym (digit x (omega arith) h) ∙ (ap (λ (u : ℕ). back * u % 10) (rw is_so at units) ∙ digit y (omega arith) k)

  same_digit : T (among (1 ∷ 3 ∷ 7 ∷ 9 ∷ []) w) → x ≡ y
  unfolding among
  same_digit t =
      or_go (eqb w 1) (eqb w 3 || (eqb w 7 || (eqb w 9 || false))) t (brought_back 1 1 (search depth 12))
      (λ t. or_go (eqb w 3) (eqb w 7 || (eqb w 9 || false)) t (brought_back 3 7 (search depth 12))
      (λ t. or_go (eqb w 7) (eqb w 9 || false) t (brought_back 7 3 (search depth 12))
      (λ t. or_go (eqb w 9) false t (brought_back 9 9 (search depth 12)) (λ (f : T false). absurd f))))

module _ (f : List ℕ) (l : length f ≡ 14) (i : ℕ) (k : i < 14) where
  -- of a good block, a digit's value is below ten, and the sum holds its share
  share : (d : ℕ) → block_good (set f i d) ≡ true
      → (48 ≤ d) × (d ≤ 57) × ((weighted all_weights (set f i 48) + get_or all_weights i 0 * (d - 48)) % 10 ≡ 0)
  share d h = go (rw (block_sum (set f i d) (length-set f i d ∙ l)) at (T_of h))
    where
      go : T (digits (set f i d) && eqb (weighted all_weights (set f i d) % 10) 0)
          → (48 ≤ d) × (d ≤ 57) × ((weighted all_weights (set f i 48) + get_or all_weights i 0 * (d - 48)) % 10 ≡ 0)
      go t =
          let sum = eqb (weighted all_weights (set f i d) % 10) 0 in
          let one = every_at digit (set f i d) i (and_l (digits (set f i d)) sum t) (omega (arith, length-set f i d)) in
          let r = digit_range d (rw (get_or-set_same f i d 0 (omega arith)) at one) in
          let whole = eqb-true (weighted all_weights (set f i d) % 10) 0 (of_T sum (and_r (digits (set f i d)) sum t)) in
          let own = weighted_set all_weights f i d (omega arith) in
          let none = weighted_set all_weights f i 48 (omega arith) in
          let e : weighted all_weights (set f i d) ≡ weighted all_weights (set f i 48) + get_or all_weights i 0 * (d - 48) = omega (arith, own, none) in
          (r.0, r.1, ap (λ (n : ℕ). n % 10) (sym e) ∙ whole)

  only_one : (d e : ℕ) → block_good (set f i d) ≡ true → block_good (set f i e) ≡ true → d ≡ e
  unfolding every among
  only_one d e h g =
      let a = share d h in
      let b = share e g in
      let prime = every_at (among (1 ∷ 3 ∷ 7 ∷ 9 ∷ [])) all_weights i tt k in
      let alike = same_digit (get_or all_weights i 0) (d - 48) (e - 48) (weighted all_weights (set f i 48)) (omega (arith, a)) (omega (arith, b)) a.2 b.2 prime in
      omega (arith, a, b, alike)

-- what a good account says of its two parts
module _ (r : List ℕ) (t : T (is (field r 13 15) "000" && block_good (field r 16 29))) where
  zeros_before : field r 13 15 ≡ bytes "000"
  zeros_before = same→eq (field r 13 15) (bytes "000") (and_l (is (field r 13 15) "000") (block_good (field r 16 29)) t)

  block_behind : block_good (field r 16 29) ≡ true
  block_behind = of_T (block_good (field r 16 29)) (and_r (is (field r 13 15) "000") (block_good (field r 16 29)) t)

-- whatever then stands at one position of 13 to 29, if it is not what stood there a good account is bad
-- (not so if a weight were 5, or if 13-15 were not asked)
pub one_changed : (r : List ℕ) (p d : ℕ) → length r ≡ 94 → 13 ≤ p → p ≤ 29 → (get_or r (p - 1) 0 ≡ d → ⊥) → account_checked r ≡ true
    → account_checked (set r (p - 1) d) ≡ false
unfolding account_checked
one_changed r p d l low high other h = go (account_checked s) refl
  where
    s : List ℕ
    s = set r (p - 1) d

    now : get_or s (p - 1) 0 ≡ d
    now = get_or-set_same r (p - 1) d 0 (omega arith)

    f : List ℕ
    f = field r 16 29

    changed : 16 ≤ p → field s 16 29 ≡ set f (p - 16) d
    changed k =
        let e : p - 1 ≡ 15 + (p - 16) = omega arith in
        ap (λ (i : ℕ). take 14 (drop 15 (set r i d))) e ∙ (ap (take 14) (drop-set-add 15 r (p - 16) d) ∙ take-set-lt 14 (drop 15 r) (p - 16) d (omega arith))

    same_there : account_checked s ≡ true → (q : Bool) → leb p 15 ≡ q → get_or r (p - 1) 0 ≡ d
    same_there e true q =
        let k = leb-true p 15 q in
        let alike = ap (λ (g : List ℕ). get_or g (p - 13) 0) (zeros_before r (T_of h) ∙ sym (zeros_before s (T_of e))) in
        sym (field_at r 13 15 p (omega arith) low k) ∙ (alike ∙ (field_at s 13 15 p (omega arith) low k ∙ now))
    same_there e false q =
        let k = leb-false p 15 q in
        let long : length f ≡ 14 = simp (length-take, length-drop) (omega arith) in
        let before = ap block_good (set-get_or f (p - 16) 0) ∙ block_behind r (T_of h) in
        let after = ap block_good (sym (changed (omega arith))) ∙ block_behind s (T_of e) in
        sym (field_at r 16 29 p (omega arith) (omega arith) high) ∙ only_one f long (p - 16) (omega arith) (get_or f (p - 16) 0) d before after

    go : (b : Bool) → account_checked s ≡ b → b ≡ false
    go false e = refl
    go true e = absurd (other (same_there e (leb p 15) refl))

-- ---- the last digit

-- by the first method of 003: ten less the remainder, and 0 where nothing remains
abbrev pub check_digit : List ℕ → ℕ
check_digit f = (10 - weighted weights f % 10) % 10

-- behind thirteen digits one byte is good and no other
-- (not so if 10 were answered where nothing remains, or if the last of the thirteen stood for it)
pub one_digit : (f : List ℕ) (d : ℕ) → length f ≡ 13 → digits f ≡ true → block_good (f ++ d ∷ []) ≡ eqb d (48 + check_digit f)
unfolding block_good value_from every digit
one_digit f d l h = rw (every_append digit f (d ∷ []), h, take_at f (d ∷ []) 13 l, drop_at f (d ∷ []) 13 l) (go (digit d) refl (eqb d (48 + check_digit f)) refl)
  where
    s : ℕ
    s = weighted weights f

    go : (p : Bool) → digit d ≡ p → (q : Bool) → eqb d (48 + check_digit f) ≡ q → ((p && true) && eqb ((s + (0 * 10 + (d - 48))) % 10) 0) ≡ q
    go true e true g = let r = digit_range d (T_of e) in eq-eqb ((s + (0 * 10 + (d - 48))) % 10) 0 (omega (arith, eqb-true d (48 + check_digit f) g))
    go true e false g = let r = digit_range d (T_of e) in ne_eqb ((s + (0 * 10 + (d - 48))) % 10) 0 (omega (arith, eqb-false d (48 + check_digit f) g))
    go false e true g = let c = eqb-true d (48 + check_digit f) g in absurd (not_both (ap₂ ◌&&◌ (le-leb 48 d (omega arith)) (le-leb d 57 (omega arith))) e)
    go false e false g = refl

-- the second method adds up the units of the products alone
abbrev pub units : List ℕ → List ℕ → ℕ
units [] f = 0
units (w ∷ ws) [] = 0
units (w ∷ ws) (d ∷ f) = w * (d - 48) % 10 + units ws f

same_remainder : (ws f : List ℕ) → units ws f % 10 ≡ weighted ws f % 10
unfolding weighted
same_remainder [] f = refl
same_remainder (w ∷ ws) [] = refl
same_remainder (w ∷ ws) (d ∷ f) = omega (arith, same_remainder ws f)

-- the multiple of ten that the total comes up to, less the total, is the same digit
pub second_method : (f : List ℕ) → (units weights f + 9) / 10 * 10 - units weights f ≡ check_digit f
second_method f = omega (arith, same_remainder weights f)
