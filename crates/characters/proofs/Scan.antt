-- Loops that go up a list with no way out: what has been tested, and what is left to test. A loop that leaves early has tested well so far.
use Rattle.std.proofs.Common.{◌≡◌, ℕ, Option, ◌+◌, ◌<◌, ◌≤◌, Bool, true, ◌&&◌, eqb, nat_eq, List, [], ◌∷◌, length, get_or, drop, sym, refl, ap, ◌∙◌, add-one, arith, drop_of_length-le, drop-cons, take, take_all, suc, false}
use Rattle.std.specs.List.{fold, FoldsTo}
use Rattle.std.specs.Cmp.Lexicographic.{pointwise}
use Rattle.std.specs.Fn.{Called}
use Rattle.std.specs.Iterator.{Drains}
use Rattle.std.proofs.lemmas.Iterator.{YieldsList}
use Rattle.std.proofs.lemmas.Iterator.Consumers.{fold_from_yields_List}
use denote.Param.Members.{Mut}
use mathlib.Core.Bool.{and_assoc, and-true}
use Rattle.paper.specs.Fields.{every, same}

-- `left i` is what is left to test after i turns
module _ (left : ℕ → Bool) (i : ℕ) where
  turn : (good ok : Bool) → left i ≡ (ok && left (i + 1)) → left 0 ≡ (good && left i) → left 0 ≡ (good && ok && left (i + 1))
  turn good ok e q = q ∙ (ap (λ (x : Bool). good && x) e ∙ sym (and_assoc good ok (left (i + 1))))

  finish : (good : Bool) → left i ≡ true → left 0 ≡ (good && left i) → good ≡ left 0
  finish good e q = sym (q ∙ (ap (λ (x : Bool). good && x) e ∙ and-true good))

-- the first i have been tested
abbrev pub Tested : (ℕ → Bool) → List ℕ → Bool → ℕ → Type 0
Tested p s good i = (i ≤ length s) × (every p s ≡ (good && every p (drop i s)))

module _ (p : ℕ → Bool) (s : List ℕ) (good : Bool) (i : ℕ) (k : Tested p s good i) where
  pub test_turn : {ok : Bool} → i < length s → ok ≡ p (get_or s i 0) → Tested p s (good && ok) (i + 1)
  unfolding every
  test_turn {ok} h e = (omega arith, turn (λ j. every p (drop j s)) i good ok (simp (add-one, drop-cons s i 0 h, e)) k.1)

  pub test_end : length s ≤ i → good ≡ every p s
  unfolding every
  test_end h = finish (λ j. every p (drop j s)) i good (simp (drop_of_length-le s h)) k.1

-- a fold over a list, with no way out
module _ (p : ℕ → Bool) where
  fold_tested : (good : Bool) (s : List ℕ) → fold (λ a b. a && p b) good s ≡ (good && every p s)
  unfolding every
  fold_tested good [] = sym (and-true good)
  fold_tested good (b ∷ s) = fold_tested (good && p b) s ∙ and_assoc good (p b) (every p s)

  -- as a chain's `fold` answers
  pub all_tested : {S A F : Type 0} {steps : S → Option A → S → Type 0} {v : A → ℕ} {i : S} {s : List ℕ} (g : Mut F (Bool × (A × Unit {0})) Bool) {f : F} (r : Bool)
      → ((xs : List A) × (q : F) × Drains steps i xs × FoldsTo {P = F × Bool} (λ a x b. Called g a.0 (a.1, (x, tt)) b.1 b.0) (f, true) xs (q, r)) → YieldsList steps v i s
      → ((a : Bool) (x : A) (b : Bool) (q : F) → Called g f (a, (x, tt)) b q → (q ≡ f) × (b ≡ (a && p (v x)))) → r ≡ every p s
  all_tested {s = s} g r ran yields calls = fold_from_yields_List g (λ a b. a && p b) true r ran yields calls ∙ fold_tested true s

-- the library's `==` is the paper's
pub compared : (xs ys : List ℕ) → pointwise nat_eq xs ys ≡ same xs ys
unfolding same
compared [] [] = refl
compared [] (y ∷ ys) = refl
compared (x ∷ xs) [] = refl
compared (x ∷ xs) (y ∷ ys) = ap (λ (t : Bool). eqb x y && t) (compared xs ys)

-- of one length, one begins with the other where they are the same
pub begun_same : (a b : List ℕ) → length a ≡ length b → pointwise nat_eq a (take (length a) b) ≡ same a b
begun_same a b l = rw (take_all (length a) b (omega arith)) (compared a b)

and_no : (x y : Bool) → false ≡ y → false ≡ (x && y)
and_no true y e = e
and_no false y e = refl

pub other_length : (a b : List ℕ) → (length a ≡ length b → ⊥) → false ≡ same a b
unfolding same
other_length [] [] h = absurd (h refl)
other_length [] (y ∷ ys) h = refl
other_length (x ∷ xs) [] h = refl
other_length (x ∷ xs) (y ∷ ys) h = and_no (eqb x y) (same xs ys) (other_length xs ys (λ e. h (ap suc e)))
