-- Tests as facts: what a Bool that came out true says.
use Prim.Native.Nat.{ℕ, ◌≤◌}
use native.Mathlib.Omega.{arith}
use mathlib.Core.Bool.{Bool, true, false, ◌&&◌, ◌||◌}
use mathlib.Core.List.{[], List, ◌∷◌}
use mathlib.Core.Path.{◌≡◌, refl}
use lib.Dec.{eqb, leb, T, leb→le, eqb→eq}
use Rattle.paper.specs.Fields.{within, same}

pub not_both : {t : Bool} → t ≡ true → t ≡ false → ⊥
not_both p q = let z : ◌≡◌ {A = ℕ} 0 1 = cc in omega arith

pub and_l : (a b : Bool) → T (a && b) → T a
and_l true b t = tt
and_l false b t = t

pub and_r : (a b : Bool) → T (a && b) → T b
and_r true b t = t
and_r false b t = absurd t

pub and_both : (a b : Bool) → T a → T b → T (a && b)
and_both true b s t = t
and_both false b s t = s

pub or_go : {A : Type 0} (a b : Bool) → T (a || b) → (T a → A) → (T b → A) → A
or_go true b t f g = f tt
or_go false b t f g = g t

pub T_of : {b : Bool} → b ≡ true → T b
T_of e = rw e tt

pub of_T : (b : Bool) → T b → b ≡ true
of_T true t = refl
of_T false t = absurd t

pub within_range : (low high n : ℕ) → T (within low high n) → (low ≤ n) × (n ≤ high)
within_range low high n t = (leb→le low n (and_l (leb low n) (leb n high) t), leb→le n high (and_r (leb low n) (leb n high) t))

pub same→eq : (a b : List ℕ) → T (same a b) → a ≡ b
unfolding same
same→eq [] [] t = refl
same→eq [] (y ∷ ys) t = absurd t
same→eq (x ∷ xs) [] t = absurd t
same→eq (x ∷ xs) (y ∷ ys) t = λ i. eqb→eq x y (and_l (eqb x y) (same xs ys) t) i ∷ same→eq xs ys (and_r (eqb x y) (same xs ys) t) i
