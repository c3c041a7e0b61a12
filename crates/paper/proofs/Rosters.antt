-- A roster made by setting one mark for each entity listed is the roster of the list.
use Prim.Native.Nat.{ℕ, zero, suc, ◌+◌, ◌<◌}
use native.Mathlib.Nat.{zero-add, add-zero}
use native.Mathlib.Omega.{arith}
use mathlib.Core.Bool.{Bool, true, false}
use mathlib.Core.List.{[], List, ◌∷◌, ◌++◌}
use mathlib.Core.Path.{◌≡◌, refl, ap, ◌∙◌}
use lib.ListN.{set, replicate}
use borrow.Author.Tests.{eq-eqb, ne_eqb}
use Rattle.paper.specs.Fields.{among}
use Rattle.paper.specs.Sessions.{listed}
use Rattle.paper.proofs.Identifiers.{among_snoc}

-- an entity before the first changes nothing
listed_before : (n k : ℕ) (es : List ℕ) (e : ℕ) → e < k → listed n k (es ++ e ∷ []) ≡ listed n k es
unfolding listed
listed_before zero k es e l = refl
listed_before (suc n) k es e l = rw (among_snoc es e k, ne_eqb k e (omega arith), listed_before n (k + 1) es e (omega arith))

listed_set_from : (n k : ℕ) (es : List ℕ) (i : ℕ) → i < n → set (listed n k es) i true ≡ listed n k (es ++ (k + i) ∷ [])
unfolding listed
listed_set_from zero k es i l = absurd (omega arith)
listed_set_from (suc n) k es zero l = rw (add-zero k, among_snoc es k k, eq-eqb k k refl, listed_before n (k + 1) es k (omega arith))
listed_set_from (suc n) k es (suc i) l =
    let q : k + 1 + i ≡ k + suc i = omega arith in
    rw (among_snoc es (k + suc i) k, ne_eqb k (k + suc i) (omega arith), listed_set_from n (k + 1) es i (omega arith), q)

listed_none_from : (n k : ℕ) → listed n k [] ≡ replicate n false
unfolding listed among
listed_none_from zero k = refl
listed_none_from (suc n) k = ap (λ (bs : List Bool). false ∷ bs) (listed_none_from n (k + 1))

-- to set an entity's mark is to list it
pub listed_set : (es : List ℕ) (e : ℕ) → e < 500 → set (listed 500 0 es) e true ≡ listed 500 0 (es ++ e ∷ [])
listed_set es e l = listed_set_from 500 0 es e l ∙ rw (zero-add e)

-- no mark is set where none is listed
pub listed_none : listed 500 0 [] ≡ replicate 500 false
listed_none = listed_none_from 500 0
