-- Marks for a list of entity numbers, one after the other; and the list of all.
use Prim.Native.Nat.{ℕ, suc, ◌+◌, ◌≤◌, ◌<◌}
use mathlib.Core.Bool.{Bool, true}
use mathlib.Core.List.{List, [], ◌∷◌, ◌++◌}
use mathlib.Core.Path.{◌≡◌, sym, ap, ◌∙◌}
use native.Mathlib.Numerals.{add-one}
use native.Mathlib.Omega.{arith}
use lib.ListN.{length, take, get_or, set}
use lib.Seq.{take-suc, take-suc-set, take_all}
use Rattle.paper.specs.Fields.{every, within}
use Rattle.paper.specs.Listing.{numbers_to}
use Rattle.paper.specs.Sessions.{listed}
use Rattle.paper.proofs.Tests.{T_of, of_T, within_range}
use Rattle.paper.proofs.Every.{every_at}
use Rattle.paper.proofs.Rosters.{listed_set}

-- the first i are marked
abbrev pub Marked : List ℕ → List Bool → ℕ → Type 0
Marked es roster i = roster ≡ listed 500 0 (take i es)

pub below_500 : (e : ℕ) → within 1 499 e ≡ true → e < 500
below_500 e h = let r = within_range 1 499 e (T_of h) in omega arith

module _ (es : List ℕ) (i : ℕ) where
  pub entity_at : every (within 1 499) es ≡ true → i < length es → get_or es i 0 < 500
  entity_at h l = below_500 (get_or es i 0) (of_T _ (every_at (within 1 499) es i (T_of h) l))

  pub mark_turn : (roster : List Bool) → every (within 1 499) es ≡ true → i < length es → Marked es roster i → Marked es (set roster (get_or es i 0) true) (i + 1)
  mark_turn roster h l m =
      ap (λ (r : List Bool). set r (get_or es i 0) true) m
      ∙ listed_set (take i es) (get_or es i 0) (entity_at h l)
      ∙ ap (listed 500 0) (sym (take-suc es i 0 l) ∙ ap (λ (n : ℕ). take n es) (sym (add-one i)))

-- ---- everybody

-- the first i of 499 numbers are written
pub record Numbered (entities : List ℕ) (i : ℕ) : Type 0 where
  pub few : i ≤ 499
  pub size : length entities ≡ 499
  pub written : take i entities ≡ numbers_to i

module _ (entities : List ℕ) (i : ℕ) (k : Numbered entities i) where
  pub number_turn : i < 499 → take (i + 1) (set entities i (i + 1)) ≡ numbers_to (i + 1)
  unfolding numbers_to
  number_turn h =
      let e = add-one i in
      ap (λ (n : ℕ). take n (set entities i n)) e ∙ (take-suc-set entities i (suc i) (omega (arith, k.size)) ∙ (ap (λ (l : List ℕ). l ++ suc i ∷ []) k.written ∙ ap numbers_to (sym e)))

  pub number_end : 499 ≤ i → entities ≡ numbers_to 499
  number_end h =
      let e : i ≡ 499 = omega (arith, k.few) in
      sym (take_all i entities (omega (arith, k.size))) ∙ (k.written ∙ ap numbers_to e)
