-- However figures are added up over entities: a position is no larger than the amounts of its postings together, a count than their number.
use Prim.Native.Nat.{ℕ, zero, suc, ◌+◌, ◌*◌, ◌-◌, ◌≤◌, ◌<◌, ◌^◌}
use native.Mathlib.Nat.{suc-mul, zero-mul}
use native.Mathlib.Omega.{arith}
use mathlib.Core.Bool.{Bool, true, false, cond, not}
use mathlib.Core.List.{[], List, ◌∷◌}
use mathlib.Core.Path.{◌≡◌, refl, ap}
use lib.Dec.{eqb, ltb, ltb→lt}
use lib.IntN.{ℤ, pos, negsuc, nat_abs, sub_ℕ, ◌+ℤ◌, neg_ℤ}
use lib.ListN.{length}
use Rattle.paper.specs.declared.rules.Rules.{Rules}
use Rattle.paper.specs.Postings.{Posting, signed, effect, position, how_many}
use Rattle.paper.proofs.Tests.{T_of}
use Rattle.paper.proofs.Sums.{only, Adds, total_effect, total_position, total_count}
use Rattle.paper.proofs.Places.{AllSound}

sub_abs : (a b : ℕ) → nat_abs (sub_ℕ a b) ≤ a + b
sub_abs a b = go (ltb a b) refl
  where
    go : (x : Bool) → ltb a b ≡ x → nat_abs (cond x (negsuc (b - suc a)) (pos (a - b))) ≤ a + b
    go true e = let l : a < b = ltb→lt a b (T_of e) in omega arith
    go false e = omega arith

pub nat_abs_plus : (a b : ℤ) → nat_abs (a +ℤ b) ≤ nat_abs a + nat_abs b
nat_abs_plus (pos a) (pos b) = omega arith
nat_abs_plus (negsuc a) (negsuc b) = omega arith
nat_abs_plus (pos a) (negsuc b) = sub_abs a (suc b)
nat_abs_plus (negsuc a) (pos b) = omega (arith, sub_abs b (suc a))

nat_abs_neg : (n : ℕ) → nat_abs (neg_ℤ (pos n)) ≡ n
nat_abs_neg zero = refl
nat_abs_neg (suc n) = refl

pub abs_signed : (b : Bool) (n : ℕ) → nat_abs (signed b n) ≡ n
unfolding signed
abs_signed true n = refl
abs_signed false n = nat_abs_neg n

-- twice the amount, where an entity sends to itself: a step on the way may see one half
effect_bound : {total : (ℕ → ℤ) → ℤ} → Adds total → (p : Posting) → nat_abs (total (λ e. effect e p)) ≤ 2 * p.amount
effect_bound {total} a p =
    let from : ℤ = signed p.collects p.amount in
    let to : ℤ = signed (not p.collects) p.amount in
    omega (
      arith,
      ap nat_abs (total_effect a p),
      nat_abs_plus (total (only p.sender from)) (total (only p.destination to)),
      a.part p.sender from,
      a.part p.destination to,
      abs_signed p.collects p.amount,
      abs_signed (not p.collects) p.amount,
    )

pub position_bound : {total : (ℕ → ℤ) → ℤ} → Adds total → (rules : Rules) (ps : List Posting) → AllSound rules ps
    → nat_abs (total (λ e. position e ps)) ≤ length ps * (2 * 10 ^ 10)
unfolding position
position_bound a rules [] s = omega (arith, ap nat_abs a.none, zero-mul (2 * 10 ^ 10))
position_bound {total} a rules (p ∷ ps) s =
    omega (
      arith,
      ap nat_abs (total_position a p ps),
      nat_abs_plus (total (λ e. effect e p)) (total (λ e. position e ps)),
      effect_bound a p,
      position_bound a rules ps s.1,
      s.0.below,
      suc-mul (length ps) (2 * 10 ^ 10),
    )

-- on either side
pub count_bound : {total : (ℕ → ℤ) → ℤ} → Adds total → (side : Posting → ℕ) (ps : List Posting)
    → nat_abs (total (λ e. pos (how_many (λ p. eqb e (side p)) ps))) ≤ length ps
unfolding how_many
count_bound a side [] = omega (arith, ap nat_abs a.none)
count_bound {total} a side (p ∷ ps) =
    omega (
      arith,
      ap nat_abs (total_count a side p ps),
      nat_abs_plus (total (only (side p) (pos 1))) (total (λ e. pos (how_many (λ q. eqb e (side q)) ps))),
      a.part (side p) (pos 1),
      count_bound a side ps,
    )
