-- Room: each side of a posting is one touch more.
use Prim.Native.Nat.{ℕ, zero, suc, ◌+◌, ◌≤◌, ◌<◌, ◌^◌}
use native.Mathlib.Omega.{arith}
use mathlib.Core.Bool.{Bool, not}
use mathlib.Core.List.{[], List, ◌∷◌}
use mathlib.Core.Path.{◌≡◌}
use lib.IntN.{ℤ, nat_abs, ◌+ℤ◌}
use lib.ListN.{get_or, set}
use Rattle.paper.specs.declared.ledger.Cell.{Cell}
use Rattle.paper.specs.Postings.{signed}
use Rattle.paper.specs.Sessions.{zero_cell}
use Rattle.paper.specs.Demands.{Touched}
use Rattle.paper.proofs.Bounds.{nat_abs_plus, abs_signed}
use Rattle.ledger.specs.Sides.{side}

-- ---- positions

moved_abs : (z : ℤ) (rises : Bool) (amount : ℕ) → nat_abs (z +ℤ signed rises amount) ≤ nat_abs z + amount
moved_abs z rises amount = omega (arith, nat_abs_plus z (signed rises amount), abs_signed rises amount)

-- ---- cells

pub more : {m n : ℕ} {c : Cell} → n ≤ m → Touched n c → Touched m c
more {m} {n} h t = record { position = omega arith; sent = omega arith; received = omega arith }

touched_side : {n : ℕ} {c : Cell} (rises : Bool) (amount sent received : ℕ) → amount < 10 ^ 10 → sent ≤ 1 → received ≤ 1 → Touched n c
    → Touched (n + 1) (side rises amount sent received c)
unfolding side
touched_side {n} {c} rises amount sent received h s r t = record { position = omega (arith, moved_abs c.position rises amount); sent = omega arith; received = omega arith }

-- what holds of every cell holds still after one is set
set_at : (P : Cell → Type 0) (cs : List Cell) (i j : ℕ) (c : Cell) → ((k : ℕ) → P (get_or cs k zero_cell)) → P c → P (get_or (set cs i c) j zero_cell)
set_at P [] i j c w v = w j
set_at P (x ∷ cs) zero zero c w v = v
set_at P (x ∷ cs) zero (suc j) c w v = w (suc j)
set_at P (x ∷ cs) (suc i) zero c w v = w zero
set_at P (x ∷ cs) (suc i) (suc j) c w v = set_at P cs i j c (λ k. w (suc k)) v

abbrev pub AllTouched : ℕ → List Cell → Type 0
AllTouched n cs = (i : ℕ) → Touched n (get_or cs i zero_cell)

-- one side put to the cell where it lies
pub touched_at : {n : ℕ} {c : Cell} (cs : List Cell) (i : ℕ) (rises : Bool) (amount sent received : ℕ) → amount < 10 ^ 10 → sent ≤ 1 → received ≤ 1
    → c ≡ side rises amount sent received (get_or cs i zero_cell) → AllTouched n cs → AllTouched (n + 1) (set cs i c)
touched_at {n} {c} cs i rises amount sent received h s r e t =
    let u : Touched (n + 1) c = rw e (touched_side rises amount sent received h s r (t i)) in
    λ j. set_at (Touched (n + 1)) cs i j c (λ k. more (omega arith) (t k)) u

-- and both sides, one after the other
pub touched_both : {n : ℕ} {x y : Cell} (cs : List Cell) (s d : ℕ) (b : Bool) (amount : ℕ) → amount < 10 ^ 10
    → x ≡ side b amount 1 0 (get_or cs s zero_cell) → y ≡ side (not b) amount 0 1 (get_or (set cs s x) d zero_cell)
    → AllTouched n cs → AllTouched (n + 2) (set (set cs s x) d y)
touched_both {n} {x} {y} cs s d b amount h e g t =
    let u = touched_at cs s b amount 1 0 h (omega arith) (omega arith) e t in
    let v = touched_at (set cs s x) d (not b) amount 0 1 h (omega arith) (omega arith) g u in
    λ i. more (omega arith) (v i)
