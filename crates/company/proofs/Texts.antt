-- A test that holds of all of a field holds of a part of it.
use Prim.Native.Nat.{ℕ, ◌+◌, ◌-◌, ◌≤◌}
use mathlib.Core.Bool.{Bool, true}
use mathlib.Core.List.{List}
use mathlib.Core.Path.{◌≡◌, sym, ap, ◌∙◌}
use native.Mathlib.Omega.{arith}
use Rattle.paper.specs.Fields.{field, every}
use Rattle.paper.proofs.Tests.{T_of, of_T, and_l, and_r}
use Rattle.paper.proofs.Digits.{every_append}
use Rattle.characters.proofs.Part.{parted_before}

pub part_holds : (test : ℕ → Bool) (r : List ℕ) (first from to last : ℕ) → 1 ≤ first → first ≤ from → from ≤ to + 1 → to ≤ last
    → every test (field r first last) ≡ true → every test (field r from to) ≡ true
part_holds test r first from to last h i j k e =
    let before : List ℕ = field r first (from - 1) in
    let behind : List ℕ = field r (to + 1) last in
    let rest = field r from last in
    let two = ap (every test) (parted_before r first (from - 1) from last h i (omega arith) (omega arith)) ∙ every_append test before rest in
    let back = ap (every test) (parted_before r from to (to + 1) last (omega arith) (omega arith) k (omega arith)) ∙ every_append test (field r from to) behind in
    let rest_holds = of_T (every test rest) (and_r (every test before) (every test rest) (T_of (sym two ∙ e))) in
    of_T (every test (field r from to)) (and_l (every test (field r from to)) (every test behind) (T_of (sym back ∙ rest_holds)))
