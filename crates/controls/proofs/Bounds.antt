-- What is counted grows by at most ten digits a record.
use Prim.Native.Nat.{ℕ, ◌+◌, ◌≤◌, ◌<◌, ◌^◌}
use mathlib.Core.Bool.{Bool, true, false, cond}
use mathlib.Core.List.{List}
use mathlib.Core.Path.{◌≡◌}
use native.Mathlib.Omega.{arith}
use lib.ListN.{length, length-take, length-drop}
use Rattle.paper.specs.declared.record.Tally.{Tally}
use Rattle.paper.specs.Fields.{field, number}
use Rattle.paper.specs.Kinds.{code_of, collects, pays}
use Rattle.paper.specs.Records.{amount_of}
use Rattle.paper.specs.Controls.{zeros, plus, with_individual, with_additional}
use Rattle.paper.proofs.Digits.{number_bound}
use Rattle.controls.specs.Bounds.{Below}

pub below_more : {m n : ℕ} (t : Tally) → m ≤ n → Below m t → Below n t
below_more t h b = record { records = omega arith; destinations = omega arith; debits = omega arith; credits = omega arith }

pub below_additional : {n : ℕ} (t : Tally) → Below n t → Below (n + 1) (with_additional t)
unfolding with_additional
below_additional t b = record { records = omega arith; destinations = omega arith; debits = omega arith; credits = omega arith }

pub below_plus : {m n : ℕ} (a b : Tally) → Below m a → Below n b → Below (m + n) (plus a b)
unfolding plus
below_plus a b h k = record { records = omega arith; destinations = omega arith; debits = omega arith; credits = omega arith }

on_side : (b : Bool) (n : ℕ) → cond b n 0 ≤ n
on_side true n = omega arith
on_side false n = omega arith

pub below_individual : {n : ℕ} (t : Tally) (r : List ℕ) → length r ≡ 94 → Below n t → Below (n + 10 ^ 10) (with_individual t r)
unfolding with_individual amount_of
below_individual t r l b =
    let d : number (field r 4 11) < 10 ^ 8 = number_bound 8 (field r 4 11) (simp (length-take, length-drop) (omega arith)) in
    let a : number (field r 30 39) < 10 ^ 10 = number_bound 10 (field r 30 39) (simp (length-take, length-drop) (omega arith)) in
    let x = on_side (collects (code_of r)) (number (field r 30 39)) in
    let y = on_side (pays (code_of r)) (number (field r 30 39)) in
    record {
      records = omega (arith, b.records);
      destinations = omega (arith, b.destinations);
      debits = omega (arith, b.debits);
      credits = omega (arith, b.credits);
    }

pub below_zeros : (n : ℕ) → Below n zeros
below_zeros n = record { records = omega arith; destinations = omega arith; debits = omega arith; credits = omega arith }
