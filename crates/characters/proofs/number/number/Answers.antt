use Rattle.std.proofs.Common.{lit<, sym, ◌∙◌}
use native.Mathlib.Nat.{one-le-pow}
use Rattle.paper.proofs.Tests.{T_of}
use Rattle.paper.proofs.Digits.{number_bound}
use Rattle.characters.proofs.Value.{a_number, no_number}
use Rattle.characters.proofs.number.number.Goals as goal

pub returns-then-all_digits : goal.returns-then-all_digits
returns-then-all_digits c =
    let p = c.part-s in
    let e = sym c.all_digits.ensures ∙ c.if-all_digits.true in
    let n = a_number p.result.now e (c.low_value-n.ensures (T_of e)) in
    (rw (← p.ensures.0) n, rw n (number_bound _ p.result.now p.ensures.1))

pub returns : goal.returns
returns c =
    let p = c.part-s in
    let e = sym c.all_digits.ensures ∙ c.if-all_digits.false in
    (rw (← p.ensures.0) (no_number p.result.now e), one-le-pow _ 10 (lit< tt))
