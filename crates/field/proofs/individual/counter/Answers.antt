use Rattle.std.proofs.Common.{arith, drop, sym, take, true, ◌<◌, ◌∙◌, ◌≡◌}
use Rattle.paper.specs.Fields.{field, digits, value}
use Rattle.paper.proofs.Tests.{T_of}
use Rattle.characters.proofs.Part.{part_length}
use Rattle.characters.proofs.Eights.{last_small}
use Rattle.characters.proofs.Words.{told_digits, told_none}
use Rattle.field.proofs.Words.{sequence_told, sequence_first, sequence_last}
use Rattle.field.proofs.individual.counter.Goals as goal
use Rattle.field.proofs.individual.counter.Goals.{In_ok-high}

pub returns-then-not-digits : goal.returns-then-not-digits
returns-then-not-digits c =
    sequence_first _ c.told-rec (sym c.digits.ensures ∙ c.if-not-digits.true)

pub returns-in_err-high : goal.returns-in_err-high
returns-in_err-high c =
    c.from_residual.ensures ∙ sequence_last _ c.told-rec (told_none _ (sym c.halves.ensures ∙ c.in_err-high.was))

-- the last eight are digits
abbrev eight : (c : In_ok-high) → let f = field c.args.rec.now 87 94 in
    (digits f ≡ true) × (value (take 4 f) ≡ c.in_ok-high.high) × (value (drop 4 f) ≡ c.in_ok-high.low)
eight c = told_digits _ (sym c.halves.ensures ∙ c.in_ok-high.was)

small : (c : In_ok-high) → c.in_ok-high.low < 10000
small c =
    let f = field c.args.rec.now 87 94 in
    let t = eight c in
    rw t.2 at (last_small f (part_length c.args.rec.now 87 94 (omega (arith, c.told-rec))) (T_of t.0))

pub returns : goal.returns
returns c =
    let t = eight c in
    rw (← t.1, ← t.2)
    (sequence_told _ c.told-rec (sym c.digits.ensures ∙ c.if-not-digits.false) t.0)

pub overflow_add-result : goal.overflow_add-result
overflow_add-result c = omega (arith, small c)
