use Rattle.std.proofs.Common.{arith, drop, length, lit<, sym, take, true, ◌+◌, ◌-◌, ◌<◌, ◌∙◌, ◌≡◌}
use Rattle.paper.specs.Fields.{field, digits, value}
use Rattle.paper.proofs.Tests.{T_of}
use Rattle.characters.proofs.Eights.{first_small, last_small}
use Rattle.characters.proofs.Words.{told_digits, told_none}
use Rattle.field.proofs.Words.{eight_long, cents_told, cents_first, cents_last}
use Rattle.field.proofs.individual.cents.Goals as goal
use Rattle.field.proofs.individual.cents.Goals.{After-number, In-Some}

pub returns-in_default : goal.returns-in_default
returns-in_default c =
    (cents_first _ _ c.requires (told_none _ (sym c.halves.ensures ∙ c.in_default.is)), lit< tt)

-- the first eight are digits
abbrev eight : (c : In-Some) → let f = field c.args.rec.now c.args.first (c.args.first + 7) in
    (digits f ≡ true) × (value (take 4 f) ≡ c.in-Some.high) × (value (drop 4 f) ≡ c.in-Some.low)
eight c = told_digits _ (sym c.halves.ensures ∙ c.in-Some.is)

small : (c : In-Some) → (c.in-Some.high < 10000) × (c.in-Some.low < 10000)
small c =
    let f = field c.args.rec.now c.args.first (c.args.first + 7) in
    let l : length f ≡ 8 = eight_long _ _ c.requires in
    let t = eight c in
    (rw t.1 at (first_small f l (T_of t.0)), rw t.2 at (last_small f l (T_of t.0)))

pub returns-then-not-digits : goal.returns-then-not-digits
returns-then-not-digits c =
    (cents_last _ _ c.requires (sym c.digits.ensures ∙ c.if-not-digits.true), lit< tt)

-- and the last two are a number below 100
pair : (c : After-number) → c.number.result < 100
pair c =
    let e : c.args.first + 9 + 1 - (c.args.first + 8) ≡ 2 = omega arith in
    omega (arith, rw e at c.number.ensures.1)

pub returns : goal.returns
returns c =
    let t = eight (goal.at.returns c).In-Some in
    let s = small (goal.at.returns c).In-Some in (
      rw (c.number.ensures.0, ← t.1, ← t.2)
          (cents_told _ _ c.requires t.0 (sym c.digits.ensures ∙ c.if-not-digits.false)),
      omega (arith, pair c),
    )

pub overflow_mul-result : goal.overflow_mul-result
overflow_mul-result c = omega (arith, small (goal.at.overflow_mul-result c).In-Some)

pub overflow_add-result : goal.overflow_add-result
overflow_add-result c = omega (arith, small (goal.at.overflow_add-result c).In-Some)

pub overflow_mul-result-2 : goal.overflow_mul-result-2
overflow_mul-result-2 c = omega (arith, small (goal.at.overflow_mul-result-2 c).In-Some)

pub overflow_add-result-2 : goal.overflow_add-result-2
overflow_add-result-2 c = omega (arith, small (goal.at.overflow_add-result-2 c).In-Some, pair c)
