use Rattle.std.proofs.Common.{arith, sym, true, ◌∙◌, ◌≡◌}
use Rattle.paper.specs.Fields.{digit}
use Rattle.paper.proofs.Tests.{T_of}
use Rattle.paper.proofs.Digits.{digit_range}
use Rattle.typed.proofs.words.grown.Goals as goal
use Rattle.typed.proofs.words.grown.Goals.{Else-not-digit}

is_digit : (c : Else-not-digit) → digit c.args.b ≡ true
is_digit c =
    sym c.digit.ensures ∙ c.if-not-digit.false

pub overflow_sub-result : goal.overflow_sub-result
overflow_sub-result c =
    (digit_range _ (T_of (is_digit ((goal.at.overflow_sub-result c).Else-not-digit)))).0

pub returns-clause-bound : goal.returns-clause-bound
returns-clause-bound c =
    let r = digit_range _ (T_of (is_digit ((goal.at.returns-clause-bound c).Else-not-digit))) in omega arith
