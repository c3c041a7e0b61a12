use Rattle.std.proofs.Common.{sym, true, ◌∙◌, ◌≡◌}
use Rattle.paper.specs.Fields.{field, digits, number}
use Rattle.verdicts.specs.Verdicts.{check_of}
use Rattle.verdicts.proofs.Chain.{stopped}
use Rattle.field.proofs.Words.{sequence_digits, sequence_none}
use Rattle.entries.proofs.Chains.{no_sequence, sequence_so}
use Rattle.entries.proofs.individual.counter.Goals as goal
use Rattle.entries.proofs.individual.counter.Goals.{In-Some}

pub returns-in_default-clause-says : goal.returns-in_default-clause-says
unfolding check_of
returns-in_default-clause-says c = no_sequence _ _ _ (sequence_none _ (sym c.counter.ensures ∙ c.in_default.is))

-- 80-94 are digits
abbrev sequence : (c : In-Some) → (digits (field c.args.rec.now 80 94) ≡ true) × (number (field c.args.rec.now 88 94) ≡ c.in-Some.counter)
sequence c = sequence_digits _ (sym c.counter.ensures ∙ c.in-Some.is)

pub returns-in_err-need-clause-says : goal.returns-in_err-need-clause-says
unfolding check_of
returns-in_err-need-clause-says c =
    let t = sequence (goal.at.returns-in_err-need-clause-says c).In-Some in
    stopped _ _ c.from_residual.ensures.0 c.from_residual.ensures.1 ∙ c.in_err-need.ensures ∙ sequence_so _ _ _ t.0 t.1 c.same.ensures

pub returns-clause-says : goal.returns-clause-says
unfolding check_of
returns-clause-says c =
    let t = sequence (goal.at.returns-clause-says c).In-Some in
    c.in_ok-need.ensures ∙ sequence_so _ _ _ t.0 t.1 c.same.ensures

pub returns-clause-hands : goal.returns-clause-hands
returns-clause-hands c = sym (sequence (goal.at.returns-clause-hands c).In-Some).1
