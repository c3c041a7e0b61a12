use Rattle.paper.specs.Checks.{need}
use Rattle.verdicts.specs.Verdicts.{check_of}
use Rattle.verdicts.proofs.verdict.need.Goals as goal

pub returns-then-holds : goal.returns-then-holds
unfolding check_of need
returns-then-holds c = simp c.if-holds.true

pub returns-else-holds : goal.returns-else-holds
unfolding check_of need
returns-else-holds c = simp c.if-holds.false
