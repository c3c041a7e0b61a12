use Rattle.paper.specs.Reading.{flag}
use Rattle.state.proofs.flag.Goals as goal

pub returns-then-flagged : goal.returns-then-flagged
unfolding flag
returns-then-flagged c = simp c.if-flagged.true

pub returns : goal.returns
unfolding flag
returns c = simp c.if-flagged.false
