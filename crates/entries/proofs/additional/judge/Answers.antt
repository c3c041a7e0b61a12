use Rattle.std.proofs.Common.{sym}
use Rattle.paper.specs.Records.{additional, additional_by}
use Rattle.entries.proofs.additional.judge.Goals as goal

pub returns-then-rejects : goal.returns-then-rejects
unfolding additional additional_by
returns-then-rejects c =
    simp (sym c.code.ensures, sym c.rejects.ensures, c.if-rejects.true, c.judge99.ensures)

pub returns : goal.returns
unfolding additional additional_by
returns c =
    simp (sym c.code.ensures, sym c.rejects.ensures, c.if-rejects.false, c.judge05.ensures)
