use Rattle.std.proofs.Common.{sym, ◌∙◌}
use Rattle.state.proofs.columns.closed.Goals as goal

pub returns-then-closes_batch : goal.returns-then-closes_batch
returns-then-closes_batch c =
    rw (sym c.closes_batch.ensures ∙ c.if-closes_batch.true) c.plus.ensures
