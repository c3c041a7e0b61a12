use Rattle.std.proofs.Common.{sym, ◌∙◌}
use Rattle.state.proofs.columns.batches.Goals as goal

pub returns-then-opens_batch : goal.returns-then-opens_batch
returns-then-opens_batch c =
    rw (sym c.opens_batch.ensures ∙ c.if-opens_batch.true)
