use Rattle.std.proofs.Common.{refl}
use Rattle.state.specs.States.{after_by}
use Rattle.state.proofs.State.after.Goals as goal

pub returns : goal.returns
unfolding after_by
returns c =
    rw (c.before-2.ensures, c.header.ensures, c.individual.ensures, c.counter.ensures, c.highest.ensures, c.batches.ensures, c.batch.ensures, c.closed.ensures) refl
