use Rattle.std.proofs.Common.{arith}
use Rattle.paper.specs.Writing.{spelled}
use Rattle.writing.proofs.Laying.{start, on}
use Rattle.batches.proofs.records.sums.Goals as goal

pub returns : goal.returns
returns c =
    let t = c.args.tally in
    let destinations = on (start (omega arith)) (spelled 10 t.destinations) c.field-debits.ensures in
    let both = on (on destinations (spelled 12 t.debits) c.field-credits.ensures) (spelled 12 t.credits) c.field.ensures in
    (both.next, both.held)
