use Rattle.std.proofs.Common.{arith}
use Rattle.paper.specs.Fields.{field}
use Rattle.paper.specs.Writing.{spelled, numbered}
use Rattle.writing.proofs.Laying.{start, on, filled}
use Rattle.batches.proofs.records.numbered.Goals as goal

pub returns : goal.returns
unfolding numbered spelled
returns c =
    let before = on (start (omega arith)) (field c.args.rec.now 1 87) (rw c.part.ensures.0 at c.text-at.ensures) in
    filled (on before (spelled 7 c.args.number) c.field.ensures) (omega arith)
