use Rattle.std.proofs.Common.{append_assoc, arith, ◌∙◌}
use Rattle.paper.specs.Fields.{bytes, field}
use Rattle.paper.specs.Trays.{zeroed}
use Rattle.writing.proofs.Laying.{start, on, whole}
use Rattle.strip.proofs.marks.put.Goals as goal

pub returns : goal.returns
unfolding zeroed
returns c =
    let a = c.args in
    let mark = on (start (omega arith)) a.mark.now c.text-body.ensures in
    let body = on mark (field a.rec.now 1 87) (rw c.part.ensures.0 at c.text-tail.ensures) in
    let tail = on body (bytes "0000000") c.text.ensures in
    (omega arith, (whole tail).1 ∙ rw (append_assoc a.mark.now (field a.rec.now 1 87) (bytes "0000000")))
