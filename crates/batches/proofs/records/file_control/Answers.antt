use Rattle.std.proofs.Common.{arith, ◌∙◌}
use Rattle.paper.specs.Fields.{bytes}
use Rattle.paper.specs.Controls.{blocks}
use Rattle.paper.specs.Writing.{spelled, blanks}
use Rattle.batches.specs.Sums.{sums_of}
use Rattle.writing.proofs.Laying.{start, on, filled}
use Rattle.batches.proofs.Controls.{total_parts}
use Rattle.batches.proofs.records.file_control.Goals as goal

pub returns : goal.returns
unfolding spelled blanks
returns c =
    let a = c.args in
    let class = on (start (omega arith)) (bytes "9") c.text-count.ensures in
    let number = on class (spelled 6 a.batches) c.field-tens.ensures in
    let block = on number (spelled 6 (blocks a.all)) (rw c.blocks-2.ensures at c.field-records.ensures) in
    let total = on (on block (spelled 8 a.tally.records) c.field-totals.ensures) (sums_of a.tally) c.sums-free.ensures in
    filled (on total (blanks 39) c.spaces.ensures) (omega arith) ∙ total_parts a.all a.batches a.tally
