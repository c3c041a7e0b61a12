use Rattle.std.proofs.Common.{arith, length, ◌++◌, ◌∙◌, ◌≡◌}
use Rattle.paper.specs.Fields.{bytes, field}
use Rattle.paper.specs.Writing.{spelled, blanks}
use Rattle.batches.specs.Sums.{sums_of}
use Rattle.writing.proofs.Laying.{Wrote, start, on, filled}
use Rattle.batches.proofs.Controls.{control_parts}
use Rattle.batches.proofs.records.batch_control.Goals as goal
use Rattle.batches.proofs.records.batch_control.Goals.{After-sums-tax}

-- positions 1-44 are written
half : (c : After-sums-tax) → (c.sums-tax.result ≡ 44) × (length c.sums-tax.new.out ≡ 94)
unfolding spelled
half c = (omega arith, omega arith)

half_wrote : (c : After-sums-tax) → let a = c.args in
    Wrote 0 (bytes "8" ++ field a.header.now 2 4 ++ spelled 6 a.tally.records ++ sums_of a.tally) a.dst.now c.sums-tax.new.out c.sums-tax.result
half_wrote c =
    let a = c.args in
    let class = on (start (omega arith)) (bytes "8") c.text-class.ensures in
    let services' = on class (field a.header.now 2 4) (rw c.part.ensures.0 at c.text-records.ensures) in
    on (on services' (spelled 6 a.tally.records) c.field-totals.ensures) (sums_of a.tally) c.sums-tax.ensures

pub returns : goal.returns
unfolding spelled blanks
returns c =
    let a = c.args in
    let h = a.header.now in
    let tax' = on (half_wrote (goal.at.returns c).After-sums-tax) (field h 41 50) (rw c.part-2.ensures.0 at c.text-free.ensures) in
    let free = on tax' (blanks 25) c.spaces-sender.ensures in
    let sender' = on free (field h 80 87) (rw c.part-3.ensures.0 at c.text-last.ensures) in
    filled (on sender' (spelled 7 a.number) c.field.ensures) (omega (arith, half (goal.at.returns c).After-sums-tax, c.requires.0)) ∙ control_parts a.number h a.tally c.requires.1
