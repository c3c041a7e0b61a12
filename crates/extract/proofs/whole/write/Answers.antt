use Rattle.std.proofs.Common.{arith, ◌+◌, ◌∙◌, ◌≤◌}
use borrow.Rule.Slice.PartMut.{mid_len}
use Rattle.paper.proofs.Accepted.{accepted_facts}
use Rattle.extract.proofs.Progress.{header_room, begun, indexes_few, closed_below, batch_asked, batch_few, batch_below, batch_done, end_room, end_few, extract_whole}
use Rattle.extract.proofs.whole.write.Goals as goal
use Rattle.extract.proofs.whole.write.Goals.{After-write-batch, At-loop-i}

-- no index leaves the file or the places
bounds : (c : At-loop-i) → (c.loop-i.at ≤ 1880094) × (c.loop-i.number ≤ 10000) × (c.loop-i.i ≤ 10000)
bounds c = indexes_few c.loop-i.invariant

-- and a batch is at most 10,000 records
few : (c : After-write-batch) → c.write-batch.result.records ≤ 10000
few c = search batch_few

pub slice_bounds-write-end : goal.slice_bounds-write-end
slice_bounds-write-end c = omega (arith, header_room c.requires)

pub record_at-requires : goal.record_at-requires
record_at-requires c =
    let f = accepted_facts c.requires.passed.rules c.args.file.now c.requires.passed.accepts in
    (f.short, omega (arith, f.long))

pub loop-i-init : goal.loop-i-init
loop-i-init c =
    begun c.requires c.write.ensures c.record_at.ensures.0 c.record_at.ensures.1

pub write-batch-requires : goal.write-batch-requires
write-batch-requires c =
    let asked = batch_asked c.loop-i.invariant c.loop-i-test.true in record { to_copy = asked.0; places_nonzero = asked.1 }

pub file_control-requires : goal.file_control-requires
file_control-requires c =
    (mid_len c.loop-i.at (c.loop-i.at + 94) c.loop-i.out (search end_room) ∙ omega arith, search end_few)

pub returns : goal.returns
returns c =
    extract_whole c.requires c.write.ensures c.record_at.ensures.0 c.record_at.ensures.1 c.loop-i.invariant c.loop-i-test.false c.file_control.ensures

pub overflow_add-at : goal.overflow_add-at
overflow_add-at c = omega (arith, few (goal.at.overflow_add-at c).After-write-batch, bounds (goal.at.overflow_add-at c).At-loop-i)

pub overflow_mul-at : goal.overflow_mul-at
overflow_mul-at c = omega (arith, few (goal.at.overflow_mul-at c).After-write-batch, bounds (goal.at.overflow_mul-at c).At-loop-i)

pub overflow_add-at-in-loop-i : goal.overflow_add-at-in-loop-i
overflow_add-at-in-loop-i c = omega (arith, few (goal.at.overflow_add-at-in-loop-i c).After-write-batch, bounds (goal.at.overflow_add-at-in-loop-i c).At-loop-i)

pub overflow_add-i : goal.overflow_add-i
overflow_add-i c = omega (arith, few (goal.at.overflow_add-i c).After-write-batch, bounds (goal.at.overflow_add-i c).At-loop-i)

pub overflow_add-i-in-loop-i : goal.overflow_add-i-in-loop-i
overflow_add-i-in-loop-i c = omega (arith, few (goal.at.overflow_add-i-in-loop-i c).After-write-batch, bounds (goal.at.overflow_add-i-in-loop-i c).At-loop-i)

pub plus-closed-requires : goal.plus-closed-requires
plus-closed-requires c = record { below = search closed_below; below_2 = search batch_below }

pub loop-i-preserved : goal.loop-i-preserved
loop-i-preserved c = rw c.plus-closed.ensures (search batch_done)

pub slice_bounds-file_control-end : goal.slice_bounds-file_control-end
slice_bounds-file_control-end c = search end_room
