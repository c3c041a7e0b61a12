use Rattle.std.proofs.Common.{arith, ◌+◌, ◌∙◌, ◌≤◌}
use borrow.Rule.Slice.PartMut.{mid_len}
use Rattle.building.proofs.Behind.{loose_few, loose_room, headed_room, loose_asked}
use Rattle.building.proofs.Progress.{begun, start_room, indexes_few, closed_below}
use Rattle.building.proofs.Further.{batch_asked, batch_few, batch_below, batch_done}
use Rattle.building.proofs.Ending.{end_room, end_few, built_long, built_whole}
use Rattle.building.proofs.whole.write.Goals as goal
use Rattle.building.proofs.whole.write.Goals.{After-own-loose, After-write-batch, At-loop-from}

-- no index leaves the tray or the file
bounds : (c : At-loop-from) → (c.loop-from.at ≤ 940000) × (c.loop-from.from ≤ 960000)
bounds c = indexes_few c.loop-from.invariant

-- and what is written at once is at most 10,000 records
few_loose : (c : After-own-loose) → c.own-loose.result.records ≤ 10000
few_loose c = search loose_few

few : (c : After-write-batch) → c.write-batch.result.records ≤ 10000
few c = search batch_few

pub slice_bounds-copy-end : goal.slice_bounds-copy-end
slice_bounds-copy-end c = omega (arith, loose_room c.requires)

pub loop-from-init : goal.loop-from-init
loop-from-init c =
    begun c.requires c.copy.ensures c.own-loose.ensures.0 c.own-loose.ensures.1

pub write-batch-requires : goal.write-batch-requires
write-batch-requires c =
    let asked = batch_asked c.loop-from.invariant c.loop-from-test.true in record { to_number = asked.0; in_bounds = asked.1 }

pub file_control-requires : goal.file_control-requires
file_control-requires c =
    (mid_len c.loop-from.at (c.loop-from.at + 94) c.loop-from.out (search end_room) ∙ omega arith, search end_few)

pub shape_of-out : goal.shape_of-out
shape_of-out c =
    built_long c.requires c.copy.ensures c.own-loose.ensures.0 c.loop-from.invariant c.loop-from-test.false c.file_control.ensures

pub returns : goal.returns
returns c =
    built_whole c.requires c.copy.ensures c.own-loose.ensures.0 c.loop-from.invariant c.loop-from-test.false c.file_control.ensures

pub slice_bounds-own-count : goal.slice_bounds-own-count
slice_bounds-own-count c = search headed_room

pub slice_bounds-own-start : goal.slice_bounds-own-start
slice_bounds-own-start c = search headed_room

pub own-loose-requires : goal.own-loose-requires
own-loose-requires c = search loose_asked

pub overflow_mul-from : goal.overflow_mul-from
overflow_mul-from c = omega (arith, few_loose (goal.at.overflow_mul-from c).After-own-loose)

pub overflow_add-at : goal.overflow_add-at
overflow_add-at c = omega (arith, few_loose (goal.at.overflow_add-at c).After-own-loose)

pub overflow_mul-at : goal.overflow_mul-at
overflow_mul-at c = omega (arith, few_loose (goal.at.overflow_mul-at c).After-own-loose)

pub slice_bounds-write-count : goal.slice_bounds-write-count
slice_bounds-write-count c = search start_room

pub slice_bounds-write-start : goal.slice_bounds-write-start
slice_bounds-write-start c = search start_room

pub overflow_add-from : goal.overflow_add-from
overflow_add-from c = omega (arith, few (goal.at.overflow_add-from c).After-write-batch, bounds (goal.at.overflow_add-from c).At-loop-from)

pub overflow_mul-from-in-loop-from : goal.overflow_mul-from-in-loop-from
overflow_mul-from-in-loop-from c = omega (arith, few (goal.at.overflow_mul-from-in-loop-from c).After-write-batch, bounds (goal.at.overflow_mul-from-in-loop-from c).At-loop-from)

pub overflow_add-from-in-loop-from : goal.overflow_add-from-in-loop-from
overflow_add-from-in-loop-from c = omega (arith, few (goal.at.overflow_add-from-in-loop-from c).After-write-batch, bounds (goal.at.overflow_add-from-in-loop-from c).At-loop-from)

pub overflow_add-at-in-loop-from : goal.overflow_add-at-in-loop-from
overflow_add-at-in-loop-from c = omega (arith, few (goal.at.overflow_add-at-in-loop-from c).After-write-batch, bounds (goal.at.overflow_add-at-in-loop-from c).At-loop-from)

pub overflow_mul-at-in-loop-from : goal.overflow_mul-at-in-loop-from
overflow_mul-at-in-loop-from c = omega (arith, few (goal.at.overflow_mul-at-in-loop-from c).After-write-batch, bounds (goal.at.overflow_mul-at-in-loop-from c).At-loop-from)

pub overflow_add-at-in-loop-from-2 : goal.overflow_add-at-in-loop-from-2
overflow_add-at-in-loop-from-2 c = omega (arith, few (goal.at.overflow_add-at-in-loop-from-2 c).After-write-batch, bounds (goal.at.overflow_add-at-in-loop-from-2 c).At-loop-from)

pub plus-closed-requires : goal.plus-closed-requires
plus-closed-requires c = record { below = search closed_below; below_2 = search batch_below }

pub loop-from-preserved : goal.loop-from-preserved
loop-from-preserved c = rw c.plus-closed.ensures (search batch_done)

pub overflow_add-all : goal.overflow_add-all
overflow_add-all c = omega (arith, bounds (goal.at.overflow_add-all c).At-loop-from)

pub overflow_add-at-2 : goal.overflow_add-at-2
overflow_add-at-2 c = omega (arith, bounds (goal.at.overflow_add-at-2 c).At-loop-from)

pub slice_bounds-file_control-end : goal.slice_bounds-file_control-end
slice_bounds-file_control-end c = search end_room
