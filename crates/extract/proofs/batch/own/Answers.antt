use Rattle.std.proofs.Common.{ap, arith, drop, length, not, refl, ◌≡◌}
use Rattle.batches.specs.Blocks.{own_at}
use Rattle.batches.proofs.Copying.{none_copied}
use Rattle.batches.proofs.Own.{own_there, none_there}
use Rattle.picking.specs.Places.{chosen}
use Rattle.picking.proofs.Chosen.{length_chosen, at_index}
use Rattle.extract.proofs.Batches.{tally_below, room_for, one_done, all_batched}
use Rattle.extract.proofs.batch.own.Goals as goal
use Rattle.extract.proofs.batch.own.Goals.{After-opens}

pub loop-i-init : goal.loop-i-init
loop-i-init c = none_copied _ _

-- whether the record belongs to the batch
own_here : (c : After-opens) → not c.opens.result ≡ own_at (drop c.loop-i.i (chosen c.args.file.now c.args.places.now))
own_here c =
    let a = c.args in own_there _ c.loop-i.i (at_index a.file.now a.places.now c.loop-i.i c.loop-i-test.true) _ (rw c.record_at-rec.ensures.0 at c.opens.ensures)

pub returns-then-opens : goal.returns-then-opens
returns-then-opens c =
    all_batched c.requires c.loop-i.invariant (own_here (goal.at.returns-then-opens c).After-opens) (ap not c.if-opens.true)

pub slice_bounds-copy_from_slice-end : goal.slice_bounds-copy_from_slice-end
slice_bounds-copy_from_slice-end c =
    room_for c.requires c.loop-i.invariant (own_here (goal.at.slice_bounds-copy_from_slice-end c).After-opens) (ap not c.if-opens.false)

pub count-tally-requires : goal.count-tally-requires
count-tally-requires c = record { below = tally_below c.requires c.loop-i.invariant }

pub loop-i-preserved : goal.loop-i-preserved
loop-i-preserved c =
    one_done c.requires c.loop-i.invariant (own_here (goal.at.loop-i-preserved c).After-opens) (ap not c.if-opens.false) c.record_at-rec.ensures.0 c.copy_from_slice.ensures.after c.count-tally.ensures

pub returns : goal.returns
returns c =
    let a = c.args in
    let end : c.loop-i.i ≡ length a.places.now = omega arith in
    rw (← end) (all_batched c.requires c.loop-i.invariant (none_there _ c.loop-i.i (omega (arith, end, length_chosen a.file.now a.places.now))) refl)
