use Rattle.std.proofs.Common.{ap, arith, not, refl, ◌/◌, length, ◌≡◌, drop}
use Rattle.batches.specs.Blocks.{own_at}
use Rattle.batches.proofs.Own.{own_there, none_there}
use Rattle.tray.specs.Trays.{bodies}
use Rattle.tray.proofs.Places.{bodies_at, length_bodies}
use Rattle.building.proofs.Bodies.{none_numbered, numbering_few, tally_below, room_for, room_long, one_numbered, all_batched, still_long}
use Rattle.building.proofs.batch.own.Goals as goal
use Rattle.building.proofs.batch.own.Goals.{After-opens}

-- whether this record is one of those up to the next batch header
mine : (c : After-opens) → not c.opens.result ≡ own_at (drop c.loop-records.records (bodies c.args.tray.now))
mine c = own_there _ c.loop-records.records (bodies_at c.args.tray.now c.loop-records.records (omega arith)) c.opens.result (rw c.body_at-body.ensures.0 at c.opens.ensures)

pub loop-records-init : goal.loop-records-init
loop-records-init c = none_numbered _ _ _

pub returns-then-opens : goal.returns-then-opens
returns-then-opens c =
    (all_batched c.requires c.loop-records.invariant (mine (goal.at.returns-then-opens c).After-opens) (ap not c.if-opens.true), c.loop-records.invariant.numbering)

pub shape_of-dst-then-opens : goal.shape_of-dst-then-opens
shape_of-dst-then-opens c = still_long c.requires c.loop-records.invariant (mine (goal.at.shape_of-dst-then-opens c).After-opens) (ap not c.if-opens.true)

pub slice_bounds-write-end : goal.slice_bounds-write-end
slice_bounds-write-end c =
    omega (arith, room_for c.requires c.loop-records.invariant (mine (goal.at.slice_bounds-write-end c).After-opens) (ap not c.if-opens.false))

pub write-numbering-requires : goal.write-numbering-requires
write-numbering-requires c =
    record {
      long = c.body_at-body.ensures.1;
      few = numbering_few c.requires c.loop-records.invariant;
      room = room_long c.requires c.loop-records.invariant (mine (goal.at.write-numbering-requires c).After-opens) (ap not c.if-opens.false);
    }

pub count-tally-requires : goal.count-tally-requires
count-tally-requires c = record { below = tally_below c.requires c.loop-records.invariant }

pub loop-records-preserved : goal.loop-records-preserved
loop-records-preserved c =
    one_numbered c.requires c.loop-records.invariant (mine (goal.at.loop-records-preserved c).After-opens) (ap not c.if-opens.false)
    c.body_at-body.ensures.0 c.write-numbering.ensures.0 c.write-numbering.ensures.1 (rw c.whole.ensures at c.count-tally.ensures)

pub shape_of-dst : goal.shape_of-dst
shape_of-dst c =
    still_long c.requires c.loop-records.invariant (none_there (bodies c.args.tray.now) c.loop-records.records (omega (arith, length_bodies c.args.tray.now))) refl

pub returns : goal.returns
returns c =
    let e : c.loop-records.records ≡ length c.args.tray.now / 96 = omega arith in
    let none = none_there (bodies c.args.tray.now) c.loop-records.records (omega (arith, length_bodies c.args.tray.now)) in
    rw (← e) (all_batched c.requires c.loop-records.invariant none refl, c.loop-records.invariant.numbering)
