use Rattle.std.proofs.Common.{ap, arith, length, sym, ◌*◌, ◌+◌, ◌∙◌, ◌≡◌}
use borrow.Rule.Slice.PartMut.{mid_len}
use Rattle.paper.specs.Writing.{joined}
use Rattle.writing.proofs.Laying.{start}
use Rattle.company.proofs.Sizes.{marked_order}
use Rattle.company.proofs.Writing.{as_long, all_put, order_put}
use Rattle.company.proofs.orders.Goals as goal
use Rattle.company.proofs.orders.Goals.{At-loop-place}

pub loop-place-init : goal.loop-place-init
unfolding joined
loop-place-init c = start (omega arith)

long : (c : At-loop-place) → length c.loop-place.dst ≡ length c.args.dst.now
long c =
    let a = c.args in
    as_long a.currency a.lo.now a.file.now a.details c.loop-place.place c.loop-place.invariant (omega (arith, c.loop-place.auto, c.requires.2))

pub slice_bounds-write-end : goal.slice_bounds-write-end
slice_bounds-write-end c =
    omega (arith, long (goal.at.slice_bounds-write-end c).At-loop-place, c.requires.2)

pub write-requires : goal.write-requires
write-requires c =
    let at = c.loop-place.place * 96 in
    (mid_len at (at + 96) c.loop-place.dst (omega (arith, long (goal.at.write-requires c).At-loop-place, c.requires.2)) ∙ omega arith, c.requires.0, c.record_at.ensures.1)

pub loop-place-preserved : goal.loop-place-preserved
loop-place-preserved c =
    let a = c.args in
    let r = c.record_at.ensures in
    order_put a.currency a.lo.now a.file.now a.details c.loop-place.place c.loop-place.invariant c.requires.0 (omega arith)
    (ap length (sym r.0) ∙ r.1) (c.write.ensures ∙ ap (marked_order a.currency a.lo.now) r.0)

pub shape_of-dst : goal.shape_of-dst
shape_of-dst c = long (goal.at.shape_of-dst c).At-loop-place

pub returns : goal.returns
returns c =
    let a = c.args in
    all_put a.currency a.lo.now a.file.now a.details c.loop-place.place c.loop-place.invariant (omega arith)
