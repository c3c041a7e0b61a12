use Rattle.std.proofs.Common.{arith}
use Rattle.writing.proofs.Laying.{start}
use Rattle.strip.proofs.Passing.{none_passed, as_long, record_room, record_put, whole_put}
use Rattle.strip.proofs.write.Goals as goal

pub loop-place-init : goal.loop-place-init
loop-place-init c = rw (none_passed c.args.file.now) (start (omega arith))

pub loop-place-preserved : goal.loop-place-preserved
loop-place-preserved c =
    record_put _ _ c.loop-place.invariant c.requires.1 (omega arith) (rw c.record_at.ensures.0 at c.marked-at.ensures)

pub returns : goal.returns
returns c =
    whole_put _ _ c.loop-place.invariant c.requires.1 (omega arith)

pub overflow_add-at : goal.overflow_add-at
overflow_add-at c =
    let room = record_room _ _ c.loop-place.invariant c.requires.1 (omega arith) in
    omega (arith, room, as_long _ _ c.loop-place.invariant c.requires.1, rw c.record_at.ensures.0 at c.marked-at.ensures.0)
