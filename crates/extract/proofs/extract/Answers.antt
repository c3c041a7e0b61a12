use Rattle.std.proofs.Common.{arith, ◌+◌, ◌-◌, ◌≤◌}
use Rattle.writing.proofs.Answers.{no_room, has_room}
use Rattle.extract.proofs.Taking.{taken, count_bounds, size_known}
use Rattle.extract.proofs.extract.Goals as goal
use Rattle.extract.proofs.extract.Goals.{After-pick-picked}

-- each record at most once, and a control for each
few : (c : After-pick-picked) → c.pick-picked.result.count + c.pick-picked.result.batches ≤ 20000
few c =
    let m = count_bounds c.requires.passed c.pick-picked.ensures in
    omega (arith, m.0, m.1)

pub returns-then-out-size : goal.returns-then-out-size
returns-then-out-size c =
    rw c.at.ensures (no_room _ _ (size_known c.requires.passed c.pick-picked.ensures c.args.currency) c.if-out-size.true)

pub slice_bounds-write-end : goal.slice_bounds-write-end
slice_bounds-write-end c =
    (count_bounds c.requires.passed c.pick-picked.ensures).2

pub write-requires : goal.write-requires
write-requires c =
    record {
      entity = c.requires.entity_bound;
      passed = c.requires.passed;
      picked = taken c.requires.passed c.pick-picked.ensures {n = c.pick-picked.result.count - 0} (omega arith);
      room = omega (arith, size_known c.requires.passed c.pick-picked.ensures c.args.currency, c.if-out-size.false);
    }

pub returns : goal.returns
returns c =
    has_room _ _ (size_known c.requires.passed c.pick-picked.ensures c.args.currency) c.if-out-size.false c.write.ensures

pub overflow_add-size : goal.overflow_add-size
overflow_add-size c = omega (arith, few (goal.at.overflow_add-size c).After-pick-picked)

pub overflow_add-size-2 : goal.overflow_add-size-2
overflow_add-size-2 c = omega (arith, few (goal.at.overflow_add-size-2 c).After-pick-picked)

pub overflow_mul-size : goal.overflow_mul-size
overflow_mul-size c = omega (arith, few (goal.at.overflow_mul-size c).After-pick-picked)
