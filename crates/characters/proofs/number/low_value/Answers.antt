use Rattle.std.proofs.Common.{arith}
use Rattle.characters.proofs.Value.{read_turn, read_end, small, grown}
use Rattle.characters.proofs.number.low_value.Goals as goal

pub overflow_mul-sum : goal.overflow_mul-sum
overflow_mul-sum c = omega (arith, small c.loop-b.b-index c.loop-b.sum (omega arith) c.loop-b.invariant.0)

pub overflow_add-sum : goal.overflow_add-sum
overflow_add-sum c =
    let l = c.loop-b in omega (arith, small l.b-index l.sum (omega arith) l.invariant.0)

pub loop-b-preserved : goal.loop-b-preserved
loop-b-preserved c = (
  grown c.loop-b.b-index c.loop-b.sum (omega arith) c.loop-b.invariant.0,
  read_turn c.args.s.now c.loop-b.sum c.loop-b.b-index c.loop-b-test.true c.loop-b.invariant.1,
)

pub returns : goal.returns
returns c t = let l = c.loop-b in read_end c.args.s.now l.sum l.b-index c.loop-b-test.false l.invariant.1 t
