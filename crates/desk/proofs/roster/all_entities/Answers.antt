use Rattle.std.proofs.Common.{arith, refl}
use Rattle.paper.specs.Fields.{within}
use Rattle.characters.proofs.Scan.{test_turn, test_end}
use Rattle.desk.proofs.roster.all_entities.Goals as goal

pub loop-n-preserved : goal.loop-n-preserved
loop-n-preserved c =
    test_turn (within 1 499) c.args.entities.now c.loop-n.good c.loop-n.n-index c.loop-n.invariant
    c.loop-n-test.true c.is_entity-good.ensures

pub returns : goal.returns
returns c =
    test_end (within 1 499) c.args.entities.now c.loop-n.good c.loop-n.n-index c.loop-n.invariant c.loop-n-test.false

pub loop-n-init : goal.loop-n-init
loop-n-init c = (omega arith, refl)
