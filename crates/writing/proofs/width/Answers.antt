use Rattle.std.proofs.Common.{arith, rules, ◌-◌}
use Rattle.paper.specs.Listing.{width}
use Rattle.writing.proofs.Decimals.{counted_turn, width_end}
use Rattle.writing.proofs.width.Goals as goal

pub loop-rest-init : goal.loop-rest-init
unfolding width
loop-rest-init c = search rules

pub loop-rest-preserved : goal.loop-rest-preserved
loop-rest-preserved c =
    counted_turn c.args.n c.loop-rest.count c.loop-rest.rest (search rules) c.loop-rest.invariant

pub returns : goal.returns
returns c = (omega (arith, width_end (20 - c.loop-rest.count) c.loop-rest.rest (search rules)), search rules)
