use Rattle.std.proofs.Common.{arith, length-set, refl, ◌∙◌}
use Rattle.paper.specs.Listing.{numbers_to}
use Rattle.desk.proofs.Rosters.{number_turn, number_end}
use Rattle.desk.proofs.Session.everybody.Goals as goal

pub loop-i-init : goal.loop-i-init
unfolding numbers_to
loop-i-init c = record { few = omega arith; size = refl; written = refl }

pub loop-i-preserved : goal.loop-i-preserved
loop-i-preserved c =
    let l = c.loop-i in
    record {
      few = omega (arith, c.loop-i-test.true);
      size = length-set l.entities l.i _ ∙ l.invariant.size;
      written = number_turn l.entities l.i l.invariant c.loop-i-test.true;
    }

pub returns : goal.returns
returns c = number_end c.loop-i.entities c.loop-i.i c.loop-i.invariant c.loop-i-test.false
