use Rattle.std.proofs.Common.{arith, ◌∙◌}
use Rattle.desk.specs.Standing.{standing}
use Rattle.export.specs.Day.{turns_of}
use Rattle.export.proofs.Days.{one_turn, last_turn}
use Rattle.export.proofs.day.present_all.Goals as goal

pub loop-i-preserved : goal.loop-i-preserved
loop-i-preserved c =
    record {
      long = omega (arith, c.hand_pair.auto.pairs);
      reached = c.present-answer.ensures.1;
      left = c.loop-i.invariant.left
          ∙ one_turn _ _ _ _ (standing c.loop-i.session) c.loop-i.answers c.loop-i-test.true c.between.ensures c.present-answer.ensures.0 c.speak_of-spoken.ensures c.hand_pair.ensures;
    }

pub returns : goal.returns
unfolding turns_of
returns c =
    (c.loop-i.invariant.left ∙ last_turn _ _ _ _ _ c.loop-i-test.false, c.loop-i.invariant.reached)
