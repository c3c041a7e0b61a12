use Rattle.std.proofs.Common.{arith, sym, ◌∙◌}
use Rattle.export.proofs.Texts.{one_more, no_more}
use Rattle.export.proofs.member.hand_texts.Goals as goal

pub loop-i-preserved : goal.loop-i-preserved
loop-i-preserved c =
    record {
      long = omega (arith, c.hand_pair.auto.pairs);
      left = c.loop-i.invariant.left
          ∙ one_more _ _ _ c.loop-i.texts c.loop-i-test.true c.find.ensures c.speak_text-text.ensures c.hand_pair.ensures;
    }

pub returns : goal.returns
returns c =
    sym (c.loop-i.invariant.left ∙ no_more _ _ _ _ c.loop-i-test.false)
