use Rattle.std.proofs.Common.{ap, sym, ◌∙◌}
use Rattle.paper.specs.Answers.{said}
use Rattle.desk.proofs.Members.{short}
use Rattle.export.specs.Member.{reasons_of}
use Rattle.export.proofs.Jobs.{done_there}
use Rattle.export.proofs.Texts.{all_shown, none_shown}
use Rattle.export.proofs.member.shaydhoqel_reasons.Goals as goal

pub hand_texts-requires : goal.hand_texts-requires
hand_texts-requires c =
    short _ _ _ _ (sym c.ask.ensures ∙ ap said c.in_default.is)

pub returns-in-Err-ask : goal.returns-in-Err-ask
unfolding reasons_of
returns-in-Err-ask c =
    done_there _ _ _ _ _ c.open-reply.ensures.0 c.in-Ok.ensures.session.0 ∙ none_shown _ _ _ _ _ c.ask.ensures c.in-Err-ask.is c.speak.ensures

pub returns : goal.returns
unfolding reasons_of
returns c =
    done_there _ _ _ _ _ c.open-reply.ensures.0 c.in-Ok.ensures.session.0
    ∙ all_shown _ _ _ _ _ c.ask.ensures c.in_default.is c.speak-2.ensures c.hand_texts.ensures
