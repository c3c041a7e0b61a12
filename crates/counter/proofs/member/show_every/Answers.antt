use Rattle.counter.proofs.Members.{asked}
use Rattle.counter.proofs.member.show_every.Goals as goal

pub show_each-requires : goal.show_each-requires
show_each-requires g c = asked c.args.session.now _ _ _ _ c.ask.ensures c.in_ok-answer.ensures
