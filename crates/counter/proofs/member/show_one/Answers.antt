use Rattle.counter.proofs.Members.{shown}
use Rattle.counter.proofs.member.show_one.Goals as goal

pub reason-requires : goal.reason-requires
reason-requires g c = shown c.args.session.now _ _ _ _ c.show-shown.result c.show-shown.ensures (rw (← c.and.ensures) c.in_ok-answer.ensures)
