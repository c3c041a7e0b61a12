use Rattle.std.proofs.Common.{sym}
use Rattle.writing.proofs.Answers.{no_room, has_room}
use Rattle.strip.proofs.strip.Goals as goal

pub returns-then-out-size : goal.returns-then-out-size
returns-then-out-size c =
    rw c.at.ensures (no_room _ _ (sym c.size-size.ensures) c.if-out-size.true)

pub returns : goal.returns
returns c =
    has_room _ _ (sym c.size-size.ensures) c.if-out-size.false c.write.ensures
