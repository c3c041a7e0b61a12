use Rattle.std.proofs.Common.{◌∙◌}
use Rattle.export.specs.Spoken.{read_of}
use Rattle.export.proofs.Jobs.{rules_refused, done_by_rules}
use Rattle.export.proofs.shaydhoqel_read.Goals as goal

pub returns-in-Ok : goal.returns-in-Ok
unfolding read_of
returns-in-Ok c =
    done_by_rules _ _ _ _ _ _ c.currency.ensures c.open-opened.ensures c.in-Ok.is
    ∙ rw (c.speak_of.ensures, c.read.ensures)

pub returns-in-Err : goal.returns-in-Err
unfolding read_of
returns-in-Err c =
    rules_refused _ _ _ _ _ _ c.currency.ensures c.open-opened.ensures c.in-Err.is c.not_opened.ensures
