use Rattle.std.proofs.Common.{sym}
use Rattle.reading.proofs.characters.Goals as goal

pub returns-then-clean : goal.returns-then-clean
returns-then-clean c = sym (c.requires c.if-clean.true)
