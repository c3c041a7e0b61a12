use Rattle.characters.proofs.Printed.{as_printed}
use Rattle.characters.proofs.byte.good.Goals as goal

pub returns : goal.returns
returns c = rw (c.printed.ensures, c.barred.ensures) (as_printed _)
