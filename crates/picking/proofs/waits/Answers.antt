use Rattle.picking.proofs.Moving.{header_waits_lem}
use Rattle.picking.proofs.waits.Goals as goal

pub returns : goal.returns
returns c =
    rw c.note.ensures (header_waits_lem c.requires)
