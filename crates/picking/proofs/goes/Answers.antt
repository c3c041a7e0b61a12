use Rattle.picking.proofs.Moving.{record_goes_lem}
use Rattle.picking.proofs.goes.Goals as goal

pub returns : goal.returns
returns c =
    rw c.note.ensures (record_goes_lem c.requires)
