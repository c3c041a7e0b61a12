use Rattle.picking.proofs.Moving.{record_passes_lem}
use Rattle.picking.proofs.passes.Goals as goal

pub returns : goal.returns
returns c = record_passes_lem c.args.picking
