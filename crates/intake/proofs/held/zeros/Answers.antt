use Rattle.intake.proofs.Zeros.{made}
use Rattle.intake.proofs.held.zeros.Goals as goal

pub returns : goal.returns
returns g c = made g.row.N
