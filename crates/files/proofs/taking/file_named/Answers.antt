use Rattle.files.proofs.Parts.{file_read}
use Rattle.files.proofs.taking.file_named.Goals as goal

pub returns : goal.returns
returns g c = file_read c.args.path.now c.in_ok-open.field-0 c.fill.new.buf c.fill.result c.in_ok-open.ensures c.fill.ensures
