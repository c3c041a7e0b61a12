use Rattle.extract.proofs.Batches.{batch_whole}
use Rattle.extract.proofs.batch.write.Goals as goal
use Rattle.extract.proofs.batch.write.Goals.{After-own-batch}

pub returns : goal.returns
returns c =
    batch_whole c.args.number c.requires.to_copy c.record_at-header.ensures.0 c.record_at-header.ensures.1 c.numbered.ensures c.own-batch.ensures c.batch_control.ensures
