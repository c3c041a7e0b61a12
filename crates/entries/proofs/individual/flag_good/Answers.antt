use Rattle.paper.specs.Records.{flag_good}
use Rattle.entries.proofs.individual.flag_good.Goals as goal

pub returns : goal.returns
unfolding flag_good
returns c =
    simp (
      c.reads.ensures,
      c.is_order.ensures,
      c.code.ensures,
      c.flagged.ensures,
    )
