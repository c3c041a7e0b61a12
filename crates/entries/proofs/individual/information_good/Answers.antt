use Rattle.paper.specs.Records.{information_good}
use Rattle.entries.proofs.individual.information_good.Goals as goal

pub returns : goal.returns
unfolding information_good
returns c =
    simp (
      c.takes01.ensures,
      c.code.ensures,
      c.reads-2.ensures,
      c.reads.ensures,
    )
