use Rattle.paper.specs.Reading.{length_good}
use Rattle.reading.proofs.length_good.Goals as goal

pub returns : goal.returns
unfolding length_good
returns c = rw c.within.ensures
