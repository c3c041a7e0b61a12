use Rattle.paper.specs.Records.{account_good}
use Rattle.entries.proofs.individual.account_good.Goals as goal

pub returns : goal.returns
unfolding account_good
returns c = simp c.digits.ensures
