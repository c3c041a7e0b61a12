use Rattle.paper.specs.Entities.{on_roster}
use Rattle.paper.specs.Records.{addressed}
use Rattle.entries.proofs.individual.addressed.Goals as goal

pub returns-in-House : goal.returns-in-House
unfolding addressed on_roster
returns-in-House c f e = simp (c.need.ensures, c.in-House.is, e)
