use Rattle.desk.proofs.Rosters.{Marked}
use Rattle.desk.proofs.rules.marks.Given as goal

abbrev pub invariant-loop-entity : goal.invariant-loop-entity
invariant-loop-entity l = Marked l.entities l.roster l.entity-index
