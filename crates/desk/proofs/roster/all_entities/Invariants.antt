use Rattle.paper.specs.Fields.{within}
use Rattle.characters.proofs.Scan.{Tested}
use Rattle.desk.proofs.roster.all_entities.Given as goal

abbrev pub invariant-loop-n : goal.invariant-loop-n
invariant-loop-n l = Tested (within 1 499) l.entities l.good l.n-index
