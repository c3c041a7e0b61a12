use Rattle.typed.proofs.Steps.{Put}
use Rattle.typed.proofs.roster.Roster.entities.Given as goal

abbrev pub invariant-loop-e : goal.invariant-loop-e
invariant-loop-e l = Put l.fn.self.listed l.initial.places l.places l.count l.e
