use Rattle.desk.specs.Calls.{Reachable}
use Rattle.counter.proofs.jobs.present.Given as goal

abbrev pub invariant-loop-word : goal.invariant-loop-word
invariant-loop-word g l = Reachable l.session
