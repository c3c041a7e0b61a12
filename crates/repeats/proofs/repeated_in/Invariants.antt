use Rattle.repeats.proofs.Looking.{Looking}
use Rattle.repeats.proofs.repeated_in.Given as goal

abbrev pub invariant-loop-place : goal.invariant-loop-place
invariant-loop-place l = Looking l.file l.initial.pages l.initial.seen l.page l.from l.pages l.seen l.taken l.place
