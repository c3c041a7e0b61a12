use Rattle.std.proofs.Common.{length, ◌-◌}
use Rattle.extract.proofs.Progress.{Progress}
use Rattle.extract.proofs.whole.write.Given as goal

abbrev pub invariant-loop-i : goal.invariant-loop-i
invariant-loop-i l = Progress l.entity l.file l.places l.initial.out l.out l.at l.number l.closed l.i

abbrev pub decreases-loop-i : goal.decreases-loop-i
decreases-loop-i l = length l.places - l.i
