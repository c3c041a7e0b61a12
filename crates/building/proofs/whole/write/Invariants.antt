use Rattle.std.proofs.Common.{length, ◌-◌}
use Rattle.building.proofs.Progress.{Progress}
use Rattle.building.proofs.whole.write.Given as goal

abbrev pub invariant-loop-from : goal.invariant-loop-from
invariant-loop-from l = Progress l.header l.tray l.initial.out l.out l.from l.at l.numbering l.closed

abbrev pub decreases-loop-from : goal.decreases-loop-from
decreases-loop-from l = length l.tray - l.from
