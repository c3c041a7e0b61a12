use Rattle.tray.proofs.Passing.{Counted}
use Rattle.tray.proofs.batches.Given as goal

abbrev pub invariant-loop-place : goal.invariant-loop-place
invariant-loop-place l = Counted l.tray l.place l.count
