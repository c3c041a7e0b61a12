use Rattle.std.proofs.Common.{◌≤◌}
use Rattle.files.proofs.ending.descriptor.Given as goal

abbrev pub invariant-loop-b : goal.invariant-loop-b
invariant-loop-b l = l.n ≤ 99999
