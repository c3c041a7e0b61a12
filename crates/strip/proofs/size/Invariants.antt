use Rattle.std.proofs.Common.{length, ◌*◌, ◌≡◌, ◌≤◌}
use Rattle.strip.proofs.Passing.{passed}
use Rattle.strip.proofs.size.Given as goal

abbrev pub invariant-loop-place : goal.invariant-loop-place
invariant-loop-place l = (l.size ≤ l.place * 96) × (l.size ≡ length (passed l.file l.place))
