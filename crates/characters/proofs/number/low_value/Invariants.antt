use Rattle.std.proofs.Common.{◌*◌, ◌+◌, ◌^◌, ◌≤◌}
use Rattle.characters.proofs.Value.{Read}
use Rattle.characters.proofs.number.low_value.Given as goal

abbrev pub invariant-loop-b : goal.invariant-loop-b
invariant-loop-b l = (l.sum + 2 ≤ 2 * 10 ^ l.b-index) × Read l.s l.sum l.b-index
