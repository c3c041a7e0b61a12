use Rattle.std.proofs.Common.{drop, length, ◌++◌, ◌≡◌}
use Rattle.paper.specs.Writing.{spelled}
use Rattle.writing.proofs.digits.Given as goal

abbrev pub invariant-loop-i : goal.invariant-loop-i
invariant-loop-i l = spelled (length l.initial.part) l.value ≡ spelled l.i l.rest ++ drop l.i l.part
