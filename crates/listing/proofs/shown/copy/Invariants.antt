use Rattle.std.proofs.Common.{drop, length, take, ◌++◌, ◌≡◌}
use Rattle.listing.specs.Answers.{shown}
use Rattle.listing.proofs.shown.copy.Given as goal

abbrev pub invariant-loop-i : goal.invariant-loop-i
invariant-loop-i l = (length l.part ≡ length l.initial.part) × (l.part ≡ take l.i (shown l.text) ++ drop l.i l.initial.part)
