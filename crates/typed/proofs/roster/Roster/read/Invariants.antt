use Rattle.std.proofs.Common.{drop, ◌≡◌}
use Rattle.typed.specs.Rosters.{roster_of, read_on}
use Rattle.typed.proofs.roster.Roster.read.Given as goal

abbrev pub invariant-loop-b : goal.invariant-loop-b
invariant-loop-b l = read_on l.fn.self l.piece ≡ read_on (roster_of l.listed l.bytes l.progress) (drop l.b-index l.piece)
