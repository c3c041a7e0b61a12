use Rattle.desk.proofs.Rosters.{Numbered}
use Rattle.desk.proofs.Session.everybody.Given as goal

abbrev pub invariant-loop-i : goal.invariant-loop-i
invariant-loop-i l = Numbered l.entities l.i
