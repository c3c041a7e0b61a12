use Rattle.picking.proofs.Passing.{Passing}
use Rattle.picking.proofs.pick.Given as goal

abbrev pub invariant-loop-place : goal.invariant-loop-place
invariant-loop-place l = Passing l.entity l.file l.initial.held l.picking l.held l.place
