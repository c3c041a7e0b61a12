use Rattle.std.proofs.Common.{◌*◌}
use Rattle.writing.proofs.Laying.{Wrote}
use Rattle.company.proofs.Writing.{made}
use Rattle.company.proofs.orders.Given as goal

abbrev pub invariant-loop-place : goal.invariant-loop-place
invariant-loop-place l = Wrote 0 (made l.currency l.lo l.file l.details l.place) l.initial.dst l.dst (l.place * 96)
