use Rattle.writing.proofs.Laying.{Wrote}
use Rattle.strip.proofs.Passing.{passed}
use Rattle.strip.proofs.write.Given as goal

abbrev pub invariant-loop-place : goal.invariant-loop-place
invariant-loop-place l = Wrote 0 (passed l.file l.place) l.initial.out l.out l.at
