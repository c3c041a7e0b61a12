use Rattle.std.proofs.Common.{◌*◌}
use Rattle.reading.specs.Taken.{Clean}
use Rattle.reading.proofs.clean_front.Given as goal

abbrev pub invariant-loop-block : goal.invariant-loop-block
invariant-loop-block l = Clean l.file (l.block * 1504)
