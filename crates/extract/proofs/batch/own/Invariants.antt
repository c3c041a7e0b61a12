use Rattle.batches.proofs.Copying.{Copied}
use Rattle.picking.specs.Places.{chosen}
use Rattle.extract.proofs.batch.own.Given as goal

abbrev pub invariant-loop-i : goal.invariant-loop-i
invariant-loop-i l = Copied (chosen l.file l.places) l.initial.dst l.i l.tally l.dst
