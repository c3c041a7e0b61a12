use Rattle.building.proofs.Bodies.{Numbered}
use Rattle.building.proofs.batch.own.Given as goal

abbrev pub invariant-loop-records : goal.invariant-loop-records
invariant-loop-records l = Numbered l.tray l.initial.numbering l.initial.dst l.records l.numbering l.tally l.dst
