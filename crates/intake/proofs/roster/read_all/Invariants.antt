use Rattle.std.proofs.Common.{◌-◌}
use Rattle.files.specs.Sources.{handed_by, most_handed}
use Rattle.intake.specs.Gathering.{WholeRead}
use Rattle.intake.proofs.roster.read_all.Given as goal

abbrev pub invariant-loop-after : goal.invariant-loop-after
invariant-loop-after l = WholeRead l.path l.before l.text

abbrev pub decreases-loop-after : goal.decreases-loop-after
decreases-loop-after l = most_handed - handed_by l.before
