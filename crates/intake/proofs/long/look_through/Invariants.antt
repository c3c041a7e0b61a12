use Rattle.std.proofs.Common.{◌-◌}
use Rattle.files.specs.Sources.{handed_by, most_handed}
use Rattle.looking.specs.declared.Form.{Form}
use Rattle.intake.specs.Looking.{LongSoFar}
use Rattle.intake.proofs.long.look_through.Given as goal

-- what held of the beginning, of whatever form, holds still
abbrev pub invariant-loop-after : goal.invariant-loop-after
invariant-loop-after l = (form : Form) → LongSoFar form l.path l.body l.initial.before l.initial.seen → LongSoFar form l.path l.body l.before l.seen

abbrev pub decreases-loop-after : goal.decreases-loop-after
decreases-loop-after l = most_handed - handed_by l.before
