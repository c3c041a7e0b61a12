use Rattle.std.proofs.Common.{ap, sym, ◌∙◌}
use Rattle.typed.specs.Texts.{text_begun}
use Rattle.intake.proofs.Gathering.{nothing_read, read_to}
use Rattle.intake.proofs.roster.read_all.Goals as goal

pub loop-after-init : goal.loop-after-init
loop-after-init c = nothing_read _ _ _ c.requires (c.begun-text.ensures ∙ ap text_begun c.watch.ensures)

pub returns-then-has_ended : goal.returns-then-has_ended
returns-then-has_ended c =
    record { whole = read_to c.loop-after.invariant c.in_ok-after.ensures; ended = sym c.has_ended.ensures ∙ c.if-has_ended.true }

pub loop-after-preserved : goal.loop-after-preserved
loop-after-preserved c = read_to c.loop-after.invariant c.in_ok-after.ensures
