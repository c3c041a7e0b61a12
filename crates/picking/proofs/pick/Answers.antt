use Rattle.std.proofs.Common.{arith, rules, ◌∙◌}
use Rattle.paper.proofs.Accepted.{accepted_facts}
use Rattle.picking.proofs.Rising.{notes_ordered, in_hand_fits}
use Rattle.picking.proofs.Passing.{begun, turn}
use Rattle.picking.proofs.pick.Goals as goal

pub loop-place-init : goal.loop-place-init
loop-place-init c = record { long = search rules; noted = begun _ _ _ }

pub step-picking-requires : goal.step-picking-requires
step-picking-requires c =
    let i = c.loop-place.invariant in
    let f = accepted_facts c.requires.rules c.args.file.now c.requires.accepts in
    record { there = (f.short, omega (arith, c.loop-place-test.true)); fits = in_hand_fits (notes_ordered _ _ _) i.noted; long = i.noted.long ∙ i.long }

pub loop-place-preserved : goal.loop-place-preserved
loop-place-preserved c =
    record { long = c.loop-place.invariant.long; noted = turn _ _ _ c.loop-place.invariant.noted c.step-picking.ensures }
