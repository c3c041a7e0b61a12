use Rattle.std.proofs.Common.{ap, cond, ◌+◌, ◌∙◌, ◌≡◌}
use Rattle.paper.specs.Kinds.{opens_batch, kind_of}
use Rattle.tray.proofs.Passing.{one_counted}
use Rattle.tray.proofs.batches.Goals as goal
use Rattle.tray.proofs.batches.Goals.{then-opens, else-opens}

pub loop-place-preserved : goal.loop-place-preserved
loop-place-preserved c =
    let e = c.opens.ensures ∙ ap (λ b. opens_batch (kind_of b)) c.body_at.ensures.0 in
    let n : c.if-opens.count ≡ cond c.opens.result (c.loop-place.count + 1) c.loop-place.count =
    elim c.if-opens.branch [ then-opens w ↦ rw w.if-opens.true w.count-is | else-opens w ↦ rw w.if-opens.false w.count-is ] in
    one_counted _ c.loop-place.invariant c.loop-place-test.true e n
