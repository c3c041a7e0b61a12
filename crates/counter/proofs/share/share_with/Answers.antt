use Rattle.std.proofs.Common.{Ok, ap, ◌∙◌}
use Rattle.io.proofs.Counting.{length-take_of_le}
use Rattle.sharing.proofs.Shares.{share_inside}
use Rattle.counter.proofs.share.share_with.Goals as goal

pub slice_bounds-hand_out-end : goal.slice_bounds-hand_out-end
slice_bounds-hand_out-end g c =
    share_inside c.args.session.now _ _ _ _ _ c.share.ensures (c.in-Ok-Some.is ∙ ap Ok c.in-Ok-Some.field-0-is)

pub slice_bounds-hand_out-end-in-Ok-Some : goal.slice_bounds-hand_out-end-in-Ok-Some
slice_bounds-hand_out-end-in-Ok-Some g c =
    length-take_of_le _ _ (share_inside c.args.session.now _ _ _ _ _ c.share.ensures (c.in-Ok-Some.is ∙ ap Ok c.in-Ok-Some.field-0-is))
