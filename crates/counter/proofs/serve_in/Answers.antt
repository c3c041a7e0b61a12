use Rattle.intake.proofs.Gathering.{inside}
use Rattle.io.proofs.Counting.{length-take_of_le}
use Rattle.counter.proofs.serve_in.Goals as goal

pub slice_bounds-entities-end : goal.slice_bounds-entities-end
slice_bounds-entities-end g c = inside c.in_ok-roll.ensures

pub slice_bounds-open-end : goal.slice_bounds-open-end
slice_bounds-open-end g c = length-take_of_le _ _ (inside c.in_ok-roll.ensures)
