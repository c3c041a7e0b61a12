use Rattle.listing.proofs.Printing.{counted}
use Rattle.counter.proofs.Printed.{front}
use Rattle.counter.proofs.say.list.Goals as goal

-- what is printed is in the buffer
pub slice_bounds-lines-end : goal.slice_bounds-lines-end
slice_bounds-lines-end g c = counted _ _ c.print-n.ensures

pub slice_bounds-printed-end : goal.slice_bounds-printed-end
slice_bounds-printed-end g c = front _ _ c.print-n.ensures
