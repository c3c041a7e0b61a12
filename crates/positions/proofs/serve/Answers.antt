use Rattle.io.proofs.Counting.{length-take_of_le}
use Rattle.listing.proofs.Printing.{counted}
use Rattle.positions.proofs.serve.Goals as goal

-- what is written is in the buffer
pub slice_bounds-out-end : goal.slice_bounds-out-end
slice_bounds-out-end g c = counted _ _ c.positions-written.ensures

pub slice_bounds-write_all-end : goal.slice_bounds-write_all-end
slice_bounds-write_all-end g c = length-take_of_le _ _ (counted _ _ c.positions-written.ensures)
