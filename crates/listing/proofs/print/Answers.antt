use Rattle.desk.proofs.Calls.{room, sums_room}
use Rattle.listing.proofs.print.Goals as goal

pub write-requires : goal.write-requires
write-requires c =
    record { by_index = rw c.cells.ensures (room c.requires); by_index_2 = rw c.cells.ensures (sums_room c.requires) }
