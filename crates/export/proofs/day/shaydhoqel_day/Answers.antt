use Rattle.desk.proofs.Calls.{room}
use Rattle.export.proofs.day.shaydhoqel_day.Goals as goal

pub hand_figures-requires : goal.hand_figures-requires
hand_figures-requires c =
    rw c.cells.ensures (room c.present_all.ensures.1)
