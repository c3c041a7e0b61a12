-- The desk's calls are the paper's, so what holds of the paper's sessions holds of the desk's.
use Prim.Native.Nat.{ℕ, ◌≤◌}
use mathlib.Core.List.{List, []}
use mathlib.Core.Path.{sym, subst}
use lib.ListN.{get_or}
use Rattle.paper.specs.Sessions as paper
use Rattle.paper.specs.Sessions.{zero_cell}
use Rattle.paper.specs.Listing.{cell_sums}
use Rattle.paper.specs.Demands as calls
use Rattle.paper.specs.Demands.{with_accepted, Touched, session_sides}
use Rattle.paper.proofs.Room.{cells_touched}
use Rattle.paper.proofs.Totals.{sums_touched}
use Rattle.desk.specs.declared.Session.{Session}
use Rattle.desk.specs.Standing.{standing}
use Rattle.desk.specs.Calls.{Came, by_opening, by_presenting, Reachable}

pub in_paper : {s : Session} {files : List (List ℕ)} → Came s files → calls.Arose (standing s) files
in_paper (by_opening date currency entities r h) = subst (λ (x : paper.Reply). calls.Arose x.session []) (sym h) (calls.opened date currency entities)
in_paper (by_presenting {s} {files} c file r h) =
    subst (λ (x : paper.Reply). calls.Arose x.session (with_accepted x.answer files file)) (sym h) (calls.presented (in_paper c) file)

-- from the one premise: no figure of a cell, nor of a sum over cells, comes near 64 bits
pub room : {s : Session} → Reachable s → (e : ℕ) → Touched session_sides (get_or s.cells e zero_cell)
room c = cells_touched (in_paper c.came)

pub sums_room : {s : Session} → Reachable s → (n : ℕ) → n ≤ 499 → Touched session_sides (cell_sums n s.cells)
sums_room c = sums_touched (in_paper c.came)
