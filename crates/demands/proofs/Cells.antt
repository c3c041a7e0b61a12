-- What a session holds for each entity number, as calls of `Session::cell` give it.
use Prim.Native.Nat.{ℕ, zero, suc, ◌<◌}
use mathlib.Core.Bool.{Bool, true, false, cond}
use mathlib.Core.List.{List}
use mathlib.Core.Path.{◌≡◌, refl, sym, ap, ◌∙◌}
use native.Mathlib.Omega.{arith}
use borrow.Author.Tests.{le-leb}
use lib.Dec.{T}
use lib.IntN.{ℤ}
use lib.ListN.{get_or}
use Rattle.paper.specs.declared.ledger.Cell.{Cell}
use Rattle.paper.specs.Fields.{within}
use Rattle.paper.specs.Sessions.{zero_cell, cell_of}
use Rattle.paper.specs.Demands.{sum_to, all_records, naming, Equal}
use Rattle.paper.proofs.Tests.{of_T}
use Rattle.paper.proofs.Sums.{sum_to_same}
use Rattle.paper.proofs.Own as paper-own
use Rattle.paper.proofs.Totals.{cell_none}
use Rattle.desk.specs.declared.Session.{Session}
use Rattle.desk.specs.Standing.{standing}
use Rattle.desk.specs.Calls.{Holds, Came}
use Rattle.desk.proofs.Rosters.{below_500}
use Rattle.desk.proofs.Calls.{in_paper}

-- an entity's cell is the one at its number
pub own_cell : (s : Session) (e : ℕ) → T (within 1 499 e) → get_or s.cells e zero_cell ≡ cell_of (standing s) e
unfolding cell_of
own_cell s e t = rw (of_T (within 1 499 e) t)

-- so is that of number 0, which holds nothing
pub all_cells : {s : Session} {files : List (List ℕ)} → Came s files → (e : ℕ) → e < 500 → get_or s.cells e zero_cell ≡ cell_of (standing s) e
unfolding cell_of
all_cells c zero l = cell_none (in_paper c)
all_cells {s} c (suc n) l = rw (le-leb 1 (suc n) (omega arith), le-leb (suc n) 499 (omega arith)) refl

-- a sum over what calls give is the sum over the session's cells
pub cells_sum : {s : Session} {files : List (List ℕ)} → Came s files → (cells : ℕ → Cell) → ((e : ℕ) → Holds s e (cells e)) → (figure : Cell → ℤ)
    → sum_to 500 (λ e. figure (cells e)) ≡ sum_to 500 (λ e. figure (get_or s.cells e zero_cell))
cells_sum {s} c cells calls figure =
    sum_to_same 500 (λ e. figure (cells e)) (λ e. figure (get_or s.cells e zero_cell)) (λ e l. ap figure (calls e ∙ sym (all_cells c e l)))

-- the same records of E, the same cell; a number that is no entity's holds nothing in either session
pub same_cells : {s t : Session} {fs gs : List (List ℕ)} → Came s fs → Came t gs → (e : ℕ)
    → naming e (all_records fs) ≡ naming e (all_records gs) → Equal (cell_of (standing s) e) (cell_of (standing t) e)
unfolding cell_of
same_cells {s} {t} c d e h = go (within 1 499 e) refl
  where
    go : (b : Bool) → within 1 499 e ≡ b → Equal (cond b (get_or s.cells e zero_cell) zero_cell) (cond b (get_or t.cells e zero_cell) zero_cell)
    go true q = paper-own.own_records (in_paper c) (in_paper d) e (below_500 e q) h
    go false q = record { position = refl; sent = refl; received = refl }
