use Rattle.std.proofs.Common.{List, ℕ, ◌*◌, ◌+◌, ◌≡◌}
use Rattle.paper.specs.declared.ledger.Cell.{Cell}
use Rattle.paper.specs.Demands.{session_sides}
use Rattle.ledger.proofs.Touches.{AllTouched}
use Rattle.ledger.proofs.Walk.{from}
use Rattle.ledger.proofs.post.Given as goal

-- the records before this place are posted, and have touched each cell at most twice
pub record Progress (file : List ℕ) (cells after : List Cell) (place : ℕ) : Type 0 where
  pub touched : AllTouched (session_sides + 2 * place) after
  pub left : from file 0 cells ≡ from file place after

abbrev pub invariant-loop-place : goal.invariant-loop-place
invariant-loop-place l = Progress l.file l.initial.cells l.cells l.place
