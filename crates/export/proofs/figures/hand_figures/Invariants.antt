use Rattle.std.proofs.Common.{List, length, ℕ, ℤ, ◌≡◌}
use Rattle.paper.specs.declared.ledger.Cell.{Cell}
use Rattle.export.specs.Day.{figures_of}
use Rattle.export.proofs.FigureLaws.{Through}
use Rattle.export.proofs.figures.hand_figures.Given as goal

-- the first figures are written
pub record Progress (figures₀ : List ℤ) (cells : List Cell) (figures : List ℤ) (i : ℕ) : Type 0 where
  pub long : length figures ≡ length figures₀
  pub through : Through (figures_of cells) figures₀ i figures

abbrev pub invariant-loop-i : goal.invariant-loop-i
invariant-loop-i l = Progress l.initial.figures l.cells l.figures l.i
