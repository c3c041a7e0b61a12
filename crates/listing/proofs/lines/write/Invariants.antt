use Rattle.std.proofs.Common.{List, arith, ℕ, ◌*◌, ◌++◌, ◌+◌, ◌≡◌, ◌≤◌}
use Rattle.paper.specs.declared.ledger.Cell.{Cell}
use Rattle.paper.specs.Fields.{bytes}
use Rattle.paper.specs.Listing.{line_feed, entity_lines, cell_sums}
use Rattle.writing.specs.Laid.{laid}
use Rattle.writing.proofs.Laying.{Wrote, start as begun, on}
use Rattle.listing.proofs.lines.write.Given as goal

-- the lines of the entities before n were written after the heading, and their cells added up
pub record Progress (cells : List Cell) (from : ℕ) (before after : List ℕ) (at : ℕ) (sums : Cell) (n : ℕ) : Type 0 where
  pub passed : ℕ
  pub next : n ≡ passed + 1
  pub short : at ≤ 25 + 67 * passed
  pub summed : sums ≡ cell_sums passed cells
  pub lines : Wrote from (entity_lines passed cells) before after at

-- what the first write leaves
pub heading : (x y : List ℕ) (n : ℕ) → (n ≡ 0 + 25) × (y ≡ laid 0 (bytes "ENTITY SENT RECEIVED NET" ++ line_feed) x) → Wrote 0 (bytes "ENTITY SENT RECEIVED NET" ++ line_feed) x y n
heading x y n e = on (begun (omega arith)) (bytes "ENTITY SENT RECEIVED NET" ++ line_feed) e

abbrev pub invariant-loop-n : goal.invariant-loop-n
invariant-loop-n l = Progress l.cells l.initial.at l.initial.out l.out l.at l.sums l.n
