-- What one side of a posting does to a cell.
use Rattle.std.specs.Prelude.{ℕ, ◌+◌, Bool, ◌+ℤ◌}
use Rattle.paper.specs.declared.ledger.Cell.{Cell}
use Rattle.paper.specs.Postings.{signed}
use Rattle.paper.specs.Demands.{session_sides}

-- the position rises or falls by the amount, and the record is counted as sent or received
unfoldable pub side : Bool → ℕ → ℕ → ℕ → Cell → Cell
side rises amount sent received c = record { position = c.position +ℤ signed rises amount; sent = c.sent + sent; received = c.received + received }

-- how many sides there can be in all, with those of one file more that is being posted
abbrev pub sides_in_all : ℕ
sides_in_all = session_sides + 20000
