-- What a record of a file becomes on a tray.
use Rattle.std.specs.Prelude.{ℕ, ◌≤◌, List, ◌≡◌, length}
use Rattle.paper.specs.Kinds.{kind_of}
use Rattle.paper.specs.Writing.{joined}
use Rattle.paper.specs.Trays.{marked}

-- one tray record, or nothing
unfoldable pub on_tray : List ℕ → List ℕ
on_tray r = joined (marked (kind_of r) r)

-- a record to be put on a tray behind its mark
pub record ToMark (mark r buffer : List ℕ) : Type 0 where
  pub two : length mark ≡ 2
  pub long : length r ≡ 94
  pub room : 96 ≤ length buffer
