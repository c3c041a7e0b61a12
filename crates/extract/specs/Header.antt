-- An extract's file header.
use Rattle.std.specs.Prelude.{ℕ, ◌+◌, ◌≤◌, List, ◌++◌, ◌≡◌, length}
use Rattle.paper.specs.declared.rules.Currency.{Currency}
use Rattle.paper.specs.Fields.{bytes}
use Rattle.paper.specs.Entities.{currency_adds}
use Rattle.paper.specs.Writing.{spelled}

-- positions 4-13
abbrev pub destination_for : Currency → ℕ → List ℕ
destination_for currency e = bytes " " ++ spelled 4 (e + currency_adds currency) ++ bytes "00000"

-- what it is written from, and over
pub record ToTurn (e : ℕ) (header buffer : List ℕ) : Type 0 where
  pub entity : e ≤ 499
  pub long : length header ≡ 94
  pub room : length buffer ≡ 94
