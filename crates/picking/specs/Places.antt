-- Records held by their places in a file.
use Rattle.std.specs.Prelude.{ℕ, ◌+◌, ◌*◌, ◌≤◌, List, map, ◌≡◌, length, get_or}
use Rattle.paper.specs.declared.rules.Rules.{Rules}
use Rattle.paper.specs.Answers.{accepted}
use Rattle.paper.specs.Reading.{reading, record_at}

-- a file that a reading accepted
pub record Passed (file : List ℕ) : Type 0 where
  pub rules : Rules
  pub accepts : reading rules file ≡ accepted

-- each is the place of a record
abbrev pub Placed : List ℕ → List ℕ → Type 0
Placed file places = (i : ℕ) → get_or places i 0 * 94 + 94 ≤ length file

abbrev pub chosen : List ℕ → List ℕ → List (List ℕ)
chosen file places = map (record_at file) places
