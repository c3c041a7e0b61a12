-- What the reading's acceptance says of the file.
use Prim.Native.Nat.{ℕ, ◌≤◌}
use mathlib.Core.List.{List}
use mathlib.Core.Path.{◌≡◌, sym}
use lib.ListN.{length}
use Rattle.paper.specs.declared.rules.Rules.{Rules}
use Rattle.paper.specs.Answers.{accepted}
use Rattle.paper.specs.Reading.{reading}
use Rattle.paper.proofs.Accepted.{accepted_facts}

pub read_short : (rules : Rules) (file : List ℕ) → accepted ≡ reading rules file → length file ≤ 940000
read_short rules file h = (accepted_facts rules file (sym h)).short
