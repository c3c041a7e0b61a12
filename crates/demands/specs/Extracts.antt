-- The words in which the demands on the desk's extracts are stated.
use Rattle.std.specs.Prelude.{ℕ, ◌≤◌, false, ◌&&◌, List, ◌≡◌, T, length, get_or}
use Rattle.paper.specs.Answers.{Said, accepted, and_then}
use Rattle.paper.specs.Fields.{within}
use Rattle.paper.specs.Reading.{reading}
use Rattle.paper.specs.Extract.{extract}
use Rattle.paper.specs.Buffers.{room_for, entity_given}
use Rattle.desk.specs.declared.Session.{Session}
use Rattle.desk.specs.Standing.{rules_of}
use Rattle.demands.specs.Faults.{Unless, FaultyOrShort}

-- the answer to a call of extract: 208, then the reading's refusals, then 206
abbrev pub answer_for : Session → ℕ → List ℕ → List ℕ → Said
answer_for s e file before = and_then (entity_given (rules_of s) e) (and_then (reading (rules_of s) file) (room_for (extract s.rules.currency e file) before))

-- all that a call asks for: an entity 1 to 499 and on the roster, a file that the reading accepts, and room for the extract
pub record Extractable (s : Session) (e : ℕ) (file before : List ℕ) : Type 0 where
  pub entity : T (within 1 499 e)
  pub listed : T (get_or s.rules.roster e false)
  pub reads : reading (rules_of s) file ≡ accepted
  pub room : length (extract s.rules.currency e file) ≤ length before

-- the first fault of a call, its number and place: "208, then the reading's refusals, then 206"
abbrev pub ExtractFaulty : Session → ℕ → List ℕ → List ℕ → ℕ → ℕ → Type 0
ExtractFaulty s e file before = Unless (within 1 499 e && get_or s.rules.roster e false) 208 (FaultyOrShort (rules_of s) file (extract s.rules.currency e file) before)
