use Rattle.std.proofs.Common.{List, length, true, ℕ, ◌-◌, ◌<◌, ◌≡◌}
use Rattle.paper.specs.Records.{ReadingRules}
use Rattle.paper.specs.Reading.{start, length_good, reading_from, parts}
use Rattle.state.specs.declared.State.{State}
use Rattle.verdicts.specs.Verdicts.{under}
use Rattle.reading.specs.Taken.{Underway, Framed, on_from}
use Rattle.reading.proofs.read.Given as goal

-- the records before this place have been read, and the rest will answer for the whole
pub record Progress (rules : ReadingRules) (file : List ℕ) (records front place : ℕ) (st : State) : Type 0 where
  pub fit : length_good (length file) ≡ true
  pub underway : Underway file records front place st
  pub framed : place < records → Framed file place st
  pub left : reading_from rules start (parts 94 records file) ≡ on_from rules file records place st

abbrev pub invariant-loop-place : goal.invariant-loop-place
invariant-loop-place l = Progress (under l.terms) l.file l.records l.front l.place l.state

abbrev pub decreases-loop-place : goal.decreases-loop-place
decreases-loop-place l = l.records - l.place
