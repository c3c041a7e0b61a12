use Rattle.std.proofs.Common.{List, ℕ, ◌≡◌, ◌≤◌}
use Rattle.paper.specs.Records.{ReadingRules}
use Rattle.state.specs.declared.State.{State}
use Rattle.verdicts.specs.Verdicts.{under}
use Rattle.reading.specs.Taken.{Underway, on_from}
use Rattle.reading.proofs.entries.Given as goal

-- the entries before this place have been read, and the rest will answer for them too
pub record Progress (rules : ReadingRules) (file : List ℕ) (records front first : ℕ) (st : State) (place : ℕ) (now : State) : Type 0 where
  pub underway : Underway file records front place now
  pub further : first ≤ place
  pub left : on_from rules file records first st ≡ on_from rules file records place now

abbrev pub invariant-loop-place : goal.invariant-loop-place
invariant-loop-place l = Progress (under l.terms) l.file l.records l.front l.first l.initial.now l.place l.now
