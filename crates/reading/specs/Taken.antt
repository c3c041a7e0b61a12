-- What one record comes to: its characters, its type's place, its fields, and the state after it. And a run of records.
use Rattle.std.specs.Prelude.{ℕ, ◌+◌, ◌/◌, ◌≤◌, ◌<◌, Bool, true, false, ◌||◌, List, ◌≡◌, length, take, drop, Result, Ok, Err}
use Rattle.paper.specs.declared.record.Before.TheVariants.{Nothing}
use Rattle.paper.specs.declared.record.Kind.{Kind}
use Rattle.paper.specs.declared.answer.Refusal.{Refusal}
use Rattle.paper.specs.Answers.{Said, refused, number_of}
use Rattle.paper.specs.Fields.{every, good}
use Rattle.paper.specs.Kinds.{is_individual, is_additional, kind_of}
use Rattle.paper.specs.Records.{ReadingRules}
use Rattle.paper.specs.Reading.{judged, next, record_at, reading_from, parts}
use Rattle.state.specs.declared.State.{State}
use Rattle.state.specs.States.{Step, meant, AfterRecord, after_record, step_says, Standing, Kept}

abbrev pub taken : ReadingRules → List ℕ → ℕ → State → AfterRecord
taken rules file place st =
    after_record (judged rules (meant file place st) (record_at file place)) (next (meant file place st) (record_at file place))

-- what a step says, here `outcome`, and what it keeps for the next record
pub record Comes (outcome : AfterRecord) (file : List ℕ) (place : ℕ) (r : Step) : Type 0 where
  pub says : step_says file (place + 1) r ≡ outcome
  pub kept : Kept file (place + 1) r

-- so many bytes at the front are characters
pub record Clean (file : List ℕ) (front : ℕ) : Type 0 where
  pub short : front ≤ length file
  pub good : every good (take front file) ≡ true

-- an individual record or an additional one
abbrev pub is_entry : Kind → Bool
is_entry k = is_individual k || is_additional k

-- no entry stands here but as the first record
abbrev pub Framed : List ℕ → ℕ → State → Type 0
Framed file place st = is_entry (kind_of (record_at file place)) ≡ true → st.before ≡ Nothing

-- the records before this place, of so many, have been read
pub record Underway (file : List ℕ) (records front place : ℕ) (st : State) : Type 0 where
  pub all : records ≡ length file / 94
  pub within : place ≤ records
  pub short : length file ≤ 940000
  pub standing : Standing file place st
  pub clean : Clean file front

-- what the records from a place on answer
abbrev pub on_from : ReadingRules → List ℕ → ℕ → ℕ → State → Said
on_from rules file records place st = reading_from rules (meant file place st) (drop place (parts 94 records file))

-- the records up to a further place were good, and the rest answers for them too
pub record Reaches (rules : ReadingRules) (file : List ℕ) (records place : ℕ) (st : State) (at : ℕ) (after : State) : Type 0 where
  pub further : place ≤ at
  pub within : at ≤ records
  pub standing : Standing file at after
  pub framed : at < records → is_entry (kind_of (record_at file at)) ≡ false
  pub left : on_from rules file records place st ≡ on_from rules file records at after

-- how far a run of records went without fault, and what the next one finds before it; or the fault that ended it, and where
abbrev pub Reached : Type 0
Reached = Result (ℕ × State) Refusal

unfoldable pub Runs : ReadingRules → List ℕ → ℕ → ℕ → State → Reached → Type 0
Runs rules file records place st (Ok reached) = Reaches rules file records place st reached.0 reached.1
Runs rules file records place st (Err r) = on_from rules file records place st ≡ refused (number_of r.fault) r.place

-- a run went further than where it began
unfoldable pub Further : ℕ → Reached → Type 0
Further place (Ok reached) = place < reached.0
Further place (Err r) = Unit {0}
