-- A record's step: what is said, and what is kept for the next record.
use Prim.Native.Nat.{ℕ, ◌*◌, ◌^◌, ◌+◌, ◌≤◌, ◌<◌}
use mathlib.Core.Bool.{Bool, true, false, cond}
use mathlib.Core.List.{List}
use mathlib.Core.Path.{◌≡◌, refl, sym, subst, ap, ◌∙◌}
use native.Mathlib.Omega.{arith}
use native.Mathlib.Numerals.{add-one}
use lib.ListN.{length, drop, length-drop}
use lib.Seq.{length-take-le}
use Rattle.paper.specs.declared.record.Before.{Before}
use Rattle.paper.specs.declared.record.Kind.{Kind}
use Rattle.paper.specs.declared.record.Kind.TheVariants.{FileHeader, BatchHeader, Individual, Additional, BatchControl, FileControl, Other}
use Rattle.paper.specs.declared.record.Tally.{Tally}
use Rattle.paper.specs.declared.answer.Fault.{Fault}
use Rattle.paper.specs.Answers.{number_of}
use Rattle.paper.specs.Checks.{fine, wrong, need, ◌also◌}
use Rattle.paper.specs.Kinds.{opens_batch, is_individual, is_additional, closes_batch}
use Rattle.paper.specs.Fields.{among}
use Rattle.paper.specs.Records.{ReadingRules, number_in, flagged_in, individual}
use Rattle.paper.specs.Controls.{zeros, plus, with_individual, with_additional}
use Rattle.paper.specs.Reading as paper
use Rattle.paper.specs.Reading.{fields, before_next, last_individual, counter_next, batch_next, closed_next, counted, flag, record_at}
use Rattle.state.specs.declared.State.{State}
use Rattle.std.proofs.Common.{Result, Ok, Err, IsErr}
use Rattle.std.specs.Prelude.{IsErrAnd}
use Rattle.std.proofs.lemmas.Result.{err_from_is_err_and}
use Rattle.paper.specs.declared.answer.Fault.{Fault}
use Rattle.state.specs.States.{meant, step_says, after_record, stepped, Preceded, Kept, header_place, individual_place, higher, before_by, counter_by, with_entry, batch_by, after_by, past_by, Knows, Held, StandsAfter, Ready, Entered, EntryTold, Advances, Steps}
use Rattle.repeats.specs.Numbers.{numbers_before, repeated}
use Rattle.paper.proofs.Tests.{not_both}
use Rattle.repeats.proofs.Further.{one_more, repeated_at}
use Rattle.state.proofs.Entering.{entered}
use Rattle.state.proofs.Numbering.{known_next}
use Rattle.entries.specs.declared.individual.Entry.{Entry}
use Rattle.entries.specs.Judging.{entry_of}
use Rattle.controls.specs.Bounds.{Below}
use Rattle.controls.proofs.Bounds.{below_more, below_zeros, below_individual, below_additional, below_plus}

module _ {kind : Kind} (rules : ReadingRules) {file : List ℕ} {place : ℕ} {st : State} (ready : Ready kind file place st) where
  -- the record is without fault
  pub goes_on : {next : State} → fields kind rules (meant file place st) (record_at file place) ≡ fine → Advances kind file place st next
      → Steps kind rules file place st (Ok next)
  unfolding step_says stepped after_record paper.next Kept Held
  goes_on e a = record { says = rw (ready.told, e, a.goes); kept = a.kept; held = a.held }

  -- its first fault is this
  pub stops_at : {fault : Fault} → fields kind rules (meant file place st) (record_at file place) ≡ wrong (number_of fault)
      → Steps kind rules file place st (Err fault)
  unfolding step_says stepped after_record Kept Held
  stops_at e = record { says = rw (ready.told, e); kept = tt; held = tt }

  -- and `?` hands it back
  pub stops_as : (fault : Fault) (r : Result State Fault) → IsErr r × IsErrAnd r (λ y. y ≡ fault)
      → fields kind rules (meant file place st) (record_at file place) ≡ wrong (number_of fault) → Steps kind rules file place st r
  stops_as fault r h e = let p = err_from_is_err_and r h.1 in rw (p.1, p.2) (stops_at e)

-- ---- an individual record's number, new in the file or not

module _ {file : List ℕ} {place : ℕ} {st : State} (ready : Ready Individual file place st) (rules : ReadingRules)
    (good : individual rules (record_at file st.header) st.counter (record_at file place) ≡ fine) where
  seen_so : {b : Bool} → repeated file place ≡ b → among (numbers_before file place) (number_in (record_at file place)) ≡ b
  seen_so h = sym (repeated_at file place (rw ready.told refl)) ∙ h

  pub is_new : repeated file place ≡ false → fields Individual rules (meant file place st) (record_at file place) ≡ fine
  unfolding fields meant need ◌also◌
  is_new h = rw (good, seen_so h) refl

  pub is_old : repeated file place ≡ true → fields Individual rules (meant file place st) (record_at file place) ≡ wrong 27
  unfolding fields meant need ◌also◌
  is_old h = rw (good, seen_so h) refl

-- ---- room for one record more

room_batches : (b : Bool) (n place : ℕ) → n ≤ place → cond b (n + 1) n ≤ place + 1
room_batches true n place h = omega arith
room_batches false n place h = omega arith

room_batch : (opens enters adds : Bool) (m : ℕ) (t : Tally) (r : List ℕ) → length r ≡ 94 → Below m t
    → Below (m + 10 ^ 10) (cond opens zeros (cond enters (with_individual t r) (cond adds (with_additional t) t)))
room_batch true enters adds m t r l h = below_zeros _
room_batch false true adds m t r l h = below_individual _ _ l h
room_batch false false true m t r l h = below_more _ (omega arith) (below_additional _ h)
room_batch false false false m t r l h = below_more _ (omega arith) h

room_closed : (b : Bool) (place : ℕ) (closed batch : Tally) → Below (10 ^ 14 * place) closed → Below (10 ^ 10 * place) batch → place < 10000
    → Below (10 ^ 14 * (place + 1)) (cond b (plus closed batch) closed)
room_closed true place closed batch c h few = below_more _ (omega arith) (below_plus _ _ c h)
room_closed false place closed batch c h few = below_more _ (omega arith) c

-- ---- what stands before the next

pub standing_flagged : (b : Bool) (place : ℕ) (st : State) → st.header < place → st.individual < place → Preceded (flag b) place st
unfolding Preceded flag
standing_flagged true place st h i = (h, i)
standing_flagged false place st h i = h

preceding : (kind : Kind) (r : List ℕ) (place : ℕ) (st next : State) → StandsAfter kind place st → next.header ≡ header_place kind st.header place
    → next.individual ≡ individual_place kind st.individual place → Preceded (before_next kind r) (place + 1) next
unfolding Preceded before_next
preceding FileHeader r place st next s h i = tt
preceding BatchHeader r place st next s h i = omega arith
preceding Individual r place st next s h i = standing_flagged _ _ _ (omega arith) (omega arith)
preceding Additional r place st next s h i = omega (arith, s.0)
preceding BatchControl r place st next s h i = tt
preceding FileControl r place st next s h i = tt
preceding Other r place st next s h i = tt

-- ---- column by column

-- what is made of the number of an individual record, and of none
number_told : {A : Type 0} (i : Bool) (r : List ℕ) (entry : Entry) → (i ≡ true → Entered r entry) → (of : ℕ → A) (a : A) → cond i (of entry.counter) a ≡ cond i (of (number_in r)) a
unfolding entry_of
number_told true r entry h of a = ap (λ (e : Entry). of e.counter) (h refl).0
number_told false r entry h of a = refl

module _ {kind : Kind} {counter : ℕ} {r : List ℕ} {entry : Entry} {flagged : Bool} (told : EntryTold kind counter r entry flagged) where
  counter_told : counter_by kind counter entry.counter ≡ counter_next kind counter r
  counter_told = ap (λ (n : ℕ). cond (opens_batch kind) 0 n) (number_told (is_individual kind) r entry told.numbers (λ n. n) counter)

  batch_told : (t : Tally) → batch_by kind t entry ≡ batch_next kind t r
  batch_told t = ap (λ (m : Tally). cond (opens_batch kind) zeros m) (go (is_individual kind) told.numbers (cond (is_additional kind) (with_additional t) t))
    where
      go : (i : Bool) → (i ≡ true → Entered r entry) → (other : Tally) → cond i (with_entry t entry) other ≡ cond i (with_individual t r) other
      go true h other = entered r entry (h refl).0 (h refl).1 t
      go false h other = refl

-- whether it is flagged
before_told : (kind : Kind) (r : List ℕ) (flagged : Bool) → (is_individual kind ≡ true → flagged ≡ flagged_in r) → before_by kind flagged ≡ before_next kind r
unfolding before_next
before_told FileHeader r flagged h = refl
before_told BatchHeader r flagged h = refl
before_told Individual r flagged h = ap flag (h refl)
before_told Additional r flagged h = refl
before_told BatchControl r flagged h = refl
before_told FileControl r flagged h = refl
before_told Other r flagged h = refl

-- a record of another kind tells nothing
nothing_told : {kind : Kind} {counter : ℕ} {r : List ℕ} {entry : Entry} {flagged : Bool} → is_individual kind ≡ false → EntryTold kind counter r entry flagged
nothing_told n = record { numbers = λ h. absurd (not_both h n); rises = λ h. absurd (not_both h n); flag = λ h. absurd (not_both h n) }

-- what stands at one of two places
at_either : (file : List ℕ) (b : Bool) (m n : ℕ) → record_at file (cond b m n) ≡ cond b (record_at file m) (record_at file n)
at_either file true m n = refl
at_either file false m n = refl

module _ {kind : Kind} {file : List ℕ} {place : ℕ} {st : State} (ready : Ready kind file place st) where
  abbrev r : List ℕ
  r = record_at file place

  long : length r ≡ 94
  unfolding record_at
  long = length-take-le 94 (drop (place * 94) file) (rw length-drop (omega (arith, ready.inside)))

  advances : {next : State} → next.before ≡ before_next kind r → next.header ≡ header_place kind st.header place
      → next.individual ≡ individual_place kind st.individual place → (is_individual kind ≡ true → st.counter < number_in r)
      → next.counter ≡ counter_next kind st.counter r → next.highest ≡ higher kind st.highest st.counter → Knows kind file place st next.fresh
      → next.batches ≡ cond (opens_batch kind) (st.batches + 1) st.batches → next.batch ≡ batch_next kind st.batch r
      → next.closed ≡ closed_next kind st.closed st.batch → Advances kind file place st next
  unfolding meant last_individual counted
  advances {next} before header individual rises counter highest fresh batches batch closed = record {
    goes = rw (one_more file place, ready.told, before, header, individual, counter, batches, batch, closed, at_either file (opens_batch kind) place st.header, at_either file (is_individual kind) place st.individual, add-one st.batches) refl;
    kept = record {
      room = record {
        batches = rw batches (room_batches (opens_batch kind) st.batches place ready.room.batches);
        batch = rw batch (below_more _ (omega arith) (room_batch (opens_batch kind) (is_individual kind) (is_additional kind) _ st.batch r long ready.room.batch));
        closed = rw closed (room_closed (closes_batch kind) place st.closed st.batch ready.room.closed ready.room.batch (omega (arith, ready.short, ready.inside)));
      };
      preceded = subst (λ (b : Before). Preceded b (place + 1) next) (sym before) (preceding kind r place st next ready.stands header individual);
      known = known_next ready rises counter highest fresh;
    };
    held = record { header = header; individual = individual; highest = highest; fresh = fresh };
  }

  -- after an individual record, by what it tells
  pub after_advances : {entry : Entry} {flagged : Bool} (fresh : ℕ) → EntryTold kind st.counter r entry flagged → Knows kind file place st fresh
      → Advances kind file place st (after_by kind place st entry flagged fresh)
  unfolding after_by
  after_advances fresh told knows = advances (before_told kind r _ told.flag) refl refl told.rises (counter_told told) refl knows refl (batch_told told st.batch) refl

  -- after any other
  pub past_advances : is_individual kind ≡ false → Advances kind file place st (past_by kind place st)
  past_advances n = after_advances _ (nothing_told n) (rw n refl)
