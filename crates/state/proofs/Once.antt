-- What a step says, and what it holds besides, fix the step.
use Prim.Native.Nat.{ℕ, ◌+◌}
use mathlib.Core.Bool.{Bool, true, false}
use mathlib.Core.List.{List}
use mathlib.Core.Path.{◌≡◌, refl, sym, ap, ap₂, ◌∙◌}
use native.Mathlib.Omega.{arith}
use lib.Dec.{ltb}
use Rattle.paper.specs.declared.record.Kind.{Kind}
use Rattle.paper.specs.Answers.{number_of}
use Rattle.paper.specs.Kinds.{is_individual}
use Rattle.paper.specs.Records.{number_in}
use Rattle.paper.specs.Reading as paper
use Rattle.paper.specs.Reading.{record_at}
use Rattle.paper.proofs.Numbers.{own_number}
use Rattle.state.specs.declared.State.{State}
use Rattle.std.proofs.Common.{Result, Ok, Err}
use Rattle.paper.specs.declared.answer.Fault.{Fault}
use Rattle.state.specs.States.{AfterRecord, goes, stops, meant, Step, step_says, KnowsIf, Held}
use Rattle.repeats.proofs.Further.{looked_once}

-- the state that an outcome goes on with
abbrev state_in : paper.State → AfterRecord → paper.State
state_in s (goes t) = t
state_in s (stops n) = s

-- the code's state, from the paper's and what that says nothing of
abbrev holding : paper.State → ℕ → ℕ → ℕ → ℕ → State
holding s header individual highest fresh = record {
  before = s.before;
  header = header;
  individual = individual;
  counter = s.counter;
  highest = highest;
  fresh = fresh;
  batches = s.counts.batches;
  batch = s.counts.batch;
  closed = s.counts.closed;
}

abbrev gone : State → Step
gone s = Ok s

knows_once : (i : Bool) (file : List ℕ) (place : ℕ) (st : State) (a b : ℕ) → KnowsIf i file place st a → KnowsIf i file place st b → a ≡ b
knows_once true file place st a b x y = go (ltb st.highest (number_in (record_at file place))) refl
  where
    go : (t : Bool) → ltb st.highest (number_in (record_at file place)) ≡ t → a ≡ b
    go true e = x.above e ∙ sym (y.above e)
    go false e = looked_once file place st.fresh a b (x.looked e) (y.looked e)
knows_once false file place st a b x y = x ∙ sym y

pub step_once : (file : List ℕ) (kind : Kind) (place : ℕ) (st : State) (a b : Step) → step_says file (place + 1) a ≡ step_says file (place + 1) b
    → Held kind file place st a → Held kind file place st b → a ≡ b
unfolding step_says Held meant
step_once file kind place st (Ok x) (Ok y) h p q =
    let s : meant file (place + 1) x ≡ meant file (place + 1) y = ap (state_in (meant file place st)) h in
    let t : paper.State = meant file (place + 1) y in
    ap (λ (s : paper.State). gone (holding s x.header x.individual x.highest x.fresh)) s
    ∙ ap₂ (λ (header individual : ℕ). gone (holding t header individual x.highest x.fresh)) (p.header ∙ sym q.header) (p.individual ∙ sym q.individual)
    ∙ ap₂ (λ (highest fresh : ℕ). gone (holding t y.header y.individual highest fresh)) (p.highest ∙ sym q.highest) (knows_once (is_individual kind) file place st x.fresh y.fresh p.fresh q.fresh)
step_once file kind place st (Ok x) (Err g) h p q = let z : ◌≡◌ {A = ℕ} 0 1 = cc in absurd (omega arith)
step_once file kind place st (Err f) (Ok y) h p q = let z : ◌≡◌ {A = ℕ} 0 1 = cc in absurd (omega arith)
step_once file kind place st (Err f) (Err g) h p q = let e : number_of f ≡ number_of g = cc in ap Err (own_number f g e)
