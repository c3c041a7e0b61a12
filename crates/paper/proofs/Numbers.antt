-- Every fault has a number of its own, so that what an answer says is the answer.
use Prim.Native.Nat.{ℕ}
use mathlib.Core.Logic.{◌↔◌}
use mathlib.Core.Path.{◌≡◌, refl, sym, ap, ◌∙◌, subst}
use mathlib.Core.Bool.{cond}
use mathlib.Core.List.{List}
use lib.Dec.{eqb, T}
use Rattle.paper.specs.declared.answer.Fault.{Fault}
use Rattle.paper.specs.declared.answer.Fault.TheVariants.{Length, Format, Amount, Additional, Counter, Date, Reserved, Account, Reference, Information, Currency, Roster, Room, Tray, Entity, Identifier, Reason}
use Rattle.std.specs.Prelude.{Ok, Err}
use Rattle.paper.specs.Answers.{Answer, Output, Said, accepted, refused, refusal, number_of, table_numbers, said}
use Rattle.paper.specs.Fields.{among}
use Rattle.paper.specs.Buffers.{Outcome, told}
use Rattle.paper.specs.Demands.{Answered}
use Rattle.paper.proofs.Refusals.{refused_not}

-- the fault of a number
named : ℕ → Fault
named n =
    cond (eqb n 201) Length (cond (eqb n 17) Format (cond (eqb n 19) Amount (cond (eqb n 25) Additional
    (cond (eqb n 27) Counter (cond (eqb n 75) Date (cond (eqb n 77) Reserved (cond (eqb n 78) Account
    (cond (eqb n 79) Reference (cond (eqb n 87) Information (cond (eqb n 203) Currency (cond (eqb n 204) Roster
    (cond (eqb n 206) Room (cond (eqb n 207) Tray (cond (eqb n 208) Entity (cond (eqb n 209) Identifier Reason)))))))))))))))

named_number : (f : Fault) → named (number_of f) ≡ f
unfolding named
named_number Length = refl
named_number Format = refl
named_number Amount = refl
named_number Additional = refl
named_number Counter = refl
named_number Date = refl
named_number Reserved = refl
named_number Account = refl
named_number Reference = refl
named_number Information = refl
named_number Currency = refl
named_number Roster = refl
named_number Room = refl
named_number Tray = refl
named_number Entity = refl
named_number Identifier = refl
named_number Reason = refl

pub own_number : (f g : Fault) → number_of f ≡ number_of g → f ≡ g
own_number f g h = sym (named_number f) ∙ ap named h ∙ named_number g

-- it is one of the table's
in_table : (f : Fault) → T (among table_numbers (number_of f))
unfolding among
in_table Length = tt
in_table Format = tt
in_table Amount = tt
in_table Additional = tt
in_table Counter = tt
in_table Date = tt
in_table Reserved = tt
in_table Account = tt
in_table Reference = tt
in_table Information = tt
in_table Currency = tt
in_table Roster = tt
in_table Room = tt
in_table Tray = tt
in_table Entity = tt
in_table Identifier = tt
in_table Reason = tt

-- so every answer whose place is known ends as it must
module _ (stands : Said → Type 0) where
  pub answered : (a : Answer) {x : Said} → said a ≡ x → stands x → Answered stands (said a)
  answered a h t = go a (subst stands (sym h) t)
    where
      go : (b : Answer) → stands (said b) → Answered stands (said b)
      go (Ok done) t = tt
      go (Err r) t = (in_table r.fault, t)

  pub told_answered : (o : Output) (after : List ℕ) {x : Said} → (told o after).answer ≡ x → stands x → Answered stands (told o after).answer
  told_answered o after h t = go o (subst stands (sym h) t)
    where
      go : (b : Output) → stands (told b after).answer → Answered stands (told b after).answer
      go (Ok n) t = tt
      go (Err r) t = (in_table r.fault, t)

-- the answer that says it
answering : Said → Answer
answering accepted = Ok tt
answering (refused n place) = refusal (named n) place

answering_said : (a : Answer) → answering (said a) ≡ a
unfolding answering
answering_said (Ok done) = refl
answering_said (Err r) = ap (λ (g : Fault). refusal g r.place) (named_number r.fault)

-- two answers that say the same are the same
pub said_once : (a b : Answer) → said a ≡ said b → a ≡ b
said_once a b h = sym (answering_said a) ∙ ap answering h ∙ answering_said b

-- the output that is told so
telling : Said → ℕ → Output
telling accepted n = Ok n
telling (refused m place) n = refusal (named m) place

telling_told : (a : Output) (x : List ℕ) → telling (told a x).answer (told a x).size ≡ a
unfolding telling
telling_told (Ok n) x = refl
telling_told (Err r) x = ap (λ (g : Fault). refusal g r.place) (named_number r.fault)

told_buffer : (a : Output) (x : List ℕ) → (told a x).buffer ≡ x
told_buffer (Ok n) x = refl
told_buffer (Err r) x = refl

-- two outputs that are told the same are the same, with the same buffer
pub told_once : (a b : Output) (x y : List ℕ) → told a x ≡ told b y → (a ≡ b) × (x ≡ y)
told_once a b x y h = (
  sym (telling_told a x) ∙ ap (λ (o : Outcome). telling o.answer o.size) h ∙ telling_told b y,
  sym (told_buffer a x) ∙ ap (λ (o : Outcome). o.buffer) h ∙ told_buffer b y,
)

-- a job that writes refuses with this fault exactly where that is what it says
pub told_refused : (o : Output) (after : List ℕ) (fault : Fault) (place : ℕ) → (o ≡ refusal fault place) ↔ ((told o after).answer ≡ refused (number_of fault) place)
told_refused o after fault place = ((λ h. ap (λ (x : Output). (told x after).answer) h), go o)
  where
    go : (x : Output) → (told x after).answer ≡ refused (number_of fault) place → x ≡ refusal fault place
    go (Ok n) h = absurd (refused_not (sym h))
    go (Err r) h = let n : number_of r.fault ≡ number_of fault = cc in let q : r.place ≡ place = cc in rw (own_number r.fault fault n, q) refl
