-- A job in the session opened, or not.
use Prim.Native.Nat.{ℕ}
use mathlib.Core.Bool.{Bool}
use mathlib.Core.List.{List}
use mathlib.Core.Path.{◌≡◌, refl, sym, ap, ◌∙◌}
use Rattle.std.specs.Prelude.{Result, Ok, Err}
use Rattle.paper.specs.declared.answer.Refusal.{Refusal}
use Rattle.paper.specs.declared.rules.Currency.{Currency}
use Rattle.paper.specs.declared.rules.Rules.{Rules}
use Rattle.paper.specs.Answers.{Output, Said, accepted, refused, number_of, said}
use Rattle.paper.specs.Buffers.{told}
use Rattle.paper.specs.Listing.{currency_if}
use Rattle.paper.specs.Sessions.{Session, opening}
use Rattle.desk.specs.declared.rules.Opened.{Opened}
use Rattle.desk.specs.Calls.{RulesOpened, OpensRules}
use Rattle.export.specs.declared.Spoken.{Spoken}
use Rattle.export.specs.Spoken.{Delivered, spoken_by, delivered_of, not_opened, after_opening, in_session, session_if, session_for}

-- a job's answer is spoken, and its buffer handed back
pub delivered_told : (o : Output) (buffer : List ℕ) → delivered_of (told o buffer) ≡ record { spoken = spoken_by o; lent = buffer }
unfolding delivered_of
delivered_told (Ok n) buffer = refl
delivered_told (Err r) buffer = refl

module _ {Lent : Type 0} (date : ℕ) (dollars : Bool) (entities : List ℕ) (lent : Lent) (job : Session → Delivered Lent) {now : Result Session Spoken}
    (opens : now ≡ session_for date dollars entities) where
  pub refused_there : {spoken : Spoken} → Err spoken ≡ now → in_session date dollars entities lent job ≡ record { spoken = spoken; lent = lent }
  unfolding in_session session_if after_opening
  refused_there {spoken} e = go (opening date (currency_if dollars) entities).answer (opening date (currency_if dollars) entities).session (e ∙ opens)
    where
      go : (a : Said) (s : Session) → Err spoken ≡ session_if a s → after_opening a lent (job s) ≡ record { spoken = spoken; lent = lent }
      go accepted s h = cc
      go (refused n place) s h = cc

  pub done_there : {session : Session} → Ok session ≡ now → in_session date dollars entities lent job ≡ job session
  unfolding in_session session_if after_opening
  done_there {session} e = go (opening date (currency_if dollars) entities).answer (opening date (currency_if dollars) entities).session (e ∙ opens)
    where
      go : (a : Said) (s : Session) → Ok session ≡ session_if a s → after_opening a lent (job s) ≡ job session
      go accepted s h = cc
      go (refused n place) s h = cc

-- what the check needs of a job
pub ruleset jobs = (delivered_told, refused_there, done_there)

-- the same of a job that goes by the rules of the session alone
module _ {Lent : Type 0} (date : ℕ) (dollars : Bool) (entities : List ℕ) (lent : Lent) (by : Rules → Delivered Lent) {currency : Currency} (opened : Opened)
    (asked : currency ≡ currency_if dollars) (opens : OpensRules date currency entities opened) where
  abbrev job : Session → Delivered Lent
  job session = by session.rules

  answer_there : (opening date (currency_if dollars) entities).answer ≡ said opened.answer
  answer_there = rw (← asked) (sym (ap (λ (o : RulesOpened). o.answer) opens))

  rules_there : (opening date (currency_if dollars) entities).session.rules ≡ opened.rules
  rules_there = rw (← asked) (sym (ap (λ (o : RulesOpened). o.rules) opens))

  pub rules_refused : {r : Refusal} {spoken : Spoken} → opened.answer ≡ Err r → spoken ≡ not_opened (number_of r.fault)
      → in_session date dollars entities lent job ≡ record { spoken = spoken; lent = lent }
  unfolding in_session after_opening
  rules_refused e s = rw (s, answer_there, e)

  pub done_by_rules : opened.answer ≡ Ok tt → in_session date dollars entities lent job ≡ by opened.rules
  unfolding in_session after_opening
  done_by_rules e = rw (answer_there, e, rules_there)
