-- What opening and presenting reply, case by case; and that the session which is handed back came from them.
use Prim.Native.Nat.{ℕ}
use mathlib.Core.Bool.{true, false, not}
use mathlib.Core.List.{List, []}
use mathlib.Core.Path.{◌≡◌, refl, sym, ap, ap₂, ◌∙◌}
use lib.ListN.{get_or, set}
use Rattle.paper.specs.declared.ledger.Cell.{Cell}
use Rattle.paper.specs.declared.rules.Currency.{Currency}
use Rattle.paper.specs.declared.rules.Currency.TheVariants.{Pesos}
use Rattle.paper.specs.Answers.{Said, accepted, refused, said, refused_by, and_then, require}
use Rattle.paper.specs.Reading.{records_of, reading}
use Rattle.paper.specs.Postings.{own_postings}
use Rattle.paper.proofs.Places.{postings_own}
use Rattle.std.specs.Prelude.{Err}
use Rattle.paper.specs.declared.answer.Refusal.{Refusal}
use Rattle.paper.specs.Sessions as paper
use Rattle.paper.specs.Sessions.{new_session, opening_answer, opened_with, opening, key_of, answer_to, cells_after, session_after, presenting}
use Rattle.desk.specs.declared.Session.{Session}
use Rattle.desk.specs.declared.Reply.{Reply}
use Rattle.desk.specs.declared.rules.Opened.{Opened}
use Rattle.desk.specs.Standing.{rules_listed, standing, holding_zeros, heard}
use Rattle.desk.specs.Calls.{RulesOpened, OpensRules, by_opening, by_presenting, Reachable}

abbrev pub reply : Said → paper.Session → paper.Reply
reply answer session = record { answer = answer; session = session }

-- ---- opening

module _ (date : ℕ) (currency : Currency) (entities : List ℕ) where
  -- the rules of the session that opening returns, by its answer
  pub opened_accepted : (opened_with accepted date currency entities).rules ≡ rules_listed date currency entities
  unfolding opened_with new_session
  opened_accepted = refl

  pub opened_refused : (n place : ℕ) → (opened_with (refused n place) date currency entities).rules ≡ rules_listed 101 Pesos []
  unfolding opened_with new_session
  opened_refused n place = refl

  -- that session holds zeros
  zeros_there : (a : Said) → opened_with a date currency entities ≡ holding_zeros (opened_with a date currency entities).rules
  unfolding opened_with new_session
  zeros_there accepted = refl
  zeros_there (refused n place) = refl

  pub opened_whole : (r : Opened) {session : Session} → OpensRules date currency entities r → standing session ≡ holding_zeros r.rules
      → reply (said r.answer) (standing session) ≡ opening date currency entities
  unfolding opening
  opened_whole r h k =
      let whole = zeros_there (opening_answer date entities) in
      let rules = ap (λ (o : RulesOpened). o.rules) h in
      ap₂ reply (ap (λ (o : RulesOpened). o.answer) h) (k ∙ (ap holding_zeros rules ∙ sym whole))

  pub opened_so : (r : Reply) → heard r ≡ opening date currency entities → (heard r ≡ opening date currency entities) × Reachable r.session
  opened_so r h = (h, record { files = []; came = by_opening date currency entities r h })

-- what the check needs of an opening
pub ruleset opened = (opened_accepted, opened_refused)

-- ---- presenting

module _ (s : paper.Session) (file : List ℕ) where
  -- refused by the reading, or by 209
  pub by_reading : (x : Refusal) → refused_by x ≡ reading s.rules file → reply (refused_by x) s ≡ presenting s file
  unfolding presenting session_after answer_to and_then
  by_reading x h = rw (← h) refl

  module _ (reads : accepted ≡ reading s.rules file) {key : ℕ} (k : key ≡ key_of file) where
    pub by_identifier : (x : Refusal) → refused_by x ≡ require (not (get_or s.used key false)) 209 0 → reply (refused_by x) s ≡ presenting s file
    unfolding presenting session_after answer_to and_then
    by_identifier x h = rw (← reads, ← k, ← h) refl

    pub posts : {cells : List Cell} → accepted ≡ require (not (get_or s.used key false)) 209 0 → cells ≡ cells_after 0 (own_postings (records_of file)) s.cells
        → reply accepted (record { rules = s.rules; cells = cells; used = set s.used key true }) ≡ presenting s file
    unfolding presenting session_after answer_to and_then
    posts h c = rw (← reads, ← k, ← h, ← k, c, postings_own s.rules file (sym reads)) refl

pub presented_so : (s : Session) (file : List ℕ) → Reachable s → (r : Reply) → heard r ≡ presenting (standing s) file
    → (heard r ≡ presenting (standing s) file) × Reachable r.session
presented_so s file c r h = (h, record { files = _; came = by_presenting c.came file r h })
