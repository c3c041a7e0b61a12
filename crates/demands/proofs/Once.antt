-- One outcome only: what a call says fixes the answer, and of a reply its session field by field. (`Extracts`, `Building` and `Stripping` have the same of theirs.)
use Prim.Native.Nat.{ℕ}
use mathlib.Core.List.{List}
use mathlib.Core.Path.{◌≡◌, sym, ap, ◌∙◌, ap₂}
use Rattle.paper.specs.declared.ledger.Cell.{Cell}
use Rattle.paper.specs.declared.rules.Currency.{Currency}
use Rattle.paper.specs.declared.rules.Rules.{Rules}
use Rattle.paper.specs.Answers.{Answer}
use Rattle.paper.specs.Reading.{reading}
use Rattle.paper.specs.Sessions as paper
use Rattle.paper.proofs.Numbers.{said_once}
use Rattle.desk.specs.declared.Session.{Session}
use Rattle.desk.specs.declared.Reply.{Reply}
use Rattle.desk.specs.declared.rules.Opened.{Opened}
use Rattle.desk.specs.Standing.{rules_of, standing, heard}
use Rattle.desk.specs.Calls.{Opens, RulesOpened, OpensRules, ReadsBy, Reads, Presents, Holds}

pub session_once : (a b : Session) → standing a ≡ standing b → a ≡ b
session_once a b h = λ i. record {
  rules = (h i).rules;
  cells = (h i).cells;
  used = (h i).used;
}

pub reply_once : (a b : Reply) → heard a ≡ heard b → a ≡ b
reply_once a b h =
    ap₂ (λ (answer : Answer) (session : Session). record { answer = answer; session = session })
    (said_once a.answer b.answer (ap (λ (r : paper.Reply). r.answer) h))
    (session_once a.session b.session (ap (λ (r : paper.Reply). r.session) h))

pub open_once : (date : ℕ) (currency : Currency) (entities : List ℕ) (r q : Reply) → Opens date currency entities r → Opens date currency entities q → r ≡ q
open_once date currency entities r q h k = reply_once r q (h ∙ sym k)

pub rules_once : (date : ℕ) (currency : Currency) (entities : List ℕ) (r q : Opened) → OpensRules date currency entities r → OpensRules date currency entities q → r ≡ q
rules_once date currency entities r q h k =
    let e = h ∙ sym k in
    ap₂ (λ (answer : Answer) (rules : Rules). record { answer = answer; rules = rules })
    (said_once r.answer q.answer (ap (λ (o : RulesOpened). o.answer) e))
    (ap (λ (o : RulesOpened). o.rules) e)

pub read_by_once : (rules : Rules) (file : List ℕ) (a b : Answer) → ReadsBy rules file a → ReadsBy rules file b → a ≡ b
read_by_once rules file a b h k = said_once a b (h ∙ sym k)

-- what opening and reading say apart, a session opened and asked says too
pub read_as_opened : (date : ℕ) (currency : Currency) (entities file : List ℕ) (o : Opened) (r : Reply) (a b : Answer)
    → OpensRules date currency entities o → Opens date currency entities r → ReadsBy o.rules file a → Reads r.session file b → (o.answer ≡ r.answer) × (a ≡ b)
read_as_opened date currency entities file o r a b h k m n =
    let rules : o.rules ≡ rules_of r.session = ap (λ (x : RulesOpened). x.rules) h ∙ sym (ap (λ (x : paper.Reply). x.session.rules) k) in (
      said_once o.answer r.answer (ap (λ (x : RulesOpened). x.answer) h ∙ sym (ap (λ (x : paper.Reply). x.answer) k)),
      said_once a b (m ∙ (ap (λ (x : Rules). reading x file) rules ∙ sym n)),
    )

module _ (s : Session) where
  pub read_once : (file : List ℕ) (a b : Answer) → Reads s file a → Reads s file b → a ≡ b
  read_once file a b h k = said_once a b (h ∙ sym k)

  pub present_once : (file : List ℕ) (r q : Reply) → Presents s file r → Presents s file q → r ≡ q
  present_once file r q h k = reply_once r q (h ∙ sym k)

  pub cell_once : (e : ℕ) (c d : Cell) → Holds s e c → Holds s e d → c ≡ d
  cell_once e c d h k = h ∙ sym k
