-- What a call of the desk says, by the contract of the function called; and sessions, which come from opening and presenting only.
use Rattle.std.specs.Prelude.{ℕ, List, [], ◌≡◌, Result}
use Rattle.paper.specs.declared.answer.Refusal.{Refusal}
use Rattle.paper.specs.declared.ledger.Cell.{Cell}
use Rattle.paper.specs.declared.rules.Currency.{Currency}
use Rattle.paper.specs.declared.rules.Rules.{Rules}
use Rattle.paper.specs.Answers.{Answer, Output, Said, said}
use Rattle.paper.specs.Reading.{reading}
use Rattle.paper.specs.Buffers.{told, extracting, building, stripping}
use Rattle.paper.specs.Receiving.{receiving, showable, showing}
use Rattle.paper.specs.Sessions.{opening, presenting, cell_of}
use Rattle.paper.specs.Demands.{with_accepted}
use Rattle.reasons.specs.declared.Shown.{Shown}
use Rattle.reasons.specs.Shown.{showing_of}
use Rattle.desk.specs.declared.Session.{Session}
use Rattle.desk.specs.declared.Reply.{Reply}
use Rattle.desk.specs.declared.rules.Opened.{Opened}
use Rattle.desk.specs.Standing.{rules_of, standing, heard}

-- of a date, a currency and a list of entity numbers: the session handed back with its answer
abbrev pub Opens : ℕ → Currency → List ℕ → Reply → Type 0
Opens date currency entities r = heard r ≡ opening date currency entities

-- of these, and no session that is kept: the answer, and the rules of the session that opening returns
pub record RulesOpened : Type 0 where
  pub answer : Said
  pub rules : Rules

abbrev pub opened_to : Opened → RulesOpened
opened_to r = record { answer = said r.answer; rules = r.rules }

abbrev pub OpensRules : ℕ → Currency → List ℕ → Opened → Type 0
OpensRules date currency entities r =
    opened_to r ≡ record { answer = (opening date currency entities).answer; rules = (opening date currency entities).session.rules }

-- of rules and a file
abbrev pub ReadsBy : Rules → List ℕ → Answer → Type 0
ReadsBy rules file a = said a ≡ reading rules file

-- of a session and a file
abbrev pub Reads : Session → List ℕ → Answer → Type 0
Reads s file a = said a ≡ reading (rules_of s) file

abbrev pub Presents : Session → List ℕ → Reply → Type 0
Presents s file r = heard r ≡ presenting (standing s) file

-- of a session, an entity and an extract
abbrev pub Receives : Session → ℕ → List ℕ → Answer → Type 0
Receives s e file a = said a ≡ receiving (rules_of s) e file

-- of a session, an entity, an extract and a motive list: the answer before a record is asked for
abbrev pub Asks : Session → ℕ → List ℕ → List ℕ → Answer → Type 0
Asks s e file motives a = said a ≡ showable (rules_of s) e file motives

-- of these and the place of a record: the answer, and where the text stands
abbrev pub Shows : Session → ℕ → List ℕ → List ℕ → ℕ → Result Shown Refusal → Type 0
Shows s e file motives place r = showing_of r ≡ showing (rules_of s) e file motives place

-- of a session, an entity, a file and a lent buffer: the answer, and the buffer after it
abbrev pub Extracts : Session → ℕ → List ℕ → List ℕ → Output → List ℕ → Type 0
Extracts s e file before r after = told r after ≡ extracting (rules_of s) e file before

-- of a session, a header body, a tray and a lent buffer
abbrev pub Builds : Session → List ℕ → List ℕ → List ℕ → Output → List ℕ → Type 0
Builds s header tray before r after = told r after ≡ building (rules_of s) header tray before

-- of a session, a file and a lent buffer
abbrev pub Strips : Session → List ℕ → List ℕ → Output → List ℕ → Type 0
Strips s file before r after = told r after ≡ stripping (rules_of s) file before

-- of a session and an entity: its cell
abbrev pub Holds : Session → ℕ → Cell → Type 0
Holds s e c = c ≡ cell_of (standing s) e

-- of a session: all its cells
abbrev pub HoldsAll : Session → List Cell → Type 0
HoldsAll s cells = cells ≡ s.cells

-- a session that calls of the desk handed back, and the files accepted when presented, in order
pub data Came : Session → List (List ℕ) → Type 0 where
  by_opening : (date : ℕ) (currency : Currency) (entities : List ℕ) (r : Reply) → Opens date currency entities r → Came r.session []
  by_presenting : {s : Session} {files : List (List ℕ)} → Came s files → (file : List ℕ) (r : Reply) → Presents s file r
      → Came r.session (with_accepted (said r.answer) files file)

-- the one premise that a promise names
pub record Reachable (s : Session) : Type 0 where
  pub files : List (List ℕ)
  pub came : Came s files
