-- The words in which receiving an extract, and showing the reasons in it, are stated.
use Rattle.std.specs.Prelude.{ℕ, ◌*◌, ◌<◌, true, false, ◌&&◌, List, ◌∷◌, ◌⊎◌, ◌≡◌, T, length, get_or, take, drop}
use Rattle.paper.specs.Answers.{Said, accepted, refused}
use Rattle.paper.specs.Fields.{field, within, among, digits, blank, number}
use Rattle.paper.specs.Records.{ReadingRules, at_desk}
use Rattle.paper.specs.Reading.{record_at}
use Rattle.paper.specs.Receiving.{motives_good, explains_at}
use Rattle.paper.specs.Demands.{untied, StandsIf, AcceptsBy, FaultyBy}
use Rattle.desk.specs.declared.Session.{Session}
use Rattle.desk.specs.Standing.{rules_of}
use Rattle.demands.specs.Faults.{Unless}

-- all that receiving asks for: an entity 1 to 499 and on the roster, and a file that is accepted at its desk
pub record Receivable (s : Session) (e : ℕ) (file : List ℕ) : Type 0 where
  pub entity : T (within 1 499 e)
  pub listed : T (get_or s.rules.roster e false)
  pub accepts : AcceptsBy (at_desk e (rules_of s)) file

-- the first fault of receiving, its number and place: 208, then the reading's at the desk
abbrev pub ReceiveFaulty : Session → ℕ → List ℕ → ℕ → ℕ → Type 0
ReceiveFaulty s e file = Unless (within 1 499 e && get_or s.rules.roster e false) 208 (FaultyBy (at_desk e (rules_of s)) file)

-- of showing, before a record is asked for: 208, 207 for a list of another length, then the reading's
abbrev pub AskFaulty : Session → ℕ → List ℕ → List ℕ → ℕ → ℕ → Type 0
AskFaulty s e file motives =
    Unless (within 1 499 e && get_or s.rules.roster e false) 208
    (Unless (motives_good motives) 207
    (FaultyBy (at_desk e (rules_of s)) file))

-- the reading's first fault; else 214 at 0, where the record asked for is no rejection's additional record
abbrev pub FaultyOrNoReason : ReadingRules → List ℕ → ℕ → ℕ → ℕ → Type 0
FaultyOrNoReason rules file wanted n place =
    FaultyBy rules file n place ⊎ (AcceptsBy rules file × (explains_at file wanted ≡ false) × (n ≡ 214) × (place ≡ 0))

-- of showing: 208, 207, the reading's, 214
abbrev pub ShowFaulty : Session → ℕ → List ℕ → List ℕ → ℕ → ℕ → ℕ → Type 0
ShowFaulty s e file motives wanted =
    Unless (within 1 499 e && get_or s.rules.roster e false) 208
    (Unless (motives_good motives) 207
    (FaultyOrNoReason (at_desk e (rules_of s)) file wanted))

-- where a refusal of showing stands: as of any file, and 207 and 214 at 0
abbrev pub ShowStandsAt : List ℕ → Said → Type 0
ShowStandsAt file accepted = Unit {0}
ShowStandsAt file (refused n place) = StandsIf (among (207 ∷ 214 ∷ untied) n) file n place

-- line n of a motive list, from 0 on
abbrev pub line_of : List ℕ → ℕ → List ℕ
line_of motives n = take 44 (drop (n * 44) motives)

-- the text of the reason in the record at a place: 44 bytes, positions 36-79 where they are not all blank, otherwise the line for the number in 5-6
pub record ReasonGiven (file motives : List ℕ) (place : ℕ) (text : List ℕ) : Type 0 where
  pub long : length text ≡ 44
  pub own : blank (field (record_at file place) 36 79) ≡ false → text ≡ field (record_at file place) 36 79
  pub numbered : T (digits (field (record_at file place) 5 6)) × (number (field (record_at file place) 5 6) < 100)
  pub listed : blank (field (record_at file place) 36 79) ≡ true → text ≡ line_of motives (number (field (record_at file place) 5 6))
