-- The desk's session and reply, in the paper's words.
use Rattle.std.specs.Prelude.{ℕ, Bool, true, false, ◌&&◌, List, leb, length, replicate}
use Rattle.paper.specs.declared.rules.Currency.{Currency}
use Rattle.paper.specs.declared.rules.Rules.{Rules}
use Rattle.paper.specs.Answers.{said}
use Rattle.paper.specs.Fields.{field, identifier_field}
use Rattle.paper.specs.Sessions as paper
use Rattle.paper.specs.Sessions.{key_of, listed, zero_cell}
use Rattle.desk.specs.declared.Session.{Session}
use Rattle.desk.specs.declared.Reply.{Reply}

-- its date, currency and roster
abbrev pub rules_of : Session → Rules
rules_of s = s.rules

abbrev pub standing : Session → paper.Session
standing s = record { rules = s.rules; cells = s.cells; used = s.used }

-- of this date, currency and list of entity numbers
abbrev pub rules_listed : ℕ → Currency → List ℕ → Rules
rules_listed date currency entities = record { date = date; currency = currency; roster = listed 500 0 entities }

-- a session of these rules that holds zeros
abbrev pub holding_zeros : Rules → paper.Session
holding_zeros rules = record { rules = rules; cells = replicate 500 zero_cell; used = replicate 18000 false }

abbrev pub heard : Reply → paper.Reply
heard r = record { answer = said r.answer; session = standing r.session }

-- whether a file has an origin and an identifier to make a key of
unfoldable pub keyed : List ℕ → Bool
keyed file = leb 94 (length file) && identifier_field (field file 34 34)

abbrev pub key_if : Bool → List ℕ → ℕ
key_if true file = key_of file
key_if false file = 0
