-- A session, opening and presenting.
use Rattle.std.specs.Prelude.{ℕ, zero, suc, ◌+◌, ◌-◌, ◌*◌, Bool, true, false, not, cond, List, [], ◌∷◌, leb, get_or, set, replicate, pos, ◌+ℤ◌}
use Rattle.paper.specs.declared.rules.Rules.{Rules}
use Rattle.paper.specs.declared.rules.Currency.{Currency}
use Rattle.paper.specs.declared.rules.Currency.TheVariants.{Pesos}
use Rattle.paper.specs.declared.ledger.Cell.{Cell}
use Rattle.paper.specs.Answers.{Said, accepted, refused, and_then, require}
use Rattle.paper.specs.Fields.{within, among, every}
use Rattle.paper.specs.Dates.{is_date}
use Rattle.paper.specs.Records.{origin_in}
use Rattle.paper.specs.Reading.{reading}
use Rattle.paper.specs.Postings.{Posting, postings, position, sent, received}

pub record Session : Type 0 where
  -- its date, currency and roster
  pub rules : Rules
  -- a cell for each entity number
  pub cells : List Cell
  -- whether an identifier was accepted from an origin, at index 36 * origin + identifier
  pub used : List Bool

-- the session that a job hands back, with its answer
pub record Reply : Type 0 where
  pub answer : Said
  pub session : Session

-- ---- opening

abbrev pub zero_cell : Cell
zero_cell = record { position = pos 0; sent = 0; received = 0 }

-- entities e, e + 1, .., n of them: is each in the list?
unfoldable pub listed : ℕ → ℕ → List ℕ → List Bool
listed zero e entities = []
listed (suc n) e entities = among entities e ∷ listed n (e + 1) entities

-- a new session holds zeros
unfoldable pub new_session : ℕ → Currency → List ℕ → Session
new_session date currency entities = record {
  rules = record { date = date; currency = currency; roster = listed 500 0 entities };
  cells = replicate 500 zero_cell;
  used = replicate 18000 false;
}

-- a bad date is 75; then a number not 1 to 499 is 208
unfoldable pub opening_answer : ℕ → List ℕ → Said
opening_answer date entities = and_then (require (is_date date) 75 0) (require (every (within 1 499) entities) 208 0)

-- a refused opening returns a session of 000101, pesos, empty roster
unfoldable pub opened_with : Said → ℕ → Currency → List ℕ → Session
opened_with accepted date currency entities = new_session date currency entities
opened_with (refused n place) date currency entities = new_session 101 Pesos []

unfoldable pub opening : ℕ → Currency → List ℕ → Reply
opening date currency entities = record { answer = opening_answer date entities; session = opened_with (opening_answer date entities) date currency entities }

-- what a session holds for an entity; a number that is none holds nothing
unfoldable pub cell_of : Session → ℕ → Cell
cell_of s e = cond (within 1 499 e) (get_or s.cells e zero_cell) zero_cell

-- ---- presenting

-- the origin's entity number without branch, and the identifier: 0 to 9, then A to Z, as 0 to 35
unfoldable pub origin_of : List ℕ → ℕ
origin_of file = origin_in file

unfoldable pub identifier_if : Bool → ℕ → ℕ
identifier_if true b = b - 48
identifier_if false b = b - 55

unfoldable pub identifier_of : List ℕ → ℕ
identifier_of file = identifier_if (leb (get_or file 33 0) 57) (get_or file 33 0)

unfoldable pub key_of : List ℕ → ℕ
key_of file = origin_of file * 36 + identifier_of file

-- the reading's refusals, then 209
unfoldable pub answer_to : Session → List ℕ → Said
answer_to s file = and_then (reading s.rules file) (require (not (get_or s.used (key_of file) false)) 209 0)

-- an entity's cell after postings
unfoldable pub cell_after : ℕ → List Posting → Cell → Cell
cell_after e ps c = record { position = c.position +ℤ position e ps; sent = c.sent + sent e ps; received = c.received + received e ps }

-- the cells of entities e, e + 1, ..
unfoldable pub cells_after : ℕ → List Posting → List Cell → List Cell
cells_after e ps [] = []
cells_after e ps (c ∷ cs) = cell_after e ps c ∷ cells_after (e + 1) ps cs

-- a refusal leaves the session unchanged and uses up no identifier
unfoldable pub session_after : Said → Session → List ℕ → Session
session_after (refused n place) s file = s
session_after accepted s file = record { rules = s.rules; cells = cells_after 0 (postings file) s.cells; used = set s.used (key_of file) true }

unfoldable pub presenting : Session → List ℕ → Reply
presenting s file = record { answer = answer_to s file; session = session_after (answer_to s file) s file }
