-- Questions put to the definitions, each with the answer that is claimed.
use Rattle.std.specs.Prelude.{ℕ, zero, suc, ◌+◌, ◌≡◌, true, false, not, cond, List, [], ◌∷◌, ◌++◌, map, replicate}
use Prim.Native.String.{String}
use Rattle.paper.specs.declared.rules.Rules.{Rules}
use Rattle.paper.specs.declared.rules.Currency.{Currency}
use Rattle.paper.specs.declared.ledger.Cell.{Cell}
use Rattle.paper.specs.Answers.{Said, accepted, refused}
use Rattle.paper.specs.Fields.{bytes, every, good}
use Rattle.paper.specs.Dates.{is_date}
use Rattle.paper.specs.Reading.{reading}
use Rattle.paper.specs.Sessions.{Session, opening, cell_of, presenting}
use Rattle.paper.specs.Listing.{positions_of}
use Rattle.paper.specs.Buffers.{Outcome, extracting, building, stripping}
use Rattle.paper.specs.Receiving.{Showing, receiving, showing, text_in}

-- the good ones of n bytes from b on
unfoldable pub good_from : ℕ → ℕ → List ℕ
good_from zero b = []
good_from (suc n) b = let rest = good_from n (b + 1) in cond (good b) (b ∷ rest) rest

-- each line ends in one line feed
abbrev pub text_lines : List String → List ℕ
text_lines [] = []
text_lines (l ∷ ls) = bytes l ++ 10 ∷ text_lines ls

pub data Claim : Type 0 where
  characters : String → Claim
  dates : List ℕ → Claim
  no_dates : List ℕ → Claim
  reads : Rules → List ℕ → Said → Claim
  opens : ℕ → Currency → List ℕ → Said → Claim
  answers : Session → List ℕ → Said → Claim
  presents : Session → List ℕ → Said → Session → Claim
  holds : Session → List ℕ → List Cell → Claim
  prints : List ℕ → List String → Claim
  extracts : Rules → ℕ → List ℕ → List ℕ → Outcome → Claim
  builds : Rules → List ℕ → List ℕ → List ℕ → Outcome → Claim
  strips : Rules → List ℕ → List ℕ → Outcome → Claim
  receives : Rules → ℕ → List ℕ → Said → Claim
  shows : Rules → ℕ → List ℕ → List ℕ → ℕ → Showing → Claim
  tells : Rules → ℕ → List ℕ → List ℕ → ℕ → String → Claim

abbrev pub IsTrue : Claim → Type 0
IsTrue (characters text) = good_from 256 0 ≡ bytes text
IsTrue (dates ns) = every is_date ns ≡ true
IsTrue (no_dates ns) = every (λ n. not (is_date n)) ns ≡ true
IsTrue (reads rules file answer) = reading rules file ≡ answer
IsTrue (opens date currency entities answer) = (opening date currency entities).answer ≡ answer
IsTrue (answers s file answer) = (presenting s file).answer ≡ answer
IsTrue (presents s file answer after) = presenting s file ≡ record { answer = answer; session = after }
IsTrue (holds s entities cells) = map (cell_of s) entities ≡ cells
IsTrue (prints file text) = positions_of file ≡ text_lines text
IsTrue (extracts rules e file buffer outcome) = extracting rules e file buffer ≡ outcome
IsTrue (builds rules header tray buffer outcome) = building rules header tray buffer ≡ outcome
IsTrue (strips rules file buffer outcome) = stripping rules file buffer ≡ outcome
IsTrue (receives rules e file answer) = receiving rules e file ≡ answer
IsTrue (shows rules e file motives place shown) = showing rules e file motives place ≡ shown
IsTrue (tells rules e file motives place text) = text_in (showing rules e file motives place).text file motives ≡ bytes text

-- a row of a table: the number of its case, and what is claimed
pub data Row : Type 0 where
  case : ℕ → Claim → Row

-- every row of a table holds
infixr 10 ◌and◌
pub data All : List Row → Type 0 where
  done : All []
  ◌and◌ : {n : ℕ} {claim : Claim} {rows : List Row} → IsTrue claim → All rows → All (case n claim ∷ rows)

-- the rules of a date and a currency, with all entities on the roster
abbrev pub dated : ℕ → Currency → Rules
dated date currency = record { date = date; currency = currency; roster = false ∷ replicate 499 true }

-- so many bytes were written, and the buffer then; or a refusal, and the buffer then
abbrev pub wrote : ℕ → List ℕ → Outcome
wrote n buffer = record { answer = accepted; size = n; buffer = buffer }

abbrev pub gave : ℕ → ℕ → List ℕ → Outcome
gave n place buffer = record { answer = refused n place; size = 0; buffer = buffer }
