-- The words in which it is stated what becomes of a company's file: its tray, and the file that the desk builds of that.
use Rattle.std.specs.Prelude.{ℕ, suc, ◌+◌, ◌*◌, ◌≤◌, ◌<◌, List, [], ◌∷◌, ◌⊎◌, ◌≡◌, length}
use Rattle.paper.specs.declared.rules.Currency.{Currency}
use Rattle.paper.specs.Answers.{Output, Said, accepted, and_then}
use Rattle.paper.specs.Reading.{reading}
use Rattle.paper.specs.Writing.{numbered}
use Rattle.paper.specs.Trays.{build}
use Rattle.paper.specs.Buffers.{told, room_for}
use Rattle.company.specs.Details.{order_of}
use Rattle.company.specs.Files.{company_answer, company_tray, company}
use Rattle.company.specs.Promised.{detail_count, CompanyGood, CompanyFaulty}
use Rattle.desk.specs.declared.Session.{Session}
use Rattle.desk.specs.Standing.{rules_of}

-- what a call says of a currency, an LO body, a company's file and a lent buffer: the answer, and the buffer after it
abbrev pub MakesTray : Currency → List ℕ → List ℕ → List ℕ → Output → List ℕ → Type 0
MakesTray currency lo file before r after = told r after ≡ company currency lo file before

-- its answer: the file's, then 206
abbrev pub answer_to_company : Currency → List ℕ → List ℕ → List ℕ → Said
answer_to_company currency lo file before = and_then (company_answer currency lo file) (room_for (company_tray currency lo file) before)

-- bytes of the tray: the LO, and an order for each detail
abbrev pub tray_bytes : List ℕ → ℕ
tray_bytes file = 96 * (detail_count file + 1)

-- all that it asks for: an LO body and a file that are good, and room for the tray
pub record TrayMakeable (currency : Currency) (lo file before : List ℕ) : Type 0 where
  pub good : CompanyGood currency lo file
  pub room : tray_bytes file ≤ length before

-- the first fault, its number and place: that of LO body and file; else 206 at 0
abbrev pub TrayFaulty : Currency → List ℕ → List ℕ → List ℕ → ℕ → ℕ → Type 0
TrayFaulty currency lo file before n place =
    CompanyFaulty currency lo file n place ⊎ (CompanyGood currency lo file × (length before < tray_bytes file) × (n ≡ 206) × (place ≡ 0))

-- bytes of the file that the desk builds: those records, the file header, the batch's control and the file control
abbrev pub built_bytes : List ℕ → ℕ
built_bytes file = 94 * (detail_count file + 4)

-- the orders of details, numbered from n on
unfoldable pub numbered_orders : Currency → List ℕ → ℕ → List (List ℕ) → List (List ℕ)
numbered_orders currency lo n [] = []
numbered_orders currency lo n (r ∷ rs) = numbered n (order_of currency lo r) ∷ numbered_orders currency lo (suc n) rs

-- all that building still asks for of a company's tray: a file that is not too long, has room and is accepted by the reading
pub record TrayBuildable (s : Session) (header tray file before : List ℕ) : Type 0 where
  pub few : detail_count file ≤ 9996
  pub room : built_bytes file ≤ length before
  pub reads : reading (rules_of s) (build header tray) ≡ accepted
