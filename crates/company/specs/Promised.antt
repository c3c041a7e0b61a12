-- The words in which what is promised of the company's file and its tray is stated.
use Rattle.std.specs.Prelude.{ℕ, ◌+◌, ◌-◌, ◌*◌, ◌/◌, ◌%◌, ◌≤◌, ◌<◌, false, List, [], ◌∷◌, ◌++◌, ◌⊎◌, ◌≡◌, T, ltb, length, take, drop}
use Rattle.paper.specs.declared.rules.Currency.{Currency}
use Rattle.paper.specs.declared.record.Kind.TheVariants.{Individual}
use Rattle.paper.specs.declared.record.Code.TheVariants.{Order}
use Rattle.paper.specs.Checks.{wrong}
use Rattle.paper.specs.Fields.{bytes, field, within, digits, is, number, spells}
use Rattle.paper.specs.Kinds.{kind_of, code_of}
use Rattle.paper.specs.Entities.{entity_field, of_currency, entity}
use Rattle.paper.specs.Records.{amount_of, flagged_in}
use Rattle.company.specs.Details.{due_in, block1_in, payer_entity, block2_in, client_in, reference_in, cents_in, text_good, currency_good, due_good, detail}
use Rattle.company.specs.Files.{whole_details, details_of, lo_good, amounts_in, closing_good}

-- ---- a detail and its order

-- all that is asked of a detail
pub record DetailGood (currency : Currency) (lo r : List ℕ) : Type 0 where
  pub type : T (is (field r 1 1) "D")
  pub block1 : T (digits (block1_in r))
  pub block2 : T (digits (block2_in r))
  pub payer : T (within 1 499 (payer_entity r))
  pub reference : T (text_good (reference_in r))
  pub client : T (text_good (client_in r))
  pub money : T (currency_good currency r)
  pub cents : T (digits (cents_in r))
  pub some : T (ltb 0 (number (cents_in r)))
  pub due : T (due_good lo (due_in r))

-- what the order that is made of a detail holds, at the positions of an individual record
pub record OrderFor (currency : Currency) (lo r o : List ℕ) : Type 0 where
  pub long : length o ≡ 94
  pub type : kind_of o ≡ Individual
  pub code : code_of o ≡ Order
  pub destination : T (entity_field (field o 4 11))
  pub money : T (of_currency currency (field o 4 11))
  pub payer : entity (field o 4 11) ≡ payer_entity r
  pub branch : field o 8 11 ≡ field r 37 40
  pub reserved : field o 12 12 ≡ bytes "0"
  pub account : field o 13 29 ≡ bytes "000" ++ block2_in r
  pub account_digits : T (digits (field o 13 29))
  pub cents : field o 30 39 ≡ cents_in r
  pub amount : amount_of o ≡ number (cents_in r)
  pub some : 0 < amount_of o
  pub reference : field o 40 54 ≡ reference_in r
  pub client : field o 55 76 ≡ client_in r
  pub information : field o 77 78 ≡ bytes "00"
  pub flag : field o 79 79 ≡ bytes "0"
  pub alone : flagged_in o ≡ false
  pub sender : field o 80 87 ≡ field lo 80 87
  pub zeros : field o 88 94 ≡ bytes "0000000"

-- ---- the file

-- how many records stand before the last
abbrev pub detail_count : List ℕ → ℕ
detail_count file = length file / 250 - 1

-- the record at a place of the company's file
abbrev pub company_record_at : List ℕ → ℕ → List ℕ
company_record_at file k = take 250 (drop (k * 250) file)

-- all that is asked of the closing record, after so many details with this sum
pub record ClosingHolds (n sum : ℕ) (r : List ℕ) : Type 0 where
  pub type : T (is (field r 1 1) "T")
  pub records : T (spells (field r 2 11) n)
  pub debits : T (spells (field r 12 18) n)
  pub zeros : T (is (field r 19 25) "0000000")
  pub cents : T (spells (field r 104 113) sum)

-- all that is asked of an LO body and a file
pub record CompanyGood (currency : Currency) (lo file : List ℕ) : Type 0 where
  pub long : 250 ≤ length file
  pub whole : length file % 250 ≡ 0
  pub body : length lo ≡ 94
  pub opens : T (is (field lo 1 1) "5")
  pub tail : T (is (field lo 88 94) "0000000")
  pub details : (k : ℕ) → k < detail_count file → DetailGood currency lo (company_record_at file k)
  pub closing : ClosingHolds (detail_count file) (amounts_in (details_of file)) (company_record_at file (detail_count file))

-- ---- refusals

-- the first detail at fault stands at this place, and this is the number of the first rule that it breaks
pub record FirstAtFault (currency : Currency) (lo file : List ℕ) (n place : ℕ) : Type 0 where
  pub there : place < detail_count file
  pub before : (k : ℕ) → k < place → DetailGood currency lo (company_record_at file k)
  pub fault : detail currency lo (company_record_at file place) ≡ wrong n

-- the first fault of an LO body and a file, its number and place: the file's length, the LO body, the first detail at fault, the closing record
abbrev pub CompanyFaulty : Currency → List ℕ → List ℕ → ℕ → ℕ → Type 0
CompanyFaulty currency lo file n place =
    let sum = amounts_in (details_of file) in
    ((whole_details (length file) ≡ false) × (n ≡ 201) × (place ≡ 0))
    ⊎ (T (whole_details (length file)) × (lo_good lo ≡ false) × (n ≡ 207) × (place ≡ 0))
    ⊎ (T (whole_details (length file)) × T (lo_good lo) × FirstAtFault currency lo file n place)
    ⊎ (T (whole_details (length file)) × T (lo_good lo)
    × ((k : ℕ) → k < detail_count file → DetailGood currency lo (company_record_at file k))
    × (closing_good (detail_count file) sum (company_record_at file (detail_count file)) ≡ false)
    × (n ≡ 17) × (place ≡ detail_count file))

-- ---- the tray

-- the sum of the amounts of individual records
unfoldable pub amounts_of : List (List ℕ) → ℕ
amounts_of [] = 0
amounts_of (o ∷ os) = amount_of o + amounts_of os

-- ---- two files

-- two details that agree where an order is made of them
pub record SameOrdered (r q : List ℕ) : Type 0 where
  pub payer : field r 34 36 ≡ field q 34 36
  pub branch : field r 37 40 ≡ field q 37 40
  pub block2 : block2_in r ≡ block2_in q
  pub client : client_in r ≡ client_in q
  pub reference : reference_in r ≡ reference_in q
  pub cents : cents_in r ≡ cents_in q

-- and where a rule names them; block 1's check digit is a digit in both or in neither
pub record SameDetail (r q : List ℕ) : Type 0 where
  pub type : field r 1 1 ≡ field q 1 1
  pub due : due_in r ≡ due_in q
  pub check : digits (field r 41 41) ≡ digits (field q 41 41)
  pub money : field r 114 115 ≡ field q 114 115
  pub ordered : SameOrdered r q

pub record SameClosing (r q : List ℕ) : Type 0 where
  pub type : field r 1 1 ≡ field q 1 1
  pub records : field r 2 11 ≡ field q 2 11
  pub debits : field r 12 18 ≡ field q 12 18
  pub zeros : field r 19 25 ≡ field q 19 25
  pub cents : field r 104 113 ≡ field q 104 113

-- two files as long as each other that agree where a rule or the tray names them
pub record SameFile (file other : List ℕ) : Type 0 where
  pub long : length file ≡ length other
  pub details : (k : ℕ) → k < detail_count file → SameDetail (company_record_at file k) (company_record_at other k)
  pub closing : SameClosing (company_record_at file (detail_count file)) (company_record_at other (detail_count file))
