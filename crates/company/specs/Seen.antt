-- A company's file looked at in pieces.
use Rattle.std.specs.Prelude.{ℕ, ◌+◌, ◌/◌, ◌%◌, ◌≤◌, ◌<◌, Bool, true, false, ◌&&◌, List, ◌≡◌, Option, Some, None, Ok, leb, eqb, ltb, length}
use Rattle.paper.specs.declared.rules.Currency.{Currency}
use Rattle.paper.specs.declared.answer.Refusal.{Refusal}
use Rattle.paper.specs.Answers.{Said, said, refused_by, accepted, refused, and_then, require}
use Rattle.paper.specs.Reading.{parts}
use Rattle.tray.specs.Seen.{most_seen}
use Rattle.company.specs.declared.pieces.Pieces.{Pieces}
use Rattle.company.specs.Files.{details_of, closing_of, lo_good, details_fault, amounts_in, closing_good, closing_fault}
use Rattle.company.specs.Sums.{kept, sum_in}

-- all whole records, that which may close the file among them
abbrev pub company_records : List ℕ → List (List ℕ)
company_records file = parts 250 (length file / 250) file

-- before any piece
abbrev pub company_begun : Currency → Pieces
company_begun currency = record { currency = currency; going = Ok 0; ending = Ok tt; records = 0; left = 0 }

-- ---- all of the file was looked at

-- under an LO body of 94 bytes this was found: each record judged as a detail; and the last taken for the closing record
pub record JudgedSo (currency : Currency) (lo : List ℕ) (p : Pieces) (file : List ℕ) : Type 0 where
  pub going : said p.going ≡ details_fault currency lo 0 (company_records file)
  pub sum : said p.going ≡ accepted → sum_in p.going ≡ kept (amounts_in (company_records file))
  pub ending : 250 ≤ length file → said p.ending ≡ and_then (details_fault currency lo 0 (details_of file)) (closing_fault file)

pub record CompanyWhole (currency : Currency) (lo : List ℕ) (p : Pieces) (file : List ℕ) : Type 0 where
  pub records : p.records ≡ length file / 250
  pub left : p.left ≡ length file % 250
  pub found : length lo ≡ 94 → JudgedSo currency lo p file

-- what is known of the file so far: all that; or that it has more records than are looked at
pub record CompanySeen (currency : Currency) (lo : List ℕ) (p : Pieces) (file : List ℕ) : Type 0 where
  pub money : p.currency ≡ currency
  pub whole : p.records ≤ most_seen → CompanyWhole currency lo p file
  pub endless : most_seen < p.records → most_seen < length file / 250

-- ---- one piece more

-- it was judged: its records go on from those before it
pub record CompanyMore (p : Pieces) (lo piece : List ℕ) (r : Pieces) : Type 0 where
  pub money : r.currency ≡ p.currency
  pub going : said r.going ≡ and_then (said p.going) (details_fault p.currency lo p.records (company_records piece))
  pub sum : said r.going ≡ accepted → sum_in r.going ≡ kept (sum_in p.going + amounts_in (company_records piece))
  pub ending : said r.ending
      ≡ and_then (and_then (said p.going) (details_fault p.currency lo p.records (details_of piece)))
      (require (closing_good (p.records + length (details_of piece)) (sum_in p.going + amounts_in (details_of piece)) (closing_of piece)) 17 (p.records + length (details_of piece)))
  pub records : r.records ≡ p.records + length piece / 250
  pub left : r.left ≡ length piece % 250

-- it was counted only
abbrev pub counted_on : Pieces → List ℕ → Pieces
counted_on p piece = record {
  currency = p.currency;
  going = p.going;
  ending = p.ending;
  records = p.records + length piece / 250;
  left = length piece % 250;
}

-- it has a record, and an LO body of 94 bytes
abbrev pub judgeable : List ℕ → List ℕ → Bool
judgeable lo piece = eqb (length lo) 94 && leb 250 (length piece)

-- of a file without end, nothing more
pub record CompanyOn (p : Pieces) (lo piece : List ℕ) (r : Pieces) : Type 0 where
  pub judged : p.records ≤ most_seen → judgeable lo piece ≡ true → CompanyMore p lo piece r
  pub counted : p.records ≤ most_seen → judgeable lo piece ≡ false → r ≡ counted_on p piece
  pub stays : most_seen < p.records → r ≡ p

-- ---- the answer

-- of a file that has an end: 201, 207, the first fault of its records, and last 206
abbrev pub long_company : Pieces → List ℕ → Said
long_company p lo =
    and_then (require (ltb 0 p.records && eqb p.left 0) 201 0)
    (and_then (require (lo_good lo) 207 0)
    (and_then (said p.ending) (refused 206 0)))

-- it is given of a file that has an end, and of no other
abbrev pub CompanyTells : Pieces → List ℕ → Option Refusal → Type 0
CompanyTells p lo (Some r) = (p.records ≤ most_seen) × (refused_by r ≡ long_company p lo)
CompanyTells p lo None = most_seen < p.records
