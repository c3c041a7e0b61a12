-- The company's file: details of 250 bytes and a closing record; and the tray that is made of it.
use Rattle.std.specs.Prelude.{ℕ, ◌+◌, ◌-◌, ◌*◌, ◌/◌, ◌%◌, Bool, ◌&&◌, List, [], ◌∷◌, ◌++◌, map, leb, eqb, length, take, drop}
use Rattle.paper.specs.declared.rules.Currency.{Currency}
use Rattle.paper.specs.Answers.{Said, accepted, and_then, require}
use Rattle.paper.specs.Fields.{bytes, field, is, number, spells}
use Rattle.paper.specs.Reading.{parts, at}
use Rattle.paper.specs.Writing.{joined}
use Rattle.paper.specs.Trays.{tray_record_good}
use Rattle.paper.specs.Buffers.{Outcome, room_for, written}
use Rattle.company.specs.Details.{cents_in, detail, order_of}

-- ---- records

-- 201: under 250 bytes, or no multiple of 250
unfoldable pub whole_details : ℕ → Bool
whole_details n = leb 250 n && eqb (n % 250) 0

-- all records but the last
unfoldable pub details_of : List ℕ → List (List ℕ)
details_of file = parts 250 (length file / 250 - 1) file

-- the last
unfoldable pub closing_of : List ℕ → List ℕ
closing_of file = take 250 (drop ((length file / 250 - 1) * 250) file)

-- 207: an LO body is 94 bytes, and one that building takes
unfoldable pub lo_good : List ℕ → Bool
lo_good lo = eqb (length lo) 94 && tray_record_good (bytes "LO" ++ lo)

-- ---- what is judged

-- each detail in turn: the first fault, at its place
unfoldable pub details_fault : Currency → List ℕ → ℕ → List (List ℕ) → Said
details_fault currency lo place [] = accepted
details_fault currency lo place (r ∷ rs) = let rest = details_fault currency lo (place + 1) rs in and_then (at place (detail currency lo r)) rest

-- the exact sum of their amounts
unfoldable pub amounts_in : List (List ℕ) → ℕ
amounts_in [] = 0
amounts_in (r ∷ rs) = number (cents_in r) + amounts_in rs

-- the closing record after so many details with this sum: 2 and 3 are their number, 4 is zeros, 7 the sum. A number that needs more digits than its field
-- has is in none
unfoldable pub closing_good : ℕ → ℕ → List ℕ → Bool
closing_good n sum r =
    is (field r 1 1) "T" && spells (field r 2 11) n && spells (field r 12 18) n && is (field r 19 25) "0000000" && spells (field r 104 113) sum

-- 17 at the place of the closing record
unfoldable pub closing_fault : List ℕ → Said
closing_fault file =
    let ds = details_of file in
    require (closing_good (length ds) (amounts_in ds) (closing_of file)) 17 (length ds)

-- 201, 207, each detail's, and 17 at the last
unfoldable pub company_answer : Currency → List ℕ → List ℕ → Said
company_answer currency lo file =
    and_then (require (whole_details (length file)) 201 0)
    (and_then (require (lo_good lo) 207 0)
    (and_then (details_fault currency lo 0 (details_of file))
    (closing_fault file)))

-- ---- what is written

-- IN and an order for each detail
abbrev pub orders_of : Currency → List ℕ → List (List ℕ) → List ℕ
orders_of currency lo ds = joined (map (λ r. bytes "IN" ++ order_of currency lo r) ds)

-- LO and its body, then the orders
unfoldable pub tray_of : Currency → List ℕ → List (List ℕ) → List ℕ
tray_of currency lo ds = bytes "LO" ++ lo ++ orders_of currency lo ds

abbrev pub company_tray : Currency → List ℕ → List ℕ → List ℕ
company_tray currency lo file = tray_of currency lo (details_of file)

-- the job: then 206
unfoldable pub company : Currency → List ℕ → List ℕ → List ℕ → Outcome
company currency lo file buffer =
    let new = company_tray currency lo file in
    written (and_then (company_answer currency lo file) (room_for new buffer)) new buffer
