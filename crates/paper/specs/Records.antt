-- The fields of file header, batch header, individual and additional, in the order printed.
use Rattle.std.specs.Prelude.{ℕ, ◌+◌, Bool, true, false, not, ◌&&◌, ◌||◌, List, eqb, ltb}
use Rattle.paper.specs.declared.rules.Currency.{Currency}
use Rattle.paper.specs.declared.rules.Rules.{Rules}
use Rattle.paper.specs.declared.rules.Reader.{Reader}
use Rattle.paper.specs.declared.rules.Reader.TheVariants.{House, Desk}
use Rattle.paper.specs.Checks.{Check, need, ◌also◌}
use Rattle.paper.specs.Fields.{field, digits, blank, identifier_field, same, is, number, spells}
use Rattle.paper.specs.Dates.{date_field, time_field}
use Rattle.paper.specs.Entities.{entity_field, of_currency, entity, on_roster}
use Rattle.paper.specs.Kinds.{code_of, known, is_order, takes01, rejects}

-- the reading's rules: the session's date, currency and roster, and who reads
pub record ReadingRules : Type 0 where
  pub session : Rules
  pub reader : Reader

abbrev pub in_house : Rules → ReadingRules
in_house rules = record { session = rules; reader = House }

-- at a member's desk, what was handed out to its entity
abbrev pub at_desk : ℕ → Rules → ReadingRules
at_desk e rules = record { session = rules; reader = Desk e }

-- an entity of the session's currency, and on its roster
unfoldable pub member : Currency → List Bool → List ℕ → Check
member currency roster f = need (of_currency currency f) 203 also need (on_roster roster f) 204

-- an entity field: 17, its 203, its 204
unfoldable pub member_field : Currency → List Bool → List ℕ → Check
member_field currency roster f = need (entity_field f) 17 also member currency roster f

-- who presented the file: an entity field; at a desk free eight digits
unfoldable pub origin_good : Reader → List ℕ → Bool
origin_good House f = entity_field f
origin_good (Desk e) f = digits f

-- 4-13 hold the desk's own entity, of the session's currency, with branch 0000
unfoldable pub own_desk : Currency → ℕ → List ℕ → Bool
own_desk currency e r = of_currency currency (field r 5 12) && eqb (entity (field r 5 12)) e && is (field r 9 12) "0000"

-- the header's last test: the origin's 203 and 204; at a desk, in the place of 204, 17 for another desk's header
unfoldable pub headed : Reader → Rules → List ℕ → Check
headed House rules r = member rules.currency rules.roster (field r 15 22)
headed (Desk e) rules r = need (own_desk rules.currency e r) 17

-- 1, file header
unfoldable pub file_header : ReadingRules → List ℕ → Check
file_header rules r =
    need (is (field r 2 3) "01") 17
    also need (is (field r 4 4) " " && digits (field r 5 12) && is (field r 13 13) "0") 17
    also need (is (field r 14 14) " " && origin_good rules.reader (field r 15 22) && is (field r 23 23) "0") 17
    also need (date_field (field r 24 29) && spells (field r 24 29) rules.session.date) 75
    also need (time_field (field r 30 33)) 17
    also need (identifier_field (field r 34 34)) 17
    also need (is (field r 35 40) "094101") 17
    also headed rules.reader rules.session r

-- the batch's number: digits; at a desk, after so many batches before it, the next of 1, 2, ..
unfoldable pub number_good : Reader → ℕ → List ℕ → Bool
number_good House before f = digits f
number_good (Desk e) before f = spells f (before + 1)

-- 5, batch header, after so many batches before it; 80-87 is the sender
unfoldable pub batch_header : ReadingRules → ℕ → List ℕ → Check
batch_header rules before r =
    need (digits (field r 2 4)) 17
    also need (not (blank (field r 5 20))) 17
    also need (digits (field r 41 50)) 17
    also need (not (blank (field r 54 63))) 17
    also need (date_field (field r 70 75)) 75
    also need (digits (field r 79 79)) 17
    also member_field rules.session.currency rules.session.roster (field r 80 87)
    also need (number_good rules.reader before (field r 88 94)) 17

-- amount in cents
unfoldable pub amount_of : List ℕ → ℕ
amount_of r = number (field r 30 39)

-- the entity that it is addressed to, at any branch
abbrev pub destination_in : List ℕ → ℕ
destination_in r = entity (field r 4 11)

-- entity and branch as one number, as the controls add it up
abbrev pub destination_field : List ℕ → ℕ
destination_field r = number (field r 4 11)

-- the sender; of a batch header too
abbrev pub sender_in : List ℕ → ℕ
sender_in r = entity (field r 80 87)

-- of a file header: who presents it
abbrev pub origin_in : List ℕ → ℕ
origin_in r = entity (field r 15 22)

-- an additional record follows
abbrev pub flagged_in : List ℕ → Bool
flagged_in r = is (field r 79 79) "1"

-- the number of an individual record in its file
abbrev pub number_in : List ℕ → ℕ
number_in r = number (field r 88 94)

-- the account
unfoldable pub account_good : List ℕ → Bool
account_good r = digits (field r 13 29)

-- 77-78 is "00", or "01" with 37 or 36 only
unfoldable pub information_good : List ℕ → Bool
information_good r = is (field r 77 78) "00" || is (field r 77 78) "01" && takes01 (code_of r)

-- position 79 is 0 only for 37 with "00"
unfoldable pub flag_good : List ℕ → Bool
flag_good r = flagged_in r || is_order (code_of r) && is (field r 77 78) "00"

-- 80-87 equals the sender's field, that of the batch's header, and 88-94 exceeds that of the individual record before it in the batch
unfoldable pub counter_good : List ℕ → ℕ → List ℕ → Bool
counter_good header previous r = same (field r 80 87) (field header 80 87) && ltb previous (number_in r)

-- whom it is for: an entity on the roster, 204; at a desk, in its place, the desk's own entity, at any branch, 17
unfoldable pub addressed : Reader → List Bool → List ℕ → Check
addressed House roster f = need (on_roster roster f) 204
addressed (Desk e) roster f = need (eqb (entity f) e) 17

-- the destination: 17, its 203, and whom it is for
unfoldable pub destination : ReadingRules → List ℕ → Check
destination rules f =
    need (entity_field f) 17
    also need (of_currency rules.session.currency f) 203
    also addressed rules.reader rules.session.roster f

-- 6, individual, positions 2 to 54: the code, whereto, how much and for what
unfoldable pub transfer : ReadingRules → List ℕ → Check
transfer rules r =
    need (known (code_of r)) 17
    also destination rules (field r 4 11)
    also need (is (field r 12 12) "0") 77
    also need (account_good r) 78
    also need (digits (field r 30 39) && ltb 0 (amount_of r)) 19
    also need (not (blank (field r 40 54))) 79

-- the whole, in the batch under a header; `previous` is the number in 88-94 of the individual record before it there, 0 for the first
unfoldable pub individual : ReadingRules → List ℕ → ℕ → List ℕ → Check
individual rules header previous r =
    transfer rules r
    also need (not (blank (field r 55 76))) 17
    also need (information_good r) 87
    also need (is (field r 79 79) "0" || is (field r 79 79) "1") 17
    also need (flag_good r) 25
    also need (digits (field r 80 94)) 17
    also need (counter_good header previous r) 27

-- 7, additional, after an individual record: 99 after 36 or 31, 05 after the others
unfoldable pub additional99 : List ℕ → List ℕ → Check
additional99 after r =
    need (is (field r 2 3) "99") 25
    also need (is (field r 4 4) "R" && digits (field r 5 6)) 17
    also need (digits (field r 7 21)) 17
    also need (blank (field r 22 27)) 17
    also need (digits (field r 28 35)) 17
    also need (same (field r 80 94) (field after 80 94)) 25

unfoldable pub additional05 : List ℕ → List ℕ → Check
additional05 after r =
    need (is (field r 2 3) "05") 25
    also need (digits (field r 84 87)) 17
    also need (same (field r 88 94) (field after 88 94)) 25

unfoldable pub additional_by : Bool → List ℕ → List ℕ → Check
additional_by true after r = additional99 after r
additional_by false after r = additional05 after r

unfoldable pub additional : List ℕ → List ℕ → Check
additional after r = additional_by (rejects (code_of after)) after r
