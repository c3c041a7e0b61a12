-- A detail of the company's file, by the positions of source 004, and the order that it becomes. Positions that are not named here are not judged.
use Rattle.std.specs.Prelude.{ℕ, ◌+◌, Bool, not, ◌&&◌, List, ◌++◌, ltb}
use Rattle.paper.specs.declared.rules.Currency.{Currency}
use Rattle.paper.specs.declared.rules.Currency.TheVariants.{Pesos, Dollars}
use Rattle.paper.specs.Fields.{bytes, field, within, every, good, digits, blank, same, is, number}
use Rattle.paper.specs.Dates.{date_field}
use Rattle.paper.specs.Entities.{currency_adds}
use Rattle.paper.specs.Checks.{Check, need, ◌also◌}
use Rattle.paper.specs.Writing.{spelled}

-- ---- fields

-- 5, first due date, ddmmaaaa
abbrev pub due_in : List ℕ → List ℕ
due_in r = field r 26 33

-- 6, block 1 of the account: three digits for the entity, four for its branch, and a check digit
abbrev pub block1_in : List ℕ → List ℕ
block1_in r = field r 34 41

-- the entity in it
abbrev pub payer_entity : List ℕ → ℕ
payer_entity r = number (field r 34 36)

-- 8, block 2
abbrev pub block2_in : List ℕ → List ℕ
block2_in r = field r 45 58

-- 9, the client who pays
abbrev pub client_in : List ℕ → List ℕ
client_in r = field r 59 80

-- 11, reference of the debit
abbrev pub reference_in : List ℕ → List ℕ
reference_in r = field r 89 103

-- 12, amount, in cents
abbrev pub cents_in : List ℕ → List ℕ
cents_in r = field r 104 113

-- ---- rules

-- neither blank nor with a character that is not in 01
unfoldable pub text_good : List ℕ → Bool
text_good f = every good f && not (blank f)

-- 13, currency of the debit: 80 pesos, 82 dollars
unfoldable pub currency_good : Currency → List ℕ → Bool
currency_good Pesos r = is (field r 114 115) "80"
currency_good Dollars r = is (field r 114 115) "82"

-- AAMMDD of ddmmaaaa
unfoldable pub short_date : List ℕ → List ℕ
short_date f = field f 7 8 ++ field f 3 4 ++ field f 1 2

-- a date of 01, ddmmaaaa: all four digits of its year count, 2000 to 2099
unfoldable pub long_date : List ℕ → Bool
long_date f = is (field f 5 6) "20" && date_field (short_date f)

-- the first due date is a date, and that in the LO body's 70-75
unfoldable pub due_good : List ℕ → List ℕ → Bool
due_good lo f = long_date f && same (short_date f) (field lo 70 75)

-- the whole: 17, 203, 19, 75
unfoldable pub detail : Currency → List ℕ → List ℕ → Check
detail currency lo r =
    need (is (field r 1 1) "D") 17
    also need (digits (block1_in r) && digits (block2_in r)) 17
    also need (within 1 499 (payer_entity r)) 17
    also need (text_good (reference_in r) && text_good (client_in r)) 17
    also need (currency_good currency r) 203
    also need (digits (cents_in r) && ltb 0 (number (cents_in r))) 19
    also need (due_good lo (due_in r)) 75

-- ---- the order

-- positions 1-29: an order; whom it goes to, dollars adding 500 to the entity, with its branch; destination 0; account 000 and block 2
abbrev pub order_to : Currency → List ℕ → List ℕ
order_to currency r = bytes "637" ++ spelled 4 (currency_adds currency + payer_entity r) ++ field r 37 40 ++ bytes "0" ++ bytes "000" ++ block2_in r

-- without additional; the counter's prefix is the LO body's
unfoldable pub order_of : Currency → List ℕ → List ℕ → List ℕ
order_of currency lo r =
    order_to currency r ++ cents_in r ++ reference_in r ++ client_in r ++ bytes "000" ++ field lo 80 87 ++ bytes "0000000"
