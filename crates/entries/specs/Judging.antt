-- The numbers that a good individual record hands on, and parts of its rules.
use Rattle.std.specs.Prelude.{ℕ, not, ◌||◌, List}
use Rattle.paper.specs.Checks.{Check, need, ◌also◌}
use Rattle.paper.specs.Fields.{field, blank, digits, is}
use Rattle.paper.specs.Kinds.{code_of}
use Rattle.paper.specs.Records.{amount_of, destination_field, number_in, information_good, flag_good, counter_good}
use Rattle.entries.specs.declared.individual.Entry.{Entry}

-- the numbers of an individual record
unfoldable pub entry_of : List ℕ → Entry
entry_of r = record { code = code_of r; destination = destination_field r; amount = amount_of r; counter = number_in r }

-- those of position 79
unfoldable pub flag_rules : List ℕ → Check
flag_rules r = need (is (field r 79 79) "0" || is (field r 79 79) "1") 17 also need (flag_good r) 25

-- those of 80-94
unfoldable pub counter_rules : List ℕ → ℕ → List ℕ → Check
counter_rules header previous r = need (digits (field r 80 94)) 17 also need (counter_good header previous r) 27

-- the rules from position 55 on
unfoldable pub closing_rules : List ℕ → ℕ → List ℕ → Check
closing_rules header previous r =
    need (not (blank (field r 55 76))) 17
    also need (information_good r) 87
    also flag_rules r
    also counter_rules header previous r
