-- What the controls count, and their fields.
use Rattle.std.specs.Prelude.{ℕ, ◌+◌, ◌/◌, ◌%◌, ◌^◌, cond, List}
use Rattle.paper.specs.declared.record.Tally.{Tally}
use Rattle.paper.specs.Checks.{Check, need, ◌also◌}
use Rattle.paper.specs.Fields.{field, same, spells}
use Rattle.paper.specs.Kinds.{code_of, collects, pays}
use Rattle.paper.specs.Records.{amount_of, destination_field}

abbrev pub zeros : Tally
zeros = record { records = 0; destinations = 0; debits = 0; credits = 0 }

unfoldable pub plus : Tally → Tally → Tally
plus a b = record {
  records = a.records + b.records;
  destinations = a.destinations + b.destinations;
  debits = a.debits + b.debits;
  credits = a.credits + b.credits;
}

unfoldable pub with_individual : Tally → List ℕ → Tally
with_individual t r = record {
  records = t.records + 1;
  destinations = t.destinations + destination_field r;
  debits = t.debits + cond (collects (code_of r)) (amount_of r) 0;
  credits = t.credits + cond (pays (code_of r)) (amount_of r) 0;
}

unfoldable pub with_additional : Tally → Tally
with_additional t = record { records = t.records + 1; destinations = t.destinations; debits = t.debits; credits = t.credits }

-- 8, batch control, under its header; amount sums are exact, so one that needs thirteen digits matches no field
unfoldable pub batch_control : List ℕ → Tally → List ℕ → Check
batch_control header t r =
    need (same (field r 2 4) (field header 2 4)) 17
    also need (same (field r 45 54) (field header 41 50)) 17
    also need (same (field r 80 87) (field header 80 87)) 17
    also need (same (field r 88 94) (field header 88 94)) 17
    also need (spells (field r 5 10) t.records) 17
    also need (spells (field r 11 20) (t.destinations % 10 ^ 10)) 17
    also need (spells (field r 21 32) t.debits) 17
    also need (spells (field r 33 44) t.credits) 17

-- all records by blocks, rounded up
unfoldable pub blocks : ℕ → ℕ
blocks n = (n + 9) / 10

-- 9, file control of a file of `all` records, this one included
unfoldable pub file_control : ℕ → ℕ → Tally → List ℕ → Check
file_control all batches t r =
    need (spells (field r 2 7) batches) 17
    also need (spells (field r 8 13) (blocks all)) 17
    also need (spells (field r 14 21) t.records) 17
    also need (spells (field r 22 31) (t.destinations % 10 ^ 10)) 17
    also need (spells (field r 32 43) t.debits) 17
    also need (spells (field r 44 55) t.credits) 17
