-- Extract: what is addressed to one entity.
use Rattle.std.specs.Prelude.{ℕ, suc, ◌+◌, Bool, cond, List, [], ◌∷◌, ◌++◌, eqb, take}
use Rattle.paper.specs.declared.rules.Currency.{Currency}
use Rattle.paper.specs.declared.record.Kind.{Kind}
use Rattle.paper.specs.declared.record.Kind.TheVariants.{FileHeader, BatchHeader, Individual, Additional, BatchControl, FileControl, Other}
use Rattle.paper.specs.Fields.{bytes, field}
use Rattle.paper.specs.Entities.{currency_adds}
use Rattle.paper.specs.Kinds.{kind_of}
use Rattle.paper.specs.Records.{destination_in}
use Rattle.paper.specs.Reading.{records_of}
use Rattle.paper.specs.Writing.{spelled, numbered, closing}

-- an individual record with its additionals
pub record Item : Type 0 where
  pub individual : List ℕ
  pub additionals : List (List ℕ)

pub record Batch : Type 0 where
  pub header : List ℕ
  pub items : List Item

-- a list of records cut into its batches, and what stands before the first of them: items, and before those, additionals
pub record Groups : Type 0 where
  pub additionals : List (List ℕ)
  pub items : List Item
  pub batches : List Batch

-- a record put before them
unfoldable pub prepended : Kind → List ℕ → Groups → Groups
prepended FileHeader r g = g
prepended BatchHeader r g = record { additionals = []; items = []; batches = record { header = r; items = g.items } ∷ g.batches }
prepended Individual r g = record { additionals = []; items = record { individual = r; additionals = g.additionals } ∷ g.items; batches = g.batches }
prepended Additional r g = record { additionals = r ∷ g.additionals; items = g.items; batches = g.batches }
prepended BatchControl r g = g
prepended FileControl r g = g
prepended Other r g = g

unfoldable pub grouped : List (List ℕ) → Groups
grouped [] = record { additionals = []; items = []; batches = [] }
grouped (r ∷ rs) = prepended (kind_of r) r (grouped rs)

unfoldable pub batches_of : List ℕ → List Batch
batches_of file = (grouped (records_of file)).batches

-- is the individual record addressed to E, at any branch?
unfoldable pub is_to : ℕ → List ℕ → Bool
is_to e r = eqb (destination_in r) e

unfoldable pub items_to : ℕ → List Item → List Item
items_to e [] = []
items_to e (i ∷ is) = cond (is_to e i.individual) (i ∷ items_to e is) (items_to e is)

-- a batch goes in where it holds an item
unfoldable pub holding : List ℕ → List Item → List Batch → List Batch
holding header [] rest = rest
holding header (i ∷ is) rest = record { header = header; items = i ∷ is } ∷ rest

-- each batch that holds a record to E, with its records to E
unfoldable pub batches_to : ℕ → List Batch → List Batch
batches_to e [] = []
batches_to e (b ∷ bs) = holding b.header (items_to e b.items) (batches_to e bs)

unfoldable pub item_records : List Item → List (List ℕ)
item_records [] = []
item_records (i ∷ is) = i.individual ∷ (i.additionals ++ item_records is)

-- their records, the headers numbered on from n
unfoldable pub batch_records : ℕ → List Batch → List (List ℕ)
batch_records n [] = []
batch_records n (b ∷ bs) = numbered (suc n) b.header ∷ (item_records b.items ++ batch_records (suc n) bs)

-- the file header: 4-13 is E, 14-23 the old 4-13, and 41-63 and 64-86 are exchanged
unfoldable pub header_for : Currency → ℕ → List ℕ → List ℕ
header_for currency e r =
    field r 1 3 ++ bytes " " ++ spelled 4 (e + currency_adds currency) ++ bytes "0000" ++ bytes "0" ++ field r 4 13
    ++ field r 24 40 ++ field r 64 86 ++ field r 41 63 ++ field r 87 94

unfoldable pub extract : Currency → ℕ → List ℕ → List ℕ
extract currency e file = closing (header_for currency e (take 94 file)) (batch_records 0 (batches_to e (batches_of file)))
