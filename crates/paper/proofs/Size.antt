-- How long an extract is: its file header and control, and each batch's, and the records to its entity. Never longer than its file.
use Prim.Native.Nat.{ℕ, suc, ◌+◌, ◌*◌, ◌≤◌}
use native.Mathlib.Omega.{arith}
use mathlib.Core.Bool.{Bool, true, false, cond}
use mathlib.Core.List.{[], List, ◌∷◌, ◌++◌, append_assoc}
use mathlib.Core.Path.{◌≡◌, refl, sym, ap, ◌∙◌}
use lib.ListN.{length, take, length-append}
use Rattle.paper.specs.declared.record.Before.TheVariants.{Nothing}
use Rattle.paper.specs.declared.record.Kind.TheVariants.{BatchHeader}
use Rattle.paper.specs.declared.rules.Rules.{Rules}
use Rattle.paper.specs.Answers.{accepted}
use Rattle.paper.specs.Kinds.{kind_of}
use Rattle.paper.specs.Reading.{records_of, reading}
use Rattle.paper.specs.Writing.{numbered}
use Rattle.paper.specs.Extract.{Item, Batch, batches_of, is_to, items_to, holding, batches_to, item_records, batch_records, header_for, extract}
use Rattle.paper.specs.Demands.{items_in, items_of}
use Rattle.paper.proofs.Lists.{length_joined, kind_numbered}
use Rattle.paper.proofs.Accepted.{accepted_facts}
use Rattle.paper.proofs.Facts.{file_shaped}
use Rattle.paper.proofs.Closing.{headers, headers_of, length_closing}
use Rattle.paper.proofs.Grouping.{AdditionalsGood, ItemsGood, BatchesGood, extract_good}
use Rattle.paper.proofs.Regrouping.{batches_sized, extract_cut}
use Rattle.paper.proofs.Carried.{item_records_append, left}
use Rattle.paper.proofs.Shared.{items_in_to, items_all}

-- ---- how many records an extract has

additionals_headless : (xs rs : List (List ℕ)) → AdditionalsGood xs → headers_of (xs ++ rs) ≡ headers_of rs
unfolding headers_of
additionals_headless [] rs g = refl
additionals_headless (x ∷ xs) rs g = omega (arith, ap headers g.0.0, additionals_headless xs rs g.1)

items_headless : (is : List Item) (rs : List (List ℕ)) → ItemsGood is → headers_of (item_records is ++ rs) ≡ headers_of rs
unfolding headers_of item_records
items_headless [] rs g = refl
items_headless (i ∷ is) rs g =
    rw (append_assoc i.additionals (item_records is) rs)
    (omega (arith, ap headers g.0.0, additionals_headless i.additionals (item_records is ++ rs) g.1, items_headless is rs g.2))

headers_of_lem : (bs : List Batch) (n : ℕ) → BatchesGood bs → headers_of (batch_records n bs) ≡ length bs
unfolding headers_of batch_records
headers_of_lem [] n g = refl
headers_of_lem (b ∷ bs) n g =
    let k : kind_of (numbered (suc n) b.header) ≡ BatchHeader = kind_numbered (suc n) b.header (omega (arith, g.0.1)) ∙ g.0.0 in
    omega (arith, ap headers k, items_headless b.items (batch_records (suc n) bs) g.1, headers_of_lem bs (suc n) g.2)

length_batches : (bs : List Batch) (n : ℕ) → length (batch_records n bs) ≡ length bs + length (item_records (items_in bs))
unfolding batch_records items_in item_records
length_batches [] n = refl
length_batches (b ∷ bs) n =
    rw (item_records_append b.items (items_in bs), length-append (item_records b.items) (item_records (items_in bs)), length-append (item_records b.items) (batch_records (suc n) bs))
    (omega (arith, length_batches bs (suc n)))

pub extract_length : (rules : Rules) (e : ℕ) (file : List ℕ) → reading rules file ≡ accepted
    → length (extract rules.currency e file) ≡ (2 + 2 * length (batches_to e (batches_of file)) + length (item_records (items_to e (items_of file)))) * 94
unfolding extract items_of
extract_length rules e file h =
    let bs : List Batch = batches_to e (batches_of file) in
    let g : BatchesGood bs = extract_good rules e file h in
    let l : length (item_records (items_in bs)) ≡ length (item_records (items_to e (items_in (batches_of file)))) = ap (λ (is : List Item). length (item_records is)) (items_in_to e (batches_of file)) in
    length_closing (header_for rules.currency e (take 94 file)) (batch_records 0 bs) (extract_cut rules e file h).header.1 (batches_sized 0 bs g)
    ∙ omega (arith, headers_of_lem bs 0 g, length_batches bs 0, l)

-- ---- its file has no fewer

items_fewer : (e : ℕ) (is : List Item) → length (item_records (items_to e is)) ≤ length (item_records is)
unfolding items_to item_records
items_fewer e [] = omega arith
items_fewer e (i ∷ is) = go (is_to e i.individual) (items_fewer e is)
  where
    go : (b : Bool) → length (item_records (items_to e is)) ≤ length (item_records is)
        → length (item_records (cond b (i ∷ items_to e is) (items_to e is))) ≤ length (item_records (i ∷ is))
    go true q = omega (arith, length-append i.additionals (item_records is), length-append i.additionals (item_records (items_to e is)))
    go false q = omega (arith, length-append i.additionals (item_records is))

holding_one : (header : List ℕ) (is : List Item) (bs : List Batch) → length (holding header is bs) ≤ suc (length bs)
unfolding holding
holding_one header [] bs = omega arith
holding_one header (i ∷ is) bs = omega arith

batches_fewer : (e : ℕ) (bs : List Batch) → length (batches_to e bs) ≤ length bs
unfolding batches_to
batches_fewer e [] = omega arith
batches_fewer e (b ∷ bs) = omega (arith, holding_one b.header (items_to e b.items) (batches_to e bs), batches_fewer e bs)

pub file_length : (rules : Rules) (file : List ℕ) → reading rules file ≡ accepted
    → length file ≡ (2 + 2 * length (batches_of file) + length (item_records (items_of file))) * 94
unfolding batches_of
file_length rules file h =
    let a = accepted_facts rules file h in
    let n = (left Nothing (records_of file) (file_shaped rules file h)).count in
    ap length (sym a.whole) ∙ length_joined 94 (records_of file) a.sized ∙ omega (arith, n, ap length (items_all rules file h))

-- so a buffer of the file's length always has room
pub extract_fits : (rules : Rules) (e : ℕ) (file : List ℕ) → reading rules file ≡ accepted → length (extract rules.currency e file) ≤ length file
extract_fits rules e file h = omega (arith, extract_length rules e file h, file_length rules file h, items_fewer e (items_of file), batches_fewer e (batches_of file))
