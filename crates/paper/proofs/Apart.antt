-- Demand 3, extracts: an entity's extract depends on the file header and on what is addressed to it only.
use Prim.Native.Nat.{ℕ, suc}
use native.Mathlib.Omega.{arith}
use mathlib.Core.List.{[], List, ◌∷◌, ◌++◌, map}
use mathlib.Core.Path.{◌≡◌, refl, sym, ap, ◌∙◌, ap₂}
use lib.Seq.{take-take}
use Rattle.paper.specs.declared.rules.Currency.{Currency}
use Rattle.paper.specs.declared.rules.Rules.{Rules}
use Rattle.paper.specs.Answers.{accepted}
use Rattle.paper.specs.Fields.{field}
use Rattle.paper.specs.Reading.{reading}
use Rattle.paper.specs.Writing.{spelled, numbered}
use Rattle.paper.specs.Extract.{Item, Batch, batches_of, items_to, holding, batches_to, item_records, batch_records, extract}
use Rattle.paper.specs.Buffers.{extracting}
use Rattle.paper.specs.Demands.{batch_if, batches_holding, SameTo}

-- under a new number the old one is gone
aside_numbered : (n : ℕ) (header : List ℕ) → numbered n header ≡ numbered n (field header 1 87)
unfolding numbered
aside_numbered n header = ap (λ (l : List ℕ). l ++ spelled 7 n) (sym (take-take 87 87 header (omega arith)))

-- the records of batches of these headers and items
made_of : ℕ → List (List ℕ) → List (List Item) → List (List ℕ)
made_of n [] its = []
made_of n (h ∷ hs) [] = []
made_of n (h ∷ hs) (is ∷ its) = numbered (suc n) h ∷ (item_records is ++ made_of (suc n) hs its)

-- of batches: the headers without their numbers, and the items to E
made : ℕ → ℕ → List Batch → List (List ℕ)
made e n bs = made_of n (map (λ (b : Batch). field b.header 1 87) bs) (map (λ (b : Batch). items_to e b.items) bs)

-- an extract holds what is made of the batches that hold records to E
to_made : (e : ℕ) (bs : List Batch) (n : ℕ) → batch_records n (batches_to e bs) ≡ made e n (batches_holding e bs)
unfolding batch_records batches_to batches_holding holding batch_if made_of made
to_made e [] n = refl
to_made e (b ∷ bs) n = go (items_to e b.items) refl (to_made e bs n) (to_made e bs (suc n))
  where
    go : (is : List Item) → items_to e b.items ≡ is → batch_records n (batches_to e bs) ≡ made e n (batches_holding e bs)
        → batch_records (suc n) (batches_to e bs) ≡ made e (suc n) (batches_holding e bs)
        → batch_records n (holding b.header is (batches_to e bs)) ≡ made e n (batch_if is b (batches_holding e bs))
    go [] q now later = now
    go (i ∷ is) q now later =
        ap₂ (λ (h : List ℕ) (rs : List (List ℕ)). h ∷ (item_records (i ∷ is) ++ rs)) (aside_numbered (suc n) b.header) later
        ∙ ap (λ (js : List Item). numbered (suc n) (field b.header 1 87) ∷ (item_records js ++ made e (suc n) (batches_holding e bs))) (sym q)

-- two files that are the same to E have equal extracts for E
pub extracts_equal : (currency : Currency) (e : ℕ) (f g : List ℕ) → SameTo e f g → extract currency e f ≡ extract currency e g
unfolding extract made
extracts_equal currency e f g s =
    let r : batch_records 0 (batches_to e (batches_of f)) ≡ batch_records 0 (batches_to e (batches_of g)) =
    to_made e (batches_of f) 0 ∙ ap₂ (made_of 0) s.headers s.records ∙ sym (to_made e (batches_of g) 0) in
    rw (s.file_header, r)

-- and, where both pass the reading, extracting answers alike and leaves the same bytes
pub extracts_apart : (rules : Rules) (e : ℕ) (f g buffer : List ℕ) → reading rules f ≡ accepted → reading rules g ≡ accepted → SameTo e f g
    → extracting rules e f buffer ≡ extracting rules e g buffer
unfolding extracting
extracts_apart rules e f g buffer p q s = rw (p, q, extracts_equal rules.currency e f g s) refl
