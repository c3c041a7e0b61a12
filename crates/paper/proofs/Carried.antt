-- The individual and additional records of a file are those of its items.
use Prim.Native.Nat.{ℕ, suc, ◌+◌, ◌*◌}
use native.Mathlib.Omega.{arith}
use mathlib.Core.Bool.{Bool, true, false}
use mathlib.Core.List.{[], List, ◌∷◌, ◌++◌, append_assoc}
use mathlib.Core.Path.{◌≡◌, refl, sym, ap, ◌∙◌}
use lib.ListN.{length}
use Rattle.paper.specs.declared.record.Before.{Before}
use Rattle.paper.specs.declared.record.Before.TheVariants.{Nothing, Between, Opened, Flagged, Inside, Ended}
use Rattle.paper.specs.declared.record.Kind.{Kind}
use Rattle.paper.specs.Fields.{field, is}
use Rattle.paper.specs.Kinds.{kind_of}
use Rattle.paper.specs.Reading.{Reckoning, flag, before_next}
use Rattle.paper.specs.Writing.{with_controls}
use Rattle.paper.specs.Extract.{Item, Batch, Groups, prepended, grouped, item_records, batch_records}
use Rattle.paper.specs.Demands.{items_in, carried_by, carried}
use Rattle.paper.proofs.Lists.{kind_numbered}
use Rattle.paper.proofs.Accepted.{Follows, file_begins, batch_opens, file_ends, first_individual, its_additional, next_individual, batch_closes}
use Rattle.paper.proofs.Facts.{Shaped}
use Rattle.paper.proofs.Grouping.{AdditionalsGood, ItemsGood, BatchesGood}
use Rattle.paper.proofs.Regrouping.{over_controls}

pub item_records_append : (is js : List Item) → item_records (is ++ js) ≡ item_records is ++ item_records js
unfolding item_records
item_records_append [] js = refl
item_records_append (i ∷ is) js =
    ap (λ (l : List (List ℕ)). i.individual ∷ (i.additionals ++ l)) (item_records_append is js)
    ∙ ap (λ (l : List (List ℕ)). i.individual ∷ l) (sym (append_assoc i.additionals (item_records is) (item_records js)))

-- ---- records made of good batches

carried_additionals : (xs rs : List (List ℕ)) → AdditionalsGood xs → carried (xs ++ rs) ≡ xs ++ carried rs
unfolding carried carried_by
carried_additionals [] rs g = refl
carried_additionals (x ∷ xs) rs g = rw g.0.0 (ap (λ (l : List (List ℕ)). x ∷ l) (carried_additionals xs rs g.1))

carried_items : (is : List Item) (rs : List (List ℕ)) → ItemsGood is → carried (item_records is ++ rs) ≡ item_records is ++ carried rs
unfolding carried carried_by item_records
carried_items [] rs g = refl
carried_items (i ∷ is) rs g =
    rw (g.0.0, append_assoc i.additionals (item_records is) rs, append_assoc i.additionals (item_records is) (carried rs))
    (ap (λ (l : List (List ℕ)). i.individual ∷ l)
    (carried_additionals i.additionals (item_records is ++ rs) g.1 ∙ ap (λ (l : List (List ℕ)). i.additionals ++ l) (carried_items is rs g.2)))

pub carried_batches : (bs : List Batch) (n : ℕ) → BatchesGood bs → carried (batch_records n bs) ≡ item_records (items_in bs)
unfolding carried carried_by batch_records items_in item_records
carried_batches [] n g = refl
carried_batches (b ∷ bs) n g =
    rw (kind_numbered (suc n) b.header (omega (arith, g.0.1)), g.0.0)
    (carried_items b.items (batch_records (suc n) bs) g.1
    ∙ ap (λ (l : List (List ℕ)). item_records b.items ++ l) (carried_batches bs (suc n) g.2)
    ∙ sym (item_records_append b.items (items_in bs)))

pub carried_controls : (rs : List (List ℕ)) (c : Reckoning) → carried (with_controls c rs) ≡ carried rs
unfolding carried carried_by
carried_controls = over_controls carried carried_by (λ r rs. refl) (λ r l. refl) (λ r l. refl)

-- ---- records in the order of types of an accepted file

-- what stands before the first batch of what is left
abbrev pub Loose : Before → Groups → Type 0
Loose Nothing g = (g.additionals ≡ []) × (g.items ≡ [])
Loose Between g = (g.additionals ≡ []) × (g.items ≡ [])
Loose Opened g = g.additionals ≡ []
Loose Flagged g = Unit {0}
Loose Inside g = g.additionals ≡ []
Loose Ended g = (g.additionals ≡ []) × (g.items ≡ [])

-- how many headers and controls are left, those of later batches aside
abbrev pub due : Before → ℕ
due Nothing = 2
due Between = 1
due Opened = 2
due Flagged = 2
due Inside = 2
due Ended = 0

-- n records, grouped, that carry l
pub record Left (b : Before) (g : Groups) (l : List (List ℕ)) (n : ℕ) : Type 0 where
  pub loose : Loose b g
  pub all : l ≡ g.additionals ++ (item_records g.items ++ item_records (items_in g.batches))
  pub count : n ≡ due b + 2 * length g.batches + length l

six : (r : List ℕ) (g : Groups) {l : List (List ℕ)} → l ≡ g.additionals ++ (item_records g.items ++ item_records (items_in g.batches))
    → r ∷ l ≡ item_records (record { individual = r; additionals = g.additionals } ∷ g.items) ++ item_records (items_in g.batches)
unfolding item_records
six r g q = ap (λ (x : List (List ℕ)). r ∷ x) (q ∙ sym (append_assoc g.additionals (item_records g.items) (item_records (items_in g.batches))))

inside : (b : Bool) → due (flag b) ≡ 2
unfolding flag
inside true = refl
inside false = refl

one_more : (b : Before) (k : Kind) (r : List ℕ) (g : Groups) (l : List (List ℕ)) (n : ℕ) → Follows b k → Left (before_next k r) g l n
    → Left b (prepended k r g) (carried_by k r l) (suc n)
unfolding prepended carried_by before_next item_records items_in
one_more b k r g l n file_begins q = record { loose = q.loose; all = q.all; count = omega (arith, q.count) }
one_more b k r g l n batch_opens q = record {
  loose = (refl, refl);
  all = q.all ∙ rw q.loose (sym (item_records_append g.items (items_in g.batches)));
  count = omega (arith, q.count);
}
one_more b k r g l n file_ends q = record { loose = q.loose; all = q.all; count = omega (arith, q.count) }
one_more b k r g l n first_individual q = record { loose = refl; all = six r g q.all; count = omega (arith, q.count, inside (is (field r 79 79) "1")) }
one_more b k r g l n its_additional q = record { loose = tt; all = ap (λ (x : List (List ℕ)). r ∷ x) q.all; count = omega (arith, q.count) }
one_more b k r g l n next_individual q = record { loose = refl; all = six r g q.all; count = omega (arith, q.count, inside (is (field r 79 79) "1")) }
one_more b k r g l n batch_closes q = record { loose = q.loose.0; all = q.all; count = omega (arith, q.count) }

pub left : (b : Before) (rs : List (List ℕ)) → Shaped b rs → Left b (grouped rs) (carried rs) (length rs)
unfolding grouped carried item_records items_in
left b [] h = rw h (record { loose = (refl, refl); all = refl; count = refl })
left b (r ∷ rs) h = one_more b (kind_of r) r (grouped rs) (carried rs) (length rs) h.0 (left (before_next (kind_of r) r) rs h.1)
