-- An extract is its batches' blocks: what stands between two headers is counted by the control after it.
use Prim.Native.Nat.{ℕ, suc, ◌+◌}
use mathlib.Core.List.{List, [], ◌∷◌, ◌++◌, append_assoc}
use mathlib.Core.Logic.{inl, inr}
use mathlib.Core.Path.{◌≡◌, refl, sym, ap, ◌∙◌}
use native.Mathlib.Omega.{arith}
use lib.ListN.{length}
use Rattle.paper.specs.declared.record.Kind.TheVariants.{FileHeader, BatchHeader}
use Rattle.paper.specs.Kinds.{kind_of}
use Rattle.paper.specs.Controls.{zeros}
use Rattle.paper.specs.Reading.{Reckoning, nothing_counted, counted}
use Rattle.paper.specs.Writing.{joined, numbered, file_control_of, owed, settled, owed_before, settled_before, ending, with_controls, closing}
use Rattle.paper.specs.Extract.{Item, Batch, item_records, batch_records}
use Rattle.paper.proofs.Lists.{kind_numbered}
use Rattle.paper.proofs.Grouping.{AdditionalsGood, ItemsGood, BatchesGood}
use Rattle.batches.specs.Blocks.{own_of, block}
use Rattle.batches.proofs.Own.{Within, own_within}
use Rattle.batches.proofs.Blocks.{past, controls_past, settled_batches}
use Rattle.extract.specs.Blocks.{blocks_from, flat}

-- ---- the records of items, one by one

additionals_within : (xs rest : List (List ℕ)) → AdditionalsGood xs → Within rest → Within (xs ++ rest)
additionals_within [] rest g w = w
additionals_within (x ∷ xs) rest g w = (inr g.0, additionals_within xs rest g.1 w)

items_within : (is : List Item) → ItemsGood is → Within (item_records is)
unfolding item_records
items_within [] g = tt
items_within (i ∷ is) g = (inl g.0, additionals_within i.additionals (item_records is) g.1 (items_within is g.2))

-- ---- a batch's own records

headers_end : (bs : List Batch) → BatchesGood bs → own_of (flat bs) ≡ []
unfolding own_of flat
headers_end [] g = refl
headers_end (b ∷ bs) g = rw g.0.0 refl

pub own_of_lem : (is : List Item) (bs : List Batch) → ItemsGood is → BatchesGood bs → own_of (item_records is ++ flat bs) ≡ item_records is
own_of_lem is bs g h = own_within (item_records is) (flat bs) (items_within is g) (headers_end bs h)

-- ---- controls

controls_blocks : (bs : List Batch) (n : ℕ) (c : Reckoning) → c.batches ≡ n → BatchesGood bs
    → with_controls c (batch_records n bs)
    ≡ owed c.batches c ++ blocks_from (settled c.batches c).place n (settled c.batches c).closed bs
unfolding with_controls ending owed_before settled_before batch_records blocks_from block owed settled counted
controls_blocks [] n c e g =
    let d : Reckoning = settled c.batches c in
    ap (λ (m : ℕ). owed c.batches c ++ file_control_of (d.place + 1) m d.closed ∷ []) (settled_batches c.batches c ∙ e)
controls_blocks (b ∷ bs) n c e g =
    let d : Reckoning = settled c.batches c in
    let r : List ℕ = numbered (suc n) b.header in
    let own : List (List ℕ) = item_records b.items in
    let k : kind_of r ≡ BatchHeader = kind_numbered (suc n) b.header (omega (arith, g.0.1)) ∙ g.0.0 in
    let inside = controls_past (counted BatchHeader d r) own (batch_records (suc n) bs) (items_within b.items g.1) in
    let later = controls_blocks bs (suc n) (past (counted BatchHeader d r) own) (ap suc (settled_batches c.batches c ∙ e)) g.2 in
    let m : d.place + (length own + 2) ≡ d.place + 1 + length own + 1 = omega arith in
    rw (k, m)
    (ap (λ (l : List (List ℕ)). owed c.batches c ++ r ∷ l) (inside ∙ ap (λ (l : List (List ℕ)). own ++ l) later ∙ sym (append_assoc own _ _)))

pub closing_blocks : (header : List ℕ) (bs : List Batch) → BatchesGood bs → closing header (batch_records 0 bs) ≡ joined (header ∷ blocks_from 1 0 zeros bs)
unfolding closing counted nothing_counted owed settled
closing_blocks header bs g = ap (λ (l : List (List ℕ)). joined (header ∷ l)) (controls_blocks bs 0 (counted FileHeader nothing_counted header) refl g)
