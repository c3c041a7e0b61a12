-- How long blocks are, and what their controls can count.
use Prim.Native.Nat.{ℕ, suc, ◌+◌, ◌*◌}
use mathlib.Core.List.{List, [], ◌∷◌}
use mathlib.Core.Path.{◌≡◌, ap, ◌∙◌}
use native.Mathlib.Omega.{arith}
use lib.ListN.{length, length-append}
use Rattle.paper.specs.declared.record.Tally.{Tally}
use Rattle.paper.specs.Controls.{zeros, plus}
use Rattle.paper.specs.Writing.{joined}
use Rattle.paper.specs.Extract.{Item, Batch, item_records}
use Rattle.paper.proofs.Lists.{Sized, sized_append, joined_append, length_joined}
use Rattle.paper.proofs.Closing.{length_file_control}
use Rattle.paper.proofs.Grouping.{AdditionalsGood, ItemsGood, BatchesGood}
use Rattle.batches.specs.Blocks.{tallied, block}
use Rattle.batches.proofs.Blocks.{length_block}
use Rattle.extract.specs.Blocks.{blocks_from, flat}

additionals_sized : (xs : List (List ℕ)) → AdditionalsGood xs → Sized 94 xs
additionals_sized [] g = tt
additionals_sized (x ∷ xs) g = (g.0.1, additionals_sized xs g.1)

pub items_sized : (is : List Item) → ItemsGood is → Sized 94 (item_records is)
unfolding item_records
items_sized [] g = tt
items_sized (i ∷ is) g = (g.0.1, sized_append 94 i.additionals (item_records is) (additionals_sized i.additionals g.1) (items_sized is g.2))

pub length_blocks : (place n : ℕ) (closed : Tally) (bs : List Batch) → BatchesGood bs
    → length (joined (blocks_from place n closed bs)) ≡ (length (flat bs) + length bs + 1) * 94
unfolding blocks_from flat
length_blocks place n closed [] g = length_joined 94 _ (length_file_control _ _ _, tt)
length_blocks place n closed (b ∷ bs) g =
    let own : List (List ℕ) = item_records b.items in
    let first : List (List ℕ) = block (suc n) b.header own in
    let others : List (List ℕ) = blocks_from (place + (length own + 2)) (suc n) (plus closed (tallied zeros own)) bs in
    let l = length_block (suc n) b.header own g.0.1 (items_sized b.items g.1) in
    let m = length_blocks (place + (length own + 2)) (suc n) (plus closed (tallied zeros own)) bs g.2 in
    ap length (joined_append first others) ∙ length-append (joined first) (joined others) ∙ omega (arith, l, m, length-append own (flat bs))
