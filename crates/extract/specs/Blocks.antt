-- An extract, batch by batch.
use Rattle.std.specs.Prelude.{ℕ, suc, ◌+◌, ◌*◌, ◌≤◌, List, [], ◌∷◌, ◌++◌, ◌≡◌, length}
use Rattle.paper.specs.declared.record.Tally.{Tally}
use Rattle.paper.specs.declared.rules.Currency.{Currency}
use Rattle.paper.specs.Controls.{zeros, plus}
use Rattle.paper.specs.Writing.{file_control_of}
use Rattle.paper.specs.Extract.{Batch, item_records, extract}
use Rattle.picking.specs.Notes.{goes_to}
use Rattle.picking.specs.Places.{Passed, Placed}
use Rattle.batches.specs.Blocks.{tallied, block}

-- the blocks that come after so many records and batches, and what their controls counted; then the file control
unfoldable pub blocks_from : ℕ → ℕ → Tally → List Batch → List (List ℕ)
blocks_from place n closed [] = file_control_of (place + 1) n closed ∷ []
blocks_from place n closed (b ∷ bs) =
    let own = item_records b.items in
    block (suc n) b.header own ++ blocks_from (place + (length own + 2)) (suc n) (plus closed (tallied zeros own)) bs

-- the records of batches, as they stand in the file
unfoldable pub flat : List Batch → List (List ℕ)
flat [] = []
flat (b ∷ bs) = b.header ∷ (item_records b.items ++ flat bs)

-- what a batch is written from, and room for so many records
pub record ToCopy (file places buffer : List ℕ) (records : ℕ) : Type 0 where
  pub short : length file ≤ 940000
  pub placed : Placed file places
  pub few : length places ≤ 10000
  pub room : records * 94 ≤ length buffer

-- what an extract is written from, and room for it
pub record ToExtract (currency : Currency) (e : ℕ) (file places buffer : List ℕ) : Type 0 where
  pub entity : e ≤ 499
  pub passed : Passed file
  pub picked : places ≡ goes_to e file
  pub room : length (extract currency e file) ≤ length buffer
