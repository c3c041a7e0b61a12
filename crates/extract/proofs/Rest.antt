-- An extract as its file header and its blocks; what is left of the places begins with a batch.
use Prim.Native.Nat.{ℕ, suc, ◌+◌, ◌≤◌, ◌<◌}
use mathlib.Core.List.{List, [], ◌∷◌, ◌++◌}
use mathlib.Core.Path.{◌≡◌, refl, ap, ◌∙◌}
use native.Mathlib.Numerals.{add-one}
use native.Mathlib.Omega.{arith}
use lib.ListN.{length, get_or, take, drop, length-append}
use lib.Seq.{length-take-le, drop_at}
use Rattle.paper.specs.declared.record.Tally.{Tally}
use Rattle.paper.specs.declared.rules.Currency.{Currency}
use Rattle.paper.specs.Controls.{zeros, plus}
use Rattle.paper.specs.Writing.{joined}
use Rattle.paper.specs.Extract.{Batch, batches_of, batches_to, item_records, header_for, extract}
use Rattle.paper.proofs.Accepted.{accepted_facts}
use Rattle.paper.proofs.Grouping.{BatchesGood, extract_good}
use Rattle.paper.proofs.Lists.{joined_append}
use Rattle.paper.proofs.Regrouping.{length_header}
use Rattle.paper.proofs.Size.{extract_fits}
use Rattle.paper.specs.Reading.{record_at}
use Rattle.picking.specs.Places.{Passed, chosen}
use Rattle.batches.specs.Blocks.{own_of, tallied, block}
use Rattle.extract.specs.Blocks.{blocks_from, flat}
use Rattle.picking.proofs.Chosen.{chosen_drop}
use Rattle.extract.proofs.Blocks.{own_of_lem, closing_blocks}

-- the blocks of an extract, and the file control
abbrev pub blocks_to : ℕ → List ℕ → List ℕ
blocks_to e file = joined (blocks_from 1 0 zeros (batches_to e (batches_of file)))

-- an extract is its file header and these
pub header_blocks : (currency : Currency) (e : ℕ) (file : List ℕ) → Passed file → extract currency e file ≡ header_for currency e (take 94 file) ++ blocks_to e file
unfolding extract joined
header_blocks currency e file r = closing_blocks (header_for currency e (take 94 file)) (batches_to e (batches_of file)) (extract_good r.rules e file r.accepts)

pub header_length : (currency : Currency) (e : ℕ) (file : List ℕ) → Passed file → length (header_for currency e (take 94 file)) ≡ 94
header_length currency e file r = length_header currency e (take 94 file) (length-take-le 94 file (omega (arith, (accepted_facts r.rules file r.accepts).long)))

pub extract_length : (currency : Currency) (e : ℕ) (file : List ℕ) → Passed file → length (extract currency e file) ≡ 94 + length (blocks_to e file)
extract_length currency e file r =
    ap length (header_blocks currency e file r) ∙ length-append (header_for currency e (take 94 file)) (blocks_to e file) ∙ omega (arith, header_length currency e file r)

-- which together are never longer than the file
pub blocks_fit : (e : ℕ) (file : List ℕ) → Passed file → 94 + length (blocks_to e file) ≤ length file
blocks_fit e file r = omega (arith, extract_length r.rules.currency e file r, extract_fits r.rules e file r.accepts)

-- what is left begins with a batch
pub record Next (file places : List ℕ) (rest : List Batch) : Type 0 where
  pub batch : Batch
  pub others : List Batch
  pub these : rest ≡ batch ∷ others
  pub header : record_at file (get_or places 0 0) ≡ batch.header
  pub own : own_of (chosen file (drop 1 places)) ≡ item_records batch.items
  pub later : chosen file (drop (length (item_records batch.items) + 1) places) ≡ flat others

pub next_batch : (file places : List ℕ) (rest : List Batch) → 0 < length places → BatchesGood rest → chosen file places ≡ flat rest → Next file places rest
unfolding flat
next_batch file [] rest l g e = absurd (omega arith)
next_batch file (p ∷ ps) [] l g e = absurd (let z : ◌≡◌ {A = ℕ} (suc (length (chosen file ps))) 0 = ap length e in omega arith)
next_batch file (p ∷ ps) (b ∷ bs) l g e =
    let own : List (List ℕ) = item_records b.items in
    let t : chosen file ps ≡ own ++ flat bs = ap (drop 1) e in
    record {
      batch = b;
      others = bs;
      these = refl;
      header = ap (λ (rs : List (List ℕ)). get_or rs 0 []) e;
      own = rw t (own_of_lem b.items bs g.1 g.2);
      later = rw (add-one, chosen_drop file ps (length own), t) (drop_at own (flat bs) (length own) refl);
    }

-- the first of the blocks, and the others
pub first_block : (place n : ℕ) (closed : Tally) (b : Batch) (bs : List Batch) {header : List ℕ} {own : List (List ℕ)} → header ≡ b.header → own ≡ item_records b.items
    → joined (blocks_from place n closed (b ∷ bs))
    ≡ joined (block (n + 1) header own) ++ joined (blocks_from (place + (length own + 2)) (n + 1) (plus closed (tallied zeros own)) bs)
unfolding blocks_from
first_block place n closed b bs {header} {own} h k =
    rw (h, k, add-one) (joined_append (block (suc n) b.header (item_records b.items)) _)
