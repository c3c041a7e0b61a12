-- An extract written batch by batch, behind its file header.
use Prim.Native.Nat.{ℕ, suc, ◌+◌, ◌-◌, ◌*◌, ◌/◌, ◌^◌, ◌≤◌, ◌<◌}
use mathlib.Core.List.{List, [], ◌∷◌, ◌++◌, append-nil, append_assoc}
use mathlib.Core.Path.{◌≡◌, refl, sym, ap, ◌∙◌}
use native.Mathlib.Omega.{arith}
use borrow.Rule.Slice.PartMut.{mid_of, put_mid, mid_len}
use lib.ListN.{length, get_or, take, drop, length-append, length-drop, drop_of_length-le}
use lib.Seq.{drop-drop}
use Rattle.paper.specs.declared.record.Tally.{Tally}
use Rattle.paper.specs.declared.rules.Currency.{Currency}
use Rattle.paper.specs.Controls.{zeros, plus}
use Rattle.paper.specs.Writing.{joined, file_control_of}
use Rattle.paper.specs.Buffers.{over}
use Rattle.paper.specs.Extract.{Batch, batches_of, batches_to, item_records, header_for, extract}
use Rattle.paper.proofs.Accepted.{accepted_facts}
use Rattle.paper.proofs.Closing.{length_file_control}
use Rattle.paper.proofs.Grouping.{BatchesGood, extract_good}
use Rattle.paper.proofs.Lists.{Sized}
use Rattle.paper.proofs.Regrouping.{length_header}
use Rattle.controls.specs.Bounds.{Below}
use Rattle.paper.specs.Reading.{record_at}
use Rattle.controls.proofs.Bounds.{below_more, below_plus, below_zeros}
use Rattle.writing.proofs.Laying.{Wrote, start, on, whole, kept, part_laid, rest_laid}
use Rattle.picking.specs.Notes.{goes_to}
use Rattle.picking.specs.Places.{Passed, chosen}
use Rattle.batches.specs.Blocks.{own_of, tallied, block, Batched}
use Rattle.batches.proofs.Own.{own_fewer, tallied_below}
use Rattle.batches.proofs.Blocks.{length_block}
use Rattle.batches.proofs.Parts.{rest_of, front_wrote}
use Rattle.extract.specs.Blocks.{blocks_from, flat, ToCopy, ToExtract}
use Rattle.extract.proofs.Batches.{placed_rest}
use Rattle.extract.proofs.Pass.{picked_batches}
use Rattle.extract.proofs.Sizes.{items_sized}
use Rattle.picking.proofs.Chosen.{length_chosen}
use Rattle.picking.proofs.Rising.{goes_few, goes_placed}
use Rattle.extract.proofs.Rest.{blocks_to, header_blocks, extract_length, blocks_fit, Next, next_batch, first_block}

-- the places from an index to their end, as they are lent
abbrev pub lent : List ℕ → ℕ → List ℕ
lent places i = take (length places - i) (drop i places)

-- with the batches that are left from index i of the places on
pub record Progress (e : ℕ) (file places before after : List ℕ) (at number : ℕ) (closed : Tally) (i : ℕ) : Type 0 where
  pub passed : Passed file
  pub picked : places ≡ goes_to e file
  pub room : 94 + length (blocks_to e file) ≤ length before
  pub rest : List Batch
  pub good : BatchesGood rest
  pub left : chosen file (drop i places) ≡ flat rest
  pub text : List ℕ
  pub wrote : Wrote 94 text before after at
  pub all : blocks_to e file ≡ text ++ joined (blocks_from (at / 94) number closed rest)
  pub even : at ≡ at / 94 * 94
  pub bounded : at ≤ 94 + i * 188
  pub few : number ≤ i
  pub inside : i ≤ length places
  pub below : Below (i * 10 ^ 10) closed

-- the header is over the buffer's front
module _ {currency : Currency} {e : ℕ} {file places buffer : List ℕ} (t : ToExtract currency e file places buffer) where
  room : 94 + length (blocks_to e file) ≤ length buffer
  room = omega (arith, extract_length currency e file t.passed, t.room)

  pub header_room : 94 ≤ length buffer
  header_room = omega (arith, room)

  module _ {head rec : List ℕ} (h : head ≡ header_for currency e rec) (q : rec ≡ record_at file 0) (z : length rec ≡ 94) where
    headed : Wrote 0 head buffer (head ++ drop 94 buffer) 94
    headed = front_wrote buffer head (ap length h ∙ length_header currency e rec z)

    pub begun : Progress e file places (head ++ drop 94 buffer) (head ++ drop 94 buffer) 94 0 zeros 0
    begun =
        let r = t.passed in
        let k = kept headed header_room in
        record {
          passed = r;
          picked = t.picked;
          room = omega (arith, room, k);
          rest = batches_to e (batches_of file);
          good = extract_good r.rules e file r.accepts;
          left = ap (chosen file) t.picked ∙ picked_batches r.rules e file r.accepts;
          text = [];
          wrote = start (omega (arith, header_room, k));
          all = refl;
          even = refl;
          bounded = omega arith;
          few = omega arith;
          inside = omega arith;
          below = below_zeros 0;
        }

module _ {e : ℕ} {file places before after : List ℕ} {at number : ℕ} {closed : Tally} {i : ℕ} (p : Progress e file places before after at number closed i) where
  few_places : length places ≤ 10000
  few_places = rw p.picked (omega (arith, goes_few e file, (accepted_facts p.passed.rules file p.passed.accepts).short))

  blocks_left : length (blocks_to e file) ≡ length p.text + length (joined (blocks_from (at / 94) number closed p.rest))
  blocks_left = ap length p.all ∙ length-append p.text _

  as_long : length after ≡ length before
  as_long = kept p.wrote (omega (arith, p.wrote.next, p.room, blocks_left))

  pub start_room : at ≤ length after
  start_room = omega (arith, as_long, p.wrote.next, p.room, blocks_left)

  pub closed_below : Below (10 ^ 18) closed
  closed_below = below_more _ (omega (arith, p.inside, few_places)) p.below

  -- no index leaves the file or the places
  pub indexes_few : (at ≤ 1880094) × (number ≤ 10000) × (i ≤ 10000)
  indexes_few = (omega (arith, p.bounded, p.inside, few_places), omega (arith, p.few, p.inside, few_places), omega (arith, p.inside, few_places))

  -- one batch further
  module _ (l : i < length places) where
    next : Next file (drop i places) p.rest
    next = next_batch file (drop i places) p.rest (rw length-drop (omega arith)) p.good p.left

    -- its records, as the code finds them
    abbrev own : List (List ℕ)
    own = own_of (chosen file (drop 1 (drop i places)))

    abbrev first : List (List ℕ)
    first = block (number + 1) (record_at file (get_or (drop i places) 0 0)) own

    here_good : BatchesGood (next.batch ∷ next.others)
    here_good = rw next.these at p.good

    own_whole : Sized 94 own
    own_whole = rw next.own (items_sized next.batch.items here_good.1)

    first_length : length (joined first) ≡ (length own + 2) * 94
    first_length = length_block (number + 1) (record_at file (get_or (drop i places) 0 0)) own (rw next.header here_good.0.1) own_whole

    -- what comes after it
    abbrev others : List (List ℕ)
    others = blocks_from (at / 94 + (length own + 2)) (number + 1) (plus closed (tallied zeros own)) next.others

    split : blocks_to e file ≡ p.text ++ joined first ++ joined others
    split =
        p.all
        ∙ ap (λ (x : List ℕ). p.text ++ x)
        (ap (λ (bs : List Batch). joined (blocks_from (at / 94) number closed bs)) next.these
        ∙ first_block (at / 94) number closed next.batch next.others next.header next.own)
        ∙ sym (append_assoc p.text (joined first) (joined others))

    blocks_length : length (blocks_to e file) ≡ length p.text + length (joined first) + length (joined others)
    blocks_length = ap length split ∙ length-append (p.text ++ joined first) (joined others) ∙ omega (arith, length-append p.text (joined first))

    own_inside : i + (length own + 1) ≤ length places
    own_inside = omega (arith, own_fewer (chosen file (drop 1 (drop i places))), length_chosen file (drop 1 (drop i places)), length-drop 1 (drop i places), length-drop i places)

    own_below : Below (length own * 10 ^ 10) (tallied zeros own)
    own_below = below_more _ (omega arith) (tallied_below zeros own own_whole (below_zeros 0))

    -- ---- as the code finds it

    pub batch_asked : ToCopy file (lent places i) (mid_of at (length after - at) after) (length (own_of (chosen file (drop 1 (lent places i)))) + 2) × (0 < length (lent places i))
    batch_asked =
        let a = accepted_facts p.passed.rules file p.passed.accepts in
        let n = length-drop i places in
        rw (rest_of i places) (
          record {
            short = a.short;
            placed = placed_rest file places i (rw p.picked (goes_placed e file (omega (arith, a.long))));
            few = omega (arith, n, few_places);
            room = omega (arith, mid_len at (length after) after (omega arith), as_long, p.wrote.next, p.room, blocks_length, first_length);
          },
          omega (arith, n),
        )

    module _ {part : List ℕ} {n : ℕ} {t : Tally}
        (w : Batched (block (number + 1) (record_at file (get_or (lent places i) 0 0)) (own_of (chosen file (drop 1 (lent places i))))) (own_of (chosen file (drop 1 (lent places i)))) (mid_of at (length after - at) after) part n t) where
      batched : Batched first own (mid_of at (length after - at) after) part n t
      batched = rw (rest_of i places) at w

      pub batch_few : n ≤ 10000
      batch_few = omega (arith, batched.count, own_inside, few_places)

      pub batch_below : Below (10 ^ 18) t
      batch_below = rw batched.tally (below_more _ (omega (arith, own_inside, few_places)) own_below)

      pub batch_done : Progress e file places before (put_mid at (length after - at) after part) (at + (n + 2) * 94) (number + 1) (plus closed t) (i + (n + 1))
      batch_done =
          let k = batched.count in
          let d : (at + (n + 2) * 94) / 94 ≡ at / 94 + (length own + 2) = omega (arith, p.even) in
          record {
            passed = p.passed;
            picked = p.picked;
            room = p.room;
            rest = next.others;
            good = here_good.2;
            left = rw (k, next.own, ← drop-drop (length (item_records next.batch.items) + 1) i places) next.later;
            text = p.text ++ joined first;
            wrote = on p.wrote (joined first) (omega (arith, first_length), ap (put_mid at (length after - at) after) batched.bytes ∙ rest_laid at (joined first) after start_room);
            all = rw (d, batched.tally) split;
            even = omega (arith, p.even);
            bounded = omega (arith, p.bounded);
            few = omega (arith, p.few);
            inside = omega (arith, own_inside);
            below = rw batched.tally (below_more _ (omega arith) (below_plus closed (tallied zeros own) p.below own_below));
          }

  -- no batch is left, and the file control is written
  module _ (l : length places ≤ i) where
    none_left : p.rest ≡ []
    unfolding flat
    none_left = go p.rest (sym p.left ∙ rw (drop_of_length-le places {i = i} l) refl)
      where
        go : (bs : List Batch) → flat bs ≡ [] → bs ≡ []
        go [] h = refl
        go (b ∷ bs) h = absurd (let z : ◌≡◌ {A = ℕ} (suc (length (item_records b.items ++ flat bs))) 0 = ap length h in omega arith)

    ends : blocks_to e file ≡ p.text ++ file_control_of (at / 94 + 1) number closed
    unfolding blocks_from joined
    ends = p.all ∙ rw (none_left, append-nil) refl

    ends_length : length (blocks_to e file) ≡ length p.text + 94
    ends_length = ap length ends ∙ length-append p.text _ ∙ omega (arith, length_file_control (at / 94 + 1) number closed)

    pub end_room : at + 94 ≤ length after
    end_room = omega (arith, as_long, p.wrote.next, p.room, ends_length)

    -- 10,000 records at most, since an extract is never longer than its file
    pub end_few : at / 94 + 1 ≤ 10000
    end_few = omega (arith, blocks_fit e file p.passed, (accepted_facts p.passed.rules file p.passed.accepts).short, ends_length, p.wrote.next, p.even)

    end_done : {control : List ℕ} → control ≡ file_control_of (at / 94 + 1) number closed
        → Wrote 94 (blocks_to e file) before (put_mid at (at + 94 - at) after control) (at + 94)
    end_done {control} c =
        let z = ap length c ∙ length_file_control (at / 94 + 1) number closed in
        rw (ends, ← c) (on p.wrote control (omega (arith, z), part_laid at (at + 94) control after (omega (arith, z))))

-- the whole extract, over the buffer's front
module _ {currency : Currency} {e : ℕ} {file places buffer head rec : List ℕ} (t : ToExtract currency e file places buffer) (h : head ≡ header_for currency e rec) (q : rec ≡ record_at file 0)
    (z : length rec ≡ 94) {out : List ℕ} {at number : ℕ} {closed : Tally} {i : ℕ} (p : Progress e file places (head ++ drop 94 buffer) out at number closed i) (l : length places ≤ i)
    {control : List ℕ} (c : control ≡ file_control_of (at / 94 + 1) number closed) where
  extracted : Wrote 0 (extract currency e file) buffer (put_mid at (at + 94 - at) out control) (at + 94)
  unfolding record_at
  extracted =
      let d = end_done p l c in
      let first = rw q at h in
      rw (header_blocks currency e file t.passed, ← first) (on (headed t h q z) (blocks_to e file) (d.next, d.held))

  pub extract_long : length (put_mid at (at + 94 - at) out control) ≡ length buffer
  extract_long = kept extracted (omega (arith, extracted.next, t.room))

  pub extract_whole : put_mid at (at + 94 - at) out control ≡ over (extract currency e file) buffer
  extract_whole = (whole extracted).1
