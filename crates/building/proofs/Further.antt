-- One batch further.
use Prim.Native.Nat.{ℕ, suc, ◌+◌, ◌-◌, ◌*◌, ◌^◌, ◌≤◌, ◌<◌}
use mathlib.Core.List.{List, ◌++◌, append_assoc}
use mathlib.Core.Path.{◌≡◌, refl, sym, ap, ◌∙◌}
use native.Mathlib.Numerals.{add-one}
use native.Mathlib.Omega.{arith}
use borrow.Rule.Slice.PartMut.{mid_of, put_mid, mid_len}
use lib.ListN.{length, take, drop, length-append, length-take, length-drop}
use lib.Seq.{drop-drop}
use Rattle.paper.specs.declared.record.Kind.TheVariants.{BatchHeader}
use Rattle.paper.specs.declared.record.Tally.{Tally}
use Rattle.paper.specs.Kinds.{kind_of}
use Rattle.paper.specs.Controls.{zeros, plus}
use Rattle.paper.specs.Writing.{joined, numbered}
use Rattle.paper.proofs.Lists.{Sized, joined_append}
use Rattle.controls.specs.Bounds.{Below}
use Rattle.controls.proofs.Bounds.{below_more, below_plus, below_zeros}
use Rattle.writing.proofs.Laying.{on, rest_laid}
use Rattle.batches.specs.Blocks.{own_of, tallied, block, Batched}
use Rattle.batches.proofs.Own.{own_sized, own_fewer, tallied_below}
use Rattle.batches.proofs.Blocks.{length_block}
use Rattle.batches.proofs.Parts.{rest_of}
use Rattle.tray.specs.Trays.{body_at, bodies}
use Rattle.building.specs.declared.numbering.Numbering.{Numbering}
use Rattle.building.specs.Numbering.{after, through, numbered_from, ToNumber}
use Rattle.building.proofs.Closing.{Plain, plain_sized, remaining, Closed, closes}
use Rattle.building.proofs.Numbers.{through_grows}
use Rattle.building.proofs.Runs.{plain_numbering, First, first_of}
use Rattle.building.proofs.Behind.{loose, length_records, behind_length, tray_few}
use Rattle.building.proofs.Progress.{left, left_of, Progress, sound_left, few_left, length_left, as_long, start_room}

-- the tray from an index to its end, as it is lent
abbrev pub lent : List ℕ → ℕ → List ℕ
lent tray from = take (length tray - from) (drop from tray)

-- the records of a batch behind its header
abbrev pub own : List ℕ → Numbering → List (List ℕ)
own tray n = own_of (numbered_from (after BatchHeader n) (drop 1 (bodies tray)))

module _ {header tray before out : List ℕ} {from at : ℕ} {n : Numbering} {t : Tally}
    (p : Progress header tray before out from at n t) (l : from < length tray) where
  long_left : 96 ≤ length (drop from tray)
  long_left = rw length-drop (omega (arith, p.even, p.fits.sound.whole))

  first : First (drop from tray) n
  first = first_of (drop from tray) n (sound_left p) long_left p.heads

  abbrev tail : List (List ℕ)
  tail = numbered_from (after BatchHeader n) (drop 1 (bodies (drop from tray)))

  abbrev batch : List (List ℕ)
  batch = block (n.batches + 1) (body_at (drop from tray) 0) (own_of tail)

  tail_plain : Plain tail
  tail_plain = plain_numbering (after BatchHeader n).batches (after BatchHeader n).individuals (drop 1 (bodies (drop from tray))) first.plain

  own_whole : Sized 94 (own_of tail)
  own_whole = own_sized tail (plain_sized tail tail_plain)

  batch_length : length (joined batch) ≡ (length (own_of tail) + 2) * 94
  batch_length = length_block (n.batches + 1) (body_at (drop from tray) 0) (own_of tail) first.long own_whole

  closed_now : Closed p.counts (numbered (n.batches + 1) (body_at (drop from tray) 0)) tail
  closed_now = closes p.counts (numbered (n.batches + 1) (body_at (drop from tray) 0)) tail tail_plain

  -- what comes after it
  abbrev others : List (List ℕ)
  others = remaining closed_now.counts (drop (length (own_of tail)) tail)

  parts : joined (remaining p.counts (left tray from n)) ≡ joined batch ++ joined others
  unfolding block
  parts = ap (λ (rs : List (List ℕ)). joined (remaining p.counts rs)) first.all ∙ ap joined closed_now.all ∙ joined_append batch others

  parts_length : length (joined (remaining p.counts (left tray from n))) ≡ (length (own_of tail) + 2) * 94 + length (joined others)
  parts_length = ap length parts ∙ length-append (joined batch) (joined others) ∙ omega (arith, batch_length)

  own_inside : from + (length (own_of tail) + 1) * 96 ≤ length tray
  own_inside =
      let e = ap length first.all in
      omega (arith, own_fewer tail, length_records (drop from tray) n, length-drop from tray, p.fits.sound.whole, p.even)

  own_below : Below (length (own_of tail) * 10 ^ 10) (tallied zeros (own_of tail))
  own_below = below_more _ (omega arith) (tallied_below zeros (own_of tail) own_whole (below_zeros 0))

  next_left : {r : ℕ} {m : Numbering} → r ≡ length (own_of tail) → m ≡ through n (take (r + 1) (bodies (drop from tray)))
      → left tray (from + (r + 1) * 96) m ≡ drop (length (own_of tail)) tail
  next_left {r} {m} k e =
      rw (← drop-drop ((r + 1) * 96) from tray)
      (left_of (drop from tray) (r + 1) n (omega (arith, own_inside, length-drop from tray)) e ∙ ap (drop (r + 1)) first.all ∙ rw (add-one r, k) refl)

  -- ---- as the code finds it

  pub batch_asked : ToNumber (lent tray from) (10 ^ 9) n (mid_of at (length out - at) out) (length (own (lent tray from) n) + 2)
      × ((96 ≤ length (lent tray from)) × (kind_of (body_at (lent tray from) 0) ≡ BatchHeader))
  batch_asked =
      rw (rest_of from tray) (
        record {
          sound = sound_left p;
          short = omega (arith, length-drop from tray, tray_few p.fits);
          few = few_left p;
          room = omega (arith, mid_len at (length out) out (omega arith), as_long p, p.wrote.next, length_left p, parts_length, behind_length p.fits, p.fits.room);
        },
        (long_left, first.kind),
      )

  module _ {part : List ℕ} {r : ℕ} {u : Tally}
      (w : Batched (block (n.batches + 1) (body_at (lent tray from) 0) (own (lent tray from) n)) (own (lent tray from) n) (mid_of at (length out - at) out) part r u) where
    batched : Batched batch (own_of tail) (mid_of at (length out - at) out) part r u
    batched = rw (rest_of from tray) at w

    pub batch_few : r ≤ 10000
    batch_few = omega (arith, batched.count, own_inside, tray_few p.fits)

    pub batch_below : Below (10 ^ 18) u
    batch_below = rw batched.tally (below_more _ (omega (arith, own_inside, tray_few p.fits)) own_below)

    pub batch_done : {m : Numbering} → m ≡ through n (take (r + 1) (bodies (lent tray from)))
        → Progress header tray before (put_mid at (length out - at) out part) (from + (r + 1) * 96) (at + (r + 2) * 94) m (plus t u)
    batch_done {m} e =
        let d = closed_now in
        let k = batched.count in
        let through_all : m ≡ through n (take (r + 1) (bodies (drop from tray))) = rw (rest_of from tray) at e in
        let few = through_grows n (take (r + 1) (bodies (drop from tray))) in
        let z = length-take (r + 1) (bodies (drop from tray)) in
        let next = next_left k through_all in
        record {
          fits = p.fits;
          done = p.done + (r + 1);
          even = omega (arith, p.even);
          inside = omega (arith, k, own_inside);
          few = rw through_all (omega (arith, few.0, z, p.few.0), omega (arith, few.1, z, p.few.1));
          below = rw batched.tally (below_more _ (omega (arith, k)) (below_plus t (tallied zeros (own_of tail)) p.below own_below));
          counts = d.counts;
          place = omega (arith, d.place, p.place, k);
          batches = d.batches ∙ ap suc p.batches ∙ rw (through_all, k) (sym first.batches);
          closed = d.closed ∙ rw (batched.tally, p.closed) refl;
          text = p.text ++ joined batch;
          wrote = on p.wrote (joined batch) (omega (arith, batch_length, k), ap (put_mid at (length out - at) out) batched.bytes ∙ rest_laid at (joined batch) out (start_room p));
          heads = rw next d.heads;
          all = p.all ∙ ap (λ (x : List ℕ). joined (loose tray) ++ p.text ++ x) parts ∙ rw next (simp append_assoc);
        }
