-- A built file written batch by batch, behind its header and what stands before the first batch.
use Prim.Native.Nat.{ℕ, ◌+◌, ◌-◌, ◌*◌, ◌^◌, ◌≤◌}
use mathlib.Core.List.{List, [], ◌++◌, append-nil}
use mathlib.Core.Path.{◌≡◌, refl, sym, ap, ◌∙◌}
use native.Mathlib.Omega.{arith}
use borrow.Rule.Slice.PartMut.{mid_of, put_mid}
use lib.ListN.{length, take, drop, length-append, length-take}
use Rattle.paper.specs.declared.record.Tally.{Tally}
use Rattle.paper.specs.Controls.{zeros}
use Rattle.paper.specs.Reading.{Reckoning}
use Rattle.paper.specs.Writing.{joined}
use Rattle.paper.proofs.Lists.{joined_append}
use Rattle.controls.specs.Bounds.{Below}
use Rattle.controls.proofs.Bounds.{below_more, below_zeros}
use Rattle.writing.proofs.Laying.{Wrote, start, kept}
use Rattle.batches.specs.Blocks.{own_of, Batched}
use Rattle.tray.specs.Trays.{bodies, Sound}
use Rattle.building.specs.declared.numbering.Numbering.{Numbering}
use Rattle.building.specs.Numbering.{none, through, numbered_from, Few, ToBuild}
use Rattle.tray.proofs.Places.{bodies_rest, sound_rest}
use Rattle.building.proofs.Closing.{Heads, remaining}
use Rattle.building.proofs.Numbers.{drop_numbered, through_grows}
use Rattle.building.proofs.Runs.{own_batches, plain_bodies}
use Rattle.building.proofs.Behind.{loose, behind, behind_length, tray_few, opening, loose_length, loose_inside, loose_room, still_fits}

-- the records from an index of the tray on, numbered after those before them
abbrev pub left : List ℕ → ℕ → Numbering → List (List ℕ)
left tray from n = numbered_from n (bodies (drop from tray))

pub left_of : (tray : List ℕ) (i : ℕ) (n : Numbering) {m : Numbering} → i * 96 ≤ length tray → m ≡ through n (take i (bodies tray))
    → left tray (i * 96) m ≡ drop i (numbered_from n (bodies tray))
left_of tray i n l e = rw (e, bodies_rest tray i l) (sym (drop_numbered n (bodies tray) i))

pub record Progress (header tray before out : List ℕ) (from at : ℕ) (n : Numbering) (t : Tally) : Type 0 where
  pub fits : ToBuild header tray before
  -- records of the tray
  pub done : ℕ
  pub even : from ≡ done * 96
  pub inside : from ≤ length tray
  pub few : (n.batches ≤ done) × (n.individuals ≤ done)
  pub below : Below (done * 10 ^ 10) t
  -- what the controls count, all batches so far closed
  pub counts : Reckoning
  pub place : at ≡ counts.place * 94
  pub batches : counts.batches ≡ n.batches
  pub closed : counts.closed ≡ t
  -- what is written, and what is left
  pub text : List ℕ
  pub wrote : Wrote ((length (loose tray) + 1) * 94) text before out at
  pub heads : Heads (left tray from n)
  pub all : behind header tray ≡ joined (loose tray) ++ text ++ joined (remaining counts (left tray from n))

begun_from : {header tray before : List ℕ} → ToBuild header tray before → {r : ℕ} {n : Numbering} → r ≡ length (loose tray)
    → n ≡ through none (take r (bodies tray)) → Progress header tray before before (r * 96) ((r + 1) * 94) n zeros
begun_from {header} {tray} {before} f {r} {n} k e =
    let b = opening f in
    let i : r * 96 ≤ length tray = omega (arith, loose_inside f) in
    let m = through_grows none (take r (bodies tray)) in
    let l = left_of tray r none i e in
    let z = length-take r (bodies tray) in
    record {
      fits = f;
      done = r;
      even = refl;
      inside = i;
      few = rw e (omega (arith, m.0, z), omega (arith, m.1, z));
      below = below_zeros (r * 10 ^ 10);
      counts = b.counts;
      place = omega (arith, b.place);
      batches = b.batches ∙ rw (e, k) (sym (own_batches none (bodies tray) (plain_bodies tray f.sound)));
      closed = b.closed;
      text = [];
      wrote = rw k (start (loose_room f));
      heads = rw (l, k) b.heads;
      all = rw (l, k, append-nil) (ap joined b.all ∙ joined_append (loose tray) _);
    }

pub begun : {header tray buffer head part : List ℕ} {r : ℕ} {t : Tally} {n : Numbering} → ToBuild header tray buffer → head ≡ header
    → Batched (own_of (numbered_from none (bodies tray))) (own_of (numbered_from none (bodies tray))) (mid_of 94 (length (head ++ drop 94 buffer) - 94) (head ++ drop 94 buffer)) part r t
    → n ≡ through none (take r (bodies tray))
    → let out = put_mid 94 (length (head ++ drop 94 buffer) - 94) (head ++ drop 94 buffer) part in Progress header tray out out (r * 96) ((r + 1) * 94) n zeros
begun f h o e = begun_from (still_fits f h o) o.count e

module _ {header tray before out : List ℕ} {from at : ℕ} {n : Numbering} {t : Tally} (p : Progress header tray before out from at n t) where
  pub sound_left : Sound (drop from tray)
  sound_left = rw p.even (sound_rest tray p.done (omega (arith, p.even, p.inside)) p.fits.sound)

  pub few_left : Few (10 ^ 9) n
  few_left = (omega (arith, p.even, p.inside, p.few.0, tray_few p.fits), omega (arith, p.even, p.inside, p.few.1, tray_few p.fits))

  pub length_left : length (behind header tray) ≡ length (loose tray) * 94 + length p.text + length (joined (remaining p.counts (left tray from n)))
  length_left = ap length p.all ∙ length-append (joined (loose tray) ++ p.text) _ ∙ omega (arith, length-append (joined (loose tray)) p.text, loose_length p.fits)

  pub as_long : length out ≡ length before
  as_long = kept p.wrote (omega (arith, p.wrote.next, length_left, behind_length p.fits, p.fits.room))

  pub start_room : at ≤ length out
  start_room = omega (arith, as_long, p.wrote.next, length_left, behind_length p.fits, p.fits.room)

  pub indexes_few : (at ≤ 940000) × (from ≤ 960000)
  indexes_few = (omega (arith, p.wrote.next, length_left, behind_length p.fits, p.fits.short), omega (arith, p.inside, tray_few p.fits))

  pub closed_below : Below (10 ^ 18) t
  closed_below = below_more _ (omega (arith, p.even, p.inside, tray_few p.fits)) p.below
