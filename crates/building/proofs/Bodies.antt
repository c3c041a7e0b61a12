-- The records of a tray up to the next batch header, numbered and written one after the other.
use Prim.Native.Nat.{ℕ, ◌+◌, ◌-◌, ◌*◌, ◌/◌, ◌^◌, ◌≤◌, ◌<◌}
use mathlib.Core.Bool.{Bool, true, false}
use mathlib.Core.List.{List, ◌∷◌}
use mathlib.Core.Path.{◌≡◌, refl, sym, ap, ◌∙◌}
use native.Mathlib.Omega.{arith}
use borrow.Rule.Slice.PartMut.{mid_of, put_mid, mid_len}
use lib.ListN.{length, take, drop}
use lib.Seq.{length-take-le}
use Rattle.paper.specs.declared.record.Tally.{Tally}
use Rattle.paper.specs.Kinds.{kind_of}
use Rattle.paper.specs.Controls.{zeros}
use Rattle.paper.specs.Writing.{numbered}
use Rattle.paper.proofs.Lists.{Sized, length_numbered}
use Rattle.paper.proofs.Round.{numbering_sized}
use Rattle.controls.specs.Bounds.{Below}
use Rattle.controls.proofs.Bounds.{below_more}
use Rattle.writing.proofs.Laying.{kept}
use Rattle.batches.specs.Blocks.{own_at, own_of, with_record, Batched}
use Rattle.batches.proofs.Own.{own_inside}
use Rattle.batches.proofs.Copying.{sized_drop, sized_first, Copied, none_copied, counted_below, room_left, one_copied, all_copied}
use Rattle.batches.proofs.Parts.{part_back}
use Rattle.tray.specs.Trays.{body_at, bodies}
use Rattle.building.specs.declared.numbering.Numbering.{Numbering}
use Rattle.building.specs.Numbering.{after, through, last_number, numbered_from, Few, ToNumber}
use Rattle.tray.proofs.Places.{bodies_at, length_bodies, bodies_sized, kinds_of}
use Rattle.building.proofs.Numbers.{through_one, through_grows, drop_numbered, length_numbering, numbered_at, own_numbered}

-- after i records of a tray: the numbering, the tally and the buffer
pub record Numbered (tray : List ℕ) (first : Numbering) (before : List ℕ) (i : ℕ) (n : Numbering) (t : Tally) (later : List ℕ) : Type 0 where
  pub copied : Copied (numbered_from first (bodies tray)) before i t later
  pub numbering : n ≡ through first (take i (bodies tray))

pub none_numbered : (tray : List ℕ) (first : Numbering) (before : List ℕ) → Numbered tray first before 0 first zeros before
unfolding through
none_numbered tray first before = record { copied = none_copied (numbered_from first (bodies tray)) before; numbering = refl }

module _ {tray before later : List ℕ} {first n : Numbering} {i : ℕ} {t : Tally} (asked : ToNumber tray (10 ^ 10) first before (length (own_of (numbered_from first (bodies tray)))))
    (c : Numbered tray first before i n t later) where
  rs : List (List ℕ)
  rs = numbered_from first (bodies tray)

  whole_bodies : Sized 94 (bodies tray)
  whole_bodies = bodies_sized tray asked.sound.whole

  sized : Sized 94 rs
  unfolding rs
  sized = numbering_sized (bodies tray) first.batches first.individuals whole_bodies

  inside : i ≤ length tray / 96
  inside = omega (arith, c.copied.inside, length_numbering first (bodies tray), length_bodies tray)

  -- a tray has at most 10,000 records
  pub places_few : i ≤ 10000
  places_few = omega (arith, inside, asked.short)

  -- one number a record at the most
  pub numbering_few : Few (10 ^ 18) n
  numbering_few =
      let g = through_grows first (take i (bodies tray)) in
      let l = length-take-le i (bodies tray) (omega (arith, inside, length_bodies tray)) in
      rw c.numbering (omega (arith, g.0, l, asked.few, places_few), omega (arith, g.1, l, asked.few, places_few))

  pub tally_below : Below (10 ^ 18) t
  unfolding rs
  tally_below = below_more _ (omega (arith, places_few)) (counted_below sized c.copied)

  own_same : own_at (drop i rs) ≡ own_at (drop i (bodies tray))
  unfolding rs
  own_same =
      ap own_at (drop_numbered first (bodies tray) i) ∙ own_numbered (through first (take i (bodies tray))) (drop i (bodies tray)) (sized_drop i (bodies tray) whole_bodies)

  -- there is one more
  module _ {own : Bool} (a : own ≡ own_at (drop i (bodies tray))) (h : own ≡ true) where
    r : List ℕ
    r = body_at tray i

    number : ℕ
    number = last_number (kind_of (body_at tray i)) (after (kind_of (body_at tray i)) n)

    l : i < length tray / 96
    l = omega (arith, own_inside (bodies tray) i (sym a ∙ h), length_bodies tray)

    long : length r ≡ 94
    unfolding r
    long = sized_first i (bodies tray) (bodies_at tray i l) whole_bodies

    here : drop i rs ≡ numbered number r ∷ drop (i + 1) rs
    unfolding rs r number
    here = rw c.numbering (numbered_at first (bodies tray) i (body_at tray i) (bodies_at tray i l) (kinds_of tray i (omega (arith, l)) asked.sound))

    pub on_tray_lem : i * 96 + 96 ≤ length tray
    on_tray_lem = omega (arith, l)

    pub room_for : i * 94 + 94 ≤ length later
    unfolding rs
    room_for = room_left sized c.copied here (own_same ∙ sym a ∙ h) asked.room

    pub room_long : length (mid_of (i * 94) (i * 94 + 94 - i * 94) later) ≡ 94
    room_long = mid_len (i * 94) (i * 94 + 94) later room_for ∙ omega arith

    module _ {body part : List ℕ} {m : Numbering} (q : body ≡ body_at tray i) (e : m ≡ after (kind_of body) n) (b : part ≡ numbered (last_number (kind_of body) m) body) where
      new : List ℕ
      new = put_mid (i * 94) (i * 94 + 94 - i * 94) later part

      next : m ≡ after (kind_of (body_at tray i)) n
      next = rw q at e

      under : part ≡ numbered number r
      unfolding r number
      under = rw (q, next) at b

      read_back : mid_of (i * 94) (i * 94 + 94 - i * 94) new ≡ part
      unfolding new
      read_back = part_back (i * 94) (i * 94 + 94) part later (omega (arith, room_for)) (omega (arith, ap length under, length_numbered number r (omega (arith, long))))

      pub one_numbered : {u : Tally} → let new = put_mid (i * 94) (i * 94 + 94 - i * 94) later part in
          u ≡ with_record (kind_of (mid_of (i * 94) (i * 94 + 94 - i * 94) new)) t (mid_of (i * 94) (i * 94 + 94 - i * 94) new) → Numbered tray first before (i + 1) m u new
      unfolding rs r number new
      one_numbered f = record {
        copied = one_copied sized c.copied here (own_same ∙ sym a ∙ h) (rw (read_back, under) at f) (rw under);
        numbering = next ∙ rw c.numbering (sym (through_one first (bodies tray) i (bodies_at tray i l)));
      }

  -- there is no more
  module _ {own : Bool} (a : own ≡ own_at (drop i (bodies tray))) (h : own ≡ false) where
    pub all_batched : Batched (own_of (numbered_from first (bodies tray))) (own_of (numbered_from first (bodies tray))) before later i t
    unfolding rs
    all_batched = all_copied sized c.copied (own_same ∙ sym a ∙ h)

    pub still_long : length later ≡ length before
    still_long = kept c.copied.wrote (omega (arith, all_batched.count, asked.room))
