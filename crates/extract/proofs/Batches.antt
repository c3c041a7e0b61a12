-- A batch of an extract, record by record, as the code finds it.
use Prim.Native.Nat.{ℕ, ◌+◌, ◌-◌, ◌*◌, ◌^◌, ◌≤◌, ◌<◌}
use mathlib.Core.Bool.{Bool, true, false}
use mathlib.Core.List.{List, ◌++◌}
use mathlib.Core.Path.{◌≡◌, sym, ◌∙◌}
use native.Mathlib.Omega.{arith}
use borrow.Rule.Slice.PartMut.{mid_of, put_mid}
use lib.ListN.{length, get_or, take, drop, length-drop}
use lib.Seq.{get_or-drop}
use Rattle.paper.specs.declared.record.Tally.{Tally}
use Rattle.paper.specs.Kinds.{kind_of}
use Rattle.paper.specs.Writing.{numbered, batch_control_of}
use Rattle.paper.proofs.Lists.{Sized}
use Rattle.controls.specs.Bounds.{Below}
use Rattle.paper.specs.Reading.{record_at}
use Rattle.controls.proofs.Bounds.{below_more}
use Rattle.picking.specs.Places.{Placed, chosen}
use Rattle.batches.specs.Blocks.{own_at, own_of, with_record, block, Batched}
use Rattle.batches.proofs.Own.{own_sized, own_inside}
use Rattle.batches.proofs.Copying.{Copied, counted_below, room_left, one_copied, all_copied}
use Rattle.batches.proofs.Parts.{rest_of, own_room, batch_laid}
use Rattle.extract.specs.Blocks.{ToCopy}
use Rattle.picking.proofs.Chosen.{chosen_sized, length_chosen, at_index}

pub placed_rest : (file places : List ℕ) (k : ℕ) → Placed file places → Placed file (drop k places)
placed_rest file places k placed i = rw (get_or-drop k places i 0) (placed (k + i))

-- ---- its records

module _ {file places before after : List ℕ} {i : ℕ} {t : Tally} (asked : ToCopy file places before (length (own_of (chosen file places)))) (c : Copied (chosen file places) before i t after) where
  sized : Sized 94 (chosen file places)
  sized = chosen_sized file places asked.placed

  places_few : i ≤ 10000
  places_few = omega (arith, c.inside, length_chosen file places, asked.few)

  pub tally_below : Below (10 ^ 18) t
  tally_below = below_more _ (omega (arith, places_few)) (counted_below sized c)

  -- there is one more
  module _ {own : Bool} (a : own ≡ own_at (drop i (chosen file places))) (h : own ≡ true) where
    inside : i < length places
    inside = omega (arith, own_inside (chosen file places) i (sym a ∙ h), length_chosen file places)

    pub room_for : i * 94 + 94 ≤ length after
    room_for = room_left sized c (at_index file places i inside) (sym a ∙ h) asked.room

    pub one_done : {rec part : List ℕ} {u : Tally} → rec ≡ record_at file (get_or places i 0) → part ≡ rec → u ≡ with_record (kind_of rec) t rec
        → Copied (chosen file places) before (i + 1) u (put_mid (i * 94) (i * 94 + 94 - i * 94) after part)
    one_done q b f = one_copied sized c (at_index file places i inside) (sym a ∙ h) (rw q at f) (rw (b, q))

  -- there is no more
  module _ {own : Bool} (a : own ≡ own_at (drop i (chosen file places))) (h : own ≡ false) where
    pub all_batched : Batched (own_of (chosen file places)) (own_of (chosen file places)) before after i t
    all_batched = all_copied sized c (sym a ∙ h)

-- ---- the whole batch

-- its header, as it was written
module _ (number : ℕ) {file places before head rec : List ℕ} (asked : ToCopy file places before (length (own_of (chosen file (drop 1 places))) + 2)) (q : rec ≡ record_at file (get_or places 0 0))
    (long : length rec ≡ 94) (h : head ≡ numbered number rec) where
  pub rest_asked : ToCopy file (take (length places - 1) (drop 1 places)) (mid_of 94 (length (head ++ drop 94 before) - 94) (head ++ drop 94 before))
      (length (own_of (chosen file (take (length places - 1) (drop 1 places)))))
  rest_asked =
      rw (rest_of 1 places)
      (record {
        short = asked.short;
        placed = placed_rest file places 1 asked.placed;
        few = omega (arith, asked.few, length-drop 1 places);
        room = omega (arith, own_room before number rec long h (omega (arith, asked.room)), asked.room);
      })

  -- its records behind it
  module _ {copied : List ℕ} {n : ℕ} {t : Tally}
      (o : Batched (own_of (chosen file (take (length places - 1) (drop 1 places)))) (own_of (chosen file (take (length places - 1) (drop 1 places)))) (mid_of 94 (length (head ++ drop 94 before) - 94) (head ++ drop 94 before)) copied n t) where
    own : Batched (own_of (chosen file (drop 1 places))) (own_of (chosen file (drop 1 places))) (mid_of 94 (length (head ++ drop 94 before) - 94) (head ++ drop 94 before)) copied n t
    own = rw (rest_of 1 places) at o

    rest_sized : Sized 94 (own_of (chosen file (drop 1 places)))
    rest_sized = own_sized (chosen file (drop 1 places)) (chosen_sized file (drop 1 places) (placed_rest file places 1 asked.placed))

    pub batch_whole : {control : List ℕ} → control ≡ batch_control_of (numbered number rec) t
        → Batched (block number (record_at file (get_or places 0 0)) (own_of (chosen file (drop 1 places)))) (own_of (chosen file (drop 1 places))) before
        (put_mid ((n + 1) * 94) ((n + 1) * 94 + 94 - (n + 1) * 94) (put_mid 94 (length (head ++ drop 94 before) - 94) (head ++ drop 94 before) copied) control) n t
    batch_whole c =
        let laid = batch_laid before number rec long h rest_sized asked.room own c in
        rw (← q) laid
