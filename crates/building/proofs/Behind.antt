-- A built file as its header and what comes behind it.
use Prim.Native.Nat.{ℕ, ◌+◌, ◌-◌, ◌*◌, ◌/◌, ◌≤◌, ◌^◌}
use mathlib.Core.List.{List, ◌++◌}
use mathlib.Core.Path.{◌≡◌, refl, ap, subst, ◌∙◌}
use native.Mathlib.Omega.{arith}
use borrow.Rule.Slice.PartMut.{mid_of, put_mid, mid_len}
use lib.ListN.{length, drop, length-append}
use Rattle.paper.specs.declared.record.Kind.TheVariants.{FileHeader}
use Rattle.paper.specs.declared.record.Tally.{Tally}
use Rattle.paper.specs.Reading.{nothing_counted, counted}
use Rattle.paper.specs.Writing.{joined, with_controls, closing}
use Rattle.paper.specs.Trays.{build}
use Rattle.paper.proofs.Closing.{length_closing}
use Rattle.paper.proofs.Lists.{joined_append, length_joined}
use Rattle.writing.proofs.Laying.{Wrote, kept}
use Rattle.batches.specs.Blocks.{own_of, Batched}
use Rattle.batches.proofs.Own.{own_sized, own_fewer}
use Rattle.batches.proofs.Parts.{front_wrote, own_wrote}
use Rattle.tray.specs.Trays.{bodies, Sound}
use Rattle.building.specs.declared.numbering.Numbering.{Numbering}
use Rattle.building.specs.Numbering.{none, numbered_from, ToNumber, ToBuild}
use Rattle.tray.proofs.Places.{length_bodies}
use Rattle.building.proofs.Closing.{Plain, plain_sized, remaining, Begun, begins}
use Rattle.building.proofs.Numbers.{length_numbering}
use Rattle.building.proofs.Runs.{plain_numbering, plain_bodies}

-- the records of a tray under their numbers, and those before the first batch
abbrev pub records : List ℕ → List (List ℕ)
records tray = numbered_from none (bodies tray)

abbrev pub loose : List ℕ → List (List ℕ)
loose tray = own_of (records tray)

-- what comes behind the header
abbrev pub behind : List ℕ → List ℕ → List ℕ
behind header tray = joined (with_controls (counted FileHeader nothing_counted header) (records tray))

pub header_behind : (header tray : List ℕ) → build header tray ≡ header ++ behind header tray
unfolding build closing joined
header_behind header tray = refl

pub records_plain : (tray : List ℕ) (n : Numbering) → Sound tray → Plain (numbered_from n (bodies tray))
records_plain tray n s = plain_numbering n.batches n.individuals (bodies tray) (plain_bodies tray s)

pub length_records : (tray : List ℕ) (n : Numbering) → length (numbered_from n (bodies tray)) ≡ length tray / 96
length_records tray n = length_numbering n (bodies tray) ∙ length_bodies tray

module _ {header tray buffer : List ℕ} (f : ToBuild header tray buffer) where
  pub behind_length : length (build header tray) ≡ 94 + length (behind header tray)
  behind_length = ap length (header_behind header tray) ∙ length-append header (behind header tray) ∙ omega (arith, f.long)

  pub tray_few : length tray ≤ 960000
  unfolding build
  tray_few = omega (arith, f.short, length_closing header (records tray) f.long (plain_sized (records tray) (records_plain tray none f.sound)), length_records tray none)

  -- ---- what stands before the first batch

  pub opening : Begun header (records tray)
  opening = begins header (records tray) (records_plain tray none f.sound)

  pub loose_length : length (joined (loose tray)) ≡ length (loose tray) * 94
  loose_length = length_joined 94 (loose tray) (own_sized (records tray) (plain_sized (records tray) (records_plain tray none f.sound)))

  pub loose_inside : length (loose tray) * 96 ≤ length tray
  loose_inside = omega (arith, own_fewer (records tray), length_records tray none)

  pub loose_room : (length (own_of (numbered_from none (bodies tray))) + 1) * 94 ≤ length buffer
  loose_room =
      let r : List (List ℕ) = remaining opening.counts (drop (length (loose tray)) (records tray)) in
      let e = ap joined opening.all ∙ joined_append (loose tray) r in
      omega (arith, ap length e, length-append (joined (loose tray)) (joined r), loose_length, behind_length, f.room)

  -- written behind the header
  module _ {head : List ℕ} (e : head ≡ header) where
    header_wrote : Wrote 0 head buffer (head ++ drop 94 buffer) 94
    header_wrote = front_wrote buffer head (ap length e ∙ f.long)

    headed_long : length (head ++ drop 94 buffer) ≡ length buffer
    headed_long = kept header_wrote (omega (arith, loose_room))

    pub headed_room : 94 ≤ length (head ++ drop 94 buffer)
    headed_room = omega (arith, headed_long, loose_room)

    pub loose_asked : ToNumber tray (10 ^ 10) none (mid_of 94 (length (head ++ drop 94 buffer) - 94) (head ++ drop 94 buffer)) (length (own_of (numbered_from none (bodies tray))))
    loose_asked = record {
      sound = f.sound;
      short = tray_few;
      few = (omega arith, omega arith);
      room = omega (arith, mid_len 94 (length (head ++ drop 94 buffer)) (head ++ drop 94 buffer) (omega arith), headed_long, loose_room);
    }

    module _ {part : List ℕ} {r : ℕ} {t : Tally}
        (o : Batched (own_of (numbered_from none (bodies tray))) (own_of (numbered_from none (bodies tray))) (mid_of 94 (length (head ++ drop 94 buffer) - 94) (head ++ drop 94 buffer)) part r t) where
      abbrev now : List ℕ
      now = put_mid 94 (length (head ++ drop 94 buffer) - 94) (head ++ drop 94 buffer) part

      pub loose_wrote : Wrote 0 (header ++ joined (loose tray)) buffer (put_mid 94 (length (head ++ drop 94 buffer) - 94) (head ++ drop 94 buffer) part) ((length (loose tray) + 1) * 94)
      loose_wrote =
          let sized = own_sized (records tray) (plain_sized (records tray) (records_plain tray none f.sound)) in
          subst (λ (x : List ℕ). Wrote 0 (x ++ joined (loose tray)) buffer now ((length (loose tray) + 1) * 94)) e
          (own_wrote buffer head (loose tray) part (length (loose tray)) (ap length e ∙ f.long) sized loose_room o.bytes refl)

      pub loose_few : r ≤ 10000
      loose_few = omega (arith, o.count, loose_inside, tray_few)

      pub still_fits : ToBuild header tray (put_mid 94 (length (head ++ drop 94 buffer) - 94) (head ++ drop 94 buffer) part)
      still_fits = record { long = f.long; sound = f.sound; short = f.short; room = omega (arith, f.room, kept loose_wrote loose_room) }
