-- No batch is left, and the file control is written.
use Prim.Native.Nat.{ℕ, ◌+◌, ◌-◌, ◌*◌, ◌/◌, ◌≤◌}
use mathlib.Core.List.{List, [], ◌++◌, append-nil, append_assoc}
use mathlib.Core.Path.{◌≡◌, ap, ◌∙◌}
use native.Mathlib.Omega.{arith}
use borrow.Rule.Slice.PartMut.{mid_of, put_mid}
use lib.ListN.{length, drop, length-drop}
use Rattle.paper.specs.declared.record.Tally.{Tally}
use Rattle.paper.specs.Writing.{joined, file_control_of}
use Rattle.paper.specs.Trays.{numbering, build}
use Rattle.paper.specs.Buffers.{over}
use Rattle.paper.proofs.Closing.{length_file_control}
use Rattle.writing.proofs.Laying.{Wrote, on, whole, kept, part_laid}
use Rattle.batches.specs.Blocks.{own_of, Batched}
use Rattle.tray.specs.Trays.{bodies}
use Rattle.building.specs.declared.numbering.Numbering.{Numbering}
use Rattle.building.specs.Numbering.{none, numbered_from, ToBuild}
use Rattle.tray.proofs.Places.{bodies_none}
use Rattle.building.proofs.Closing.{remaining}
use Rattle.building.proofs.Behind.{loose, header_behind, behind_length, loose_wrote}
use Rattle.building.proofs.Progress.{left, Progress, length_left, as_long}

module _ {header tray before out : List ℕ} {from at : ℕ} {n : Numbering} {t : Tally}
    (p : Progress header tray before out from at n t) (l : length tray ≤ from) where
  none_left : bodies (drop from tray) ≡ []
  none_left = bodies_none (drop from tray) 0 (rw length-drop (omega arith))

  last : joined (remaining p.counts (left tray from n)) ≡ file_control_of (at / 94 + 1) n.batches t
  unfolding remaining joined numbering
  last =
      let e : p.counts.place ≡ at / 94 = omega (arith, p.place) in
      ap (λ (bs : List (List ℕ)). joined (remaining p.counts (numbered_from n bs))) none_left
      ∙ append-nil (file_control_of (p.counts.place + 1) p.counts.batches p.counts.closed)
      ∙ (λ i. file_control_of (e i + 1) (p.batches i) (p.closed i))

  last_length : length (joined (remaining p.counts (left tray from n))) ≡ 94
  last_length = ap length last ∙ length_file_control (at / 94 + 1) n.batches t

  pub end_room : at + 94 ≤ length out
  end_room = omega (arith, as_long p, p.wrote.next, length_left p, last_length, behind_length p.fits, p.fits.room)

  pub end_few : at / 94 + 1 ≤ 10000
  end_few = omega (arith, p.wrote.next, length_left p, last_length, behind_length p.fits, p.fits.short)

  end_done : {buffer control : List ℕ} → Wrote 0 (header ++ joined (loose tray)) buffer before ((length (loose tray) + 1) * 94)
      → control ≡ file_control_of (at / 94 + 1) n.batches t → Wrote 0 (build header tray) buffer (put_mid at (at + 94 - at) out control) (at + 94)
  end_done {buffer} {control} w c =
      let z = ap length c ∙ length_file_control (at / 94 + 1) n.batches t in
      let o = on {n = at + 94} p.wrote control (omega (arith, z), part_laid at (at + 94) control out (omega (arith, z))) in
      let e : header ++ joined (loose tray) ++ (p.text ++ control) ≡ build header tray =
      rw (header_behind header tray, p.all, last, c) (simp append_assoc) in
      rw e at (on w (p.text ++ control) (o.next, o.held))

-- the whole file, over the buffer's front
module _ {header tray buffer head part out : List ℕ} {r from at : ℕ} {n : Numbering} {t u : Tally} (f : ToBuild header tray buffer) (h : head ≡ header)
    (o : Batched (own_of (numbered_from none (bodies tray))) (own_of (numbered_from none (bodies tray))) (mid_of 94 (length (head ++ drop 94 buffer) - 94) (head ++ drop 94 buffer)) part r u)
    (p : Progress header tray (put_mid 94 (length (head ++ drop 94 buffer) - 94) (head ++ drop 94 buffer) part) out from at n t) (l : length tray ≤ from)
    {control : List ℕ} (c : control ≡ file_control_of (at / 94 + 1) n.batches t) where
  built : Wrote 0 (build header tray) buffer (put_mid at (at + 94 - at) out control) (at + 94)
  built = end_done p l (loose_wrote f h o) c

  pub built_long : length (put_mid at (at + 94 - at) out control) ≡ length buffer
  built_long = kept built (omega (arith, built.next, f.room))

  pub built_whole : put_mid at (at + 94 - at) out control ≡ over (build header tray) buffer
  built_whole = (whole built).1
