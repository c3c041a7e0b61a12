-- A batch of a tray: its header is the first record, and its records stand behind it.
use Prim.Native.Nat.{ℕ, suc, ◌+◌, ◌-◌, ◌*◌, ◌^◌, ◌≤◌}
use mathlib.Core.List.{List, ◌∷◌, ◌++◌}
use mathlib.Core.Path.{◌≡◌, sym, ap, ◌∙◌}
use native.Mathlib.Omega.{arith}
use native.Mathlib.Numerals.{add-one}
use borrow.Rule.Slice.PartMut.{mid_of, put_mid}
use lib.ListN.{length, take, drop, length-drop}
use Rattle.paper.specs.declared.record.Kind.{Kind}
use Rattle.paper.specs.declared.record.Kind.TheVariants.{BatchHeader}
use Rattle.paper.specs.declared.record.Tally.{Tally}
use Rattle.paper.specs.Kinds.{kind_of}
use Rattle.paper.specs.Trays.{batches_after}
use Rattle.paper.specs.Writing.{numbered, batch_control_of}
use Rattle.paper.proofs.Lists.{Sized}
use Rattle.paper.proofs.Round.{numbering_sized}
use Rattle.batches.specs.Blocks.{own_of, block, Batched}
use Rattle.batches.proofs.Own.{own_sized, own_fewer}
use Rattle.batches.proofs.Copying.{sized_drop}
use Rattle.batches.proofs.Parts.{rest_of, own_room, control_room, batch_laid}
use Rattle.tray.specs.Trays.{body_at, bodies}
use Rattle.building.specs.declared.numbering.Numbering.{Numbering}
use Rattle.building.specs.Numbering.{after, through, last_number, numbered_from, ToNumber}
use Rattle.tray.proofs.Places.{bodies_at, length_bodies, bodies_sized, bodies_rest, sound_rest}
use Rattle.building.proofs.Numbers.{length_numbering, after_grows}

header_batches : (n : Numbering) → (after BatchHeader n).batches ≡ n.batches + 1
unfolding after batches_after
header_batches n = omega arith

-- the part from the second record to the end
abbrev tail_of : List ℕ → List ℕ
tail_of tray = take (length tray - 96) (drop 96 tray)

-- its header, as it was written
module _ {tray buffer body head : List ℕ} {n r : Numbering} (p : ToNumber tray (10 ^ 9) n buffer (length (own_of (numbered_from (after BatchHeader n) (drop 1 (bodies tray)))) + 2))
    (some : 96 ≤ length tray) (kind : kind_of (body_at tray 0) ≡ BatchHeader) (q : body ≡ body_at tray 0) (long : length body ≡ 94)
    (counted : r ≡ after (kind_of body) n) (wrote : head ≡ numbered (last_number (kind_of body) r) body) where
  tail_bodies : bodies (take (length tray - 96) (drop 96 tray)) ≡ drop 1 (bodies tray)
  tail_bodies = ap bodies (rest_of 96 tray) ∙ bodies_rest tray 1 (omega arith)

  e : r ≡ after BatchHeader n
  e = rw (q, kind) at counted

  under : head ≡ numbered r.batches body
  unfolding last_number
  under = rw (ap kind_of q ∙ kind) at wrote

  tail_room : (length (own_of (numbered_from r (bodies (tail_of tray)))) + 2) * 94 ≤ length buffer
  tail_room = rw (tail_bodies, e) p.room

  pub tail_asked : ToNumber (take (length tray - 96) (drop 96 tray)) (10 ^ 10) r (mid_of 94 (length (head ++ drop 94 buffer) - 94) (head ++ drop 94 buffer))
      (length (own_of (numbered_from r (bodies (take (length tray - 96) (drop 96 tray))))))
  tail_asked =
      let g = after_grows BatchHeader n in
      record {
        sound = rw (rest_of 96 tray) (sound_rest tray 1 (omega arith) p.sound);
        short = rw (rest_of 96 tray) (omega (arith, length-drop 96 tray, p.short));
        few = rw e (omega (arith, g.0, p.few), omega (arith, g.1, p.few));
        room = omega (arith, tail_room, own_room buffer r.batches body long under (omega (arith, p.room)));
      }

  -- its records behind it
  module _ {copied : List ℕ} {k : ℕ} {t : Tally} (o : Batched (own_of (numbered_from r (bodies (take (length tray - 96) (drop 96 tray))))) (own_of (numbered_from r (bodies (take (length tray - 96) (drop 96 tray)))))
      (mid_of 94 (length (head ++ drop 94 buffer) - 94) (head ++ drop 94 buffer)) copied k t) where
    -- a batch has at most 10,000 records
    pub tail_few : k ≤ 10000
    tail_few =
        omega (arith, rw tail_bodies at o.count, own_fewer (numbered_from r (drop 1 (bodies tray))), length_numbering r (drop 1 (bodies tray)), length-drop 1 (bodies tray), length_bodies tray, p.short)

    sized : Sized 94 (own_of (numbered_from r (bodies (tail_of tray))))
    sized =
        rw tail_bodies
        (own_sized (numbered_from r (drop 1 (bodies tray))) (numbering_sized (drop 1 (bodies tray)) r.batches r.individuals (sized_drop 1 (bodies tray) (bodies_sized tray p.sound.whole))))

    pub control_fits : (k + 1) * 94 + 94 ≤ length (put_mid 94 (length (head ++ drop 94 buffer) - 94) (head ++ drop 94 buffer) copied)
    control_fits = control_room buffer r.batches body long under sized tail_room o

    pub batch_whole : {control : List ℕ} → control ≡ batch_control_of (numbered r.batches body) t
        → let own = own_of (numbered_from (after BatchHeader n) (drop 1 (bodies tray))) in Batched (block (n.batches + 1) (body_at tray 0) own) own buffer
        (put_mid ((k + 1) * 94) ((k + 1) * 94 + 94 - (k + 1) * 94) (put_mid 94 (length (head ++ drop 94 buffer) - 94) (head ++ drop 94 buffer) copied) control) k t
    batch_whole c =
        let laid = batch_laid buffer r.batches body long under sized tail_room o c in
        rw (← header_batches n, ← e, ← q, ← tail_bodies) laid

    -- the header is counted first
    pub numbering_whole : {u : Numbering} → u ≡ through r (take k (bodies (take (length tray - 96) (drop 96 tray)))) → u ≡ through n (take (k + 1) (bodies tray))
    unfolding through
    numbering_whole v =
        let first : bodies tray ≡ body_at tray 0 ∷ drop 1 (bodies tray) = bodies_at tray 0 (omega arith) in
        let all : take (k + 1) (bodies tray) ≡ body_at tray 0 ∷ take k (drop 1 (bodies tray)) = rw add-one (ap (take (suc k)) first) in
        rw (e, tail_bodies) at v ∙ sym (ap (through n) all ∙ ap (λ (x : Kind). through (after x n) (take k (drop 1 (bodies tray)))) kind)
