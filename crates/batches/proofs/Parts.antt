-- A batch laid into a part: its header, its records, its control, one after the other.
use Prim.Native.Nat.{ℕ, ◌+◌, ◌-◌, ◌*◌, ◌≤◌}
use mathlib.Core.List.{List, ◌++◌, append_assoc}
use mathlib.Core.Path.{◌≡◌, refl, sym, ap, ◌∙◌}
use native.Mathlib.Omega.{arith}
use borrow.Rule.Slice.PartMut.{mid_of, put_mid, mid_len}
use lib.ListN.{length, take, drop, length-append, length-drop}
use lib.Seq.{take_all, take_at, drop_at, length-take-le}
use Rattle.paper.specs.declared.record.Tally.{Tally}
use Rattle.paper.specs.Writing.{joined, numbered, batch_control_of}
use Rattle.paper.specs.Buffers.{over}
use Rattle.paper.proofs.Closing.{length_batch_control}
use Rattle.paper.proofs.Lists.{Sized, length_joined, length_numbered}
use Rattle.writing.specs.Laid.{laid}
use Rattle.writing.proofs.Laying.{Wrote, on, whole, kept, part_laid, rest_laid}
use Rattle.batches.specs.Blocks.{block, Batched}
use Rattle.batches.proofs.Blocks.{block_bytes}

-- the part from an index to the end is what is left
pub rest_of : (k : ℕ) (xs : List ℕ) → take (length xs - k) (drop k xs) ≡ drop k xs
rest_of k xs = take_all (length xs - k) (drop k xs) (rw length-drop (omega arith))

-- a part that was written over whole is read back
pub part_back : (at end : ℕ) (text buffer : List ℕ) → at ≤ length buffer → end ≡ at + length text → mid_of at (end - at) (put_mid at (end - at) buffer text) ≡ text
unfolding laid
part_back at end text buffer h e =
    let rest : List ℕ = drop (at + length text) buffer in
    ap (λ (x : List ℕ). take (end - at) (drop at x)) (part_laid at end text buffer e ∙ append_assoc (take at buffer) text rest)
    ∙ ap (take (end - at)) (drop_at (take at buffer) (text ++ rest) at (length-take-le at buffer h))
    ∙ take_at text rest (end - at) (omega arith)

-- a header over the front of a part
pub front_wrote : (before header : List ℕ) → length header ≡ 94 → Wrote 0 header before (header ++ drop 94 before) 94
unfolding laid
front_wrote before header h = record { inside = omega arith; next = omega (arith, h); held = rw h refl }

-- records behind a header
pub own_wrote : (before header : List ℕ) (own : List (List ℕ)) (copied : List ℕ) (n : ℕ) → length header ≡ 94 → Sized 94 own → (length own + 1) * 94 ≤ length before
    → copied ≡ over (joined own) (mid_of 94 (length (header ++ drop 94 before) - 94) (header ++ drop 94 before)) → n ≡ length own
    → Wrote 0 (header ++ joined own) before (put_mid 94 (length (header ++ drop 94 before) - 94) (header ++ drop 94 before) copied) ((n + 1) * 94)
own_wrote before header own copied n h sized room o k =
    let w = front_wrote before header h in
    let headed : List ℕ = header ++ drop 94 before in
    let l = kept w (omega arith) in
    on w (joined own) (omega (arith, length_joined 94 own sized), ap (put_mid 94 (length headed - 94) headed) o ∙ rest_laid 94 (joined own) headed (omega (arith, l)))

-- a batch under its number, over the front of a part
module _ (before : List ℕ) (number : ℕ) (header : List ℕ) (long : length header ≡ 94) {head : List ℕ} (h : head ≡ numbered number header) where
  head_long : length head ≡ 94
  head_long = ap length h ∙ length_numbered number header (omega arith)

  -- what is left behind its header
  pub own_room : 94 ≤ length before → length (mid_of 94 (length (head ++ drop 94 before) - 94) (head ++ drop 94 before)) ≡ length before - 94
  own_room l =
      mid_len 94 (length (head ++ drop 94 before)) (head ++ drop 94 before) (omega (arith, head_long, length-append head (drop 94 before)))
      ∙ omega (arith, head_long, length-append head (drop 94 before), length-drop 94 before)

  module _ {own : List (List ℕ)} (sized : Sized 94 own) (room : (length own + 2) * 94 ≤ length before) {copied : List ℕ} {n : ℕ} {t : Tally}
      (o : Batched own own (mid_of 94 (length (head ++ drop 94 before) - 94) (head ++ drop 94 before)) copied n t) where
    copied_on : List ℕ
    copied_on = put_mid 94 (length (head ++ drop 94 before) - 94) (head ++ drop 94 before) copied

    behind_header : Wrote 0 (head ++ joined own) before copied_on ((n + 1) * 94)
    unfolding copied_on
    behind_header = own_wrote before head own copied n head_long sized (omega arith) o.bytes o.count

    pub control_room : (n + 1) * 94 + 94 ≤ length (put_mid 94 (length (head ++ drop 94 before) - 94) (head ++ drop 94 before) copied)
    unfolding copied_on
    control_room = omega (arith, kept behind_header (omega (arith, o.count)), o.count)

    pub batch_laid : {control : List ℕ} → control ≡ batch_control_of (numbered number header) t
        → Batched (block number header own) own before
        (put_mid ((n + 1) * 94) ((n + 1) * 94 + 94 - (n + 1) * 94) (put_mid 94 (length (head ++ drop 94 before) - 94) (head ++ drop 94 before) copied) control)
        n
        t
    unfolding copied_on
    batch_laid {control} c =
        let z = ap length c ∙ length_batch_control (numbered number header) t (length_numbered number header (omega arith)) in
        let w = on {n = (n + 2) * 94} behind_header control (omega (arith, z), part_laid ((n + 1) * 94) ((n + 1) * 94 + 94) control copied_on (omega (arith, z))) in
        let b : head ++ joined own ++ control ≡ joined (block number header own) = rw (h, c, o.tally) (sym (block_bytes number header own)) in
        record { bytes = (whole w).1 ∙ ap (λ (x : List ℕ). over x before) b; count = o.count; tally = o.tally }
