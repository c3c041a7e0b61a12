-- The controls that are built, as they are written: part after part.
use Prim.Native.Nat.{ℕ, ◌+◌, ◌≤◌}
use mathlib.Core.List.{List, ◌++◌, append_assoc}
use mathlib.Core.Path.{◌≡◌, sym, ap, ◌∙◌}
use native.Mathlib.Omega.{arith}
use lib.ListN.{length, take, drop}
use Rattle.paper.specs.Fields.{bytes, field}
use Rattle.paper.specs.Controls.{blocks}
use Rattle.paper.specs.Writing.{spelled, blanks, numbered, batch_control_of, file_control_of}
use Rattle.paper.specs.declared.record.Tally.{Tally}
use Rattle.paper.proofs.Normal.{field_front, field_numbered}
use Rattle.batches.specs.Sums.{sums_of}

sums_on : (a : List ℕ) (t : Tally) → a ++ sums_of t ≡ a ++ spelled 10 t.destinations ++ spelled 12 t.debits ++ spelled 12 t.credits
sums_on a t = three_on (spelled 10 t.destinations) (spelled 12 t.debits) (spelled 12 t.credits)
  where
    three_on : (x y z : List ℕ) → a ++ (x ++ y ++ z) ≡ a ++ x ++ y ++ z
    three_on x y z = sym (append_assoc a (x ++ y) z) ∙ ap (λ (l : List ℕ). l ++ z) (sym (append_assoc a x y))

-- under a header that has got another number, which its other fields do not tell
numbered_front : (b : ℕ) (h : List ℕ) → length h ≡ 94 → (at n : ℕ) → at + n ≤ 87 → take n (drop at (numbered b h)) ≡ take n (drop at h)
unfolding numbered
numbered_front b h l at n k = field_front at n h (spelled 7 b) k (omega arith)

pub control_parts : (b : ℕ) (h : List ℕ) (t : Tally) → length h ≡ 94
    → bytes "8" ++ field h 2 4 ++ spelled 6 t.records ++ sums_of t ++ field h 41 50 ++ blanks 25 ++ field h 80 87 ++ spelled 7 b ≡ batch_control_of (numbered b h) t
unfolding batch_control_of
control_parts b h t l =
    let front : (at n : ℕ) → at + n ≤ 87 → take n (drop at (numbered b h)) ≡ take n (drop at h) = numbered_front b h l in
    ap (λ (x : List ℕ). x ++ field h 41 50 ++ blanks 25 ++ field h 80 87 ++ spelled 7 b) (sums_on (bytes "8" ++ field h 2 4 ++ spelled 6 t.records) t)
    ∙ rw (front 1 3 (omega arith), front 40 10 (omega arith), front 79 8 (omega arith), field_numbered b h (omega arith))

pub total_parts : (all batches : ℕ) (t : Tally)
    → bytes "9" ++ spelled 6 batches ++ spelled 6 (blocks all) ++ spelled 8 t.records ++ sums_of t ++ blanks 39 ≡ file_control_of all batches t
unfolding file_control_of
total_parts all batches t =
    ap (λ (x : List ℕ). x ++ blanks 39) (sums_on (bytes "9" ++ spelled 6 batches ++ spelled 6 (blocks all) ++ spelled 8 t.records) t)
