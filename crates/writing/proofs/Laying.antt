-- Texts laid one after the other into a buffer are one text.
use Prim.Native.Nat.{ℕ, ◌+◌, ◌-◌, ◌≤◌}
use mathlib.Core.List.{List, [], ◌++◌, append_assoc, append-nil}
use mathlib.Core.Path.{◌≡◌, sym, ap, ◌∙◌}
use native.Mathlib.Omega.{arith}
use native.Mathlib.Nat.{zero-add}
use lib.ListN.{length, take, drop, length-append, length-drop, drop_of_length-le}
use lib.Seq.{take_all, length-take-le, take_at, drop-append-add, drop-drop, paste-zero}
use borrow.Rule.Slice.PartMut.{mid_of, put_mid, mid_len}
use Rattle.paper.specs.Buffers.{over}
use Rattle.writing.specs.Laid.{laid}

module _ (at : ℕ) (a b buffer : List ℕ) (inside : at ≤ length buffer) where
  head_length : length (take at buffer ++ a) ≡ at + length a
  head_length = rw (length-append, length-take-le at buffer inside)

  rest_after : drop (at + length a + length b) (take at buffer ++ a ++ drop (at + length a) buffer) ≡ drop (at + length (a ++ b)) buffer
  rest_after =
      let l : at + length a + length b ≡ at + length (a ++ b) = rw length-append (omega arith) in
      ap (λ (n : ℕ). drop (n + length b) (take at buffer ++ a ++ drop (at + length a) buffer)) (sym head_length)
      ∙ (drop-append-add (take at buffer ++ a) (drop (at + length a) buffer) (length b) ∙ (drop-drop (length b) (at + length a) buffer ∙ rw l))

  pub laid_on : laid (at + length a) b (laid at a buffer) ≡ laid at (a ++ b) buffer
  unfolding laid
  laid_on =
      rw (take_at (take at buffer ++ a) (drop (at + length a) buffer) (at + length a) head_length, rest_after, append_assoc (take at buffer) a b)

-- a part that was written over whole, and is back
pub part_laid : (at end : ℕ) (text buffer : List ℕ) → end ≡ at + length text → put_mid at (end - at) buffer text ≡ laid at text buffer
unfolding laid
part_laid at end text buffer e =
    let k : end - at ≡ length text = omega arith in
    rw (k, drop-drop (length text) at buffer) (sym (append_assoc (take at buffer) text (drop (at + length text) buffer)))

-- a part that was filled by its length
pub part_filled : (by : ℕ → List ℕ) → ((w : ℕ) → length (by w) ≡ w) → (at width : ℕ) (part buffer : List ℕ) → at + width ≤ length buffer
    → part ≡ by (length (mid_of at (at + width - at) buffer)) → (at + width ≡ at + length (by width)) × (put_mid at (at + width - at) buffer part ≡ laid at (by width) buffer)
part_filled by long at width part buffer h e =
    let l : length (mid_of at (at + width - at) buffer) ≡ width = mid_len at (at + width) buffer h ∙ omega arith in
    let n : at + width ≡ at + length (by width) = omega (arith, long width) in
    (n, rw (e, l) (part_laid at (at + width) (by width) buffer n))

-- the part from an index to the end, with a text over its front
pub rest_laid : (at : ℕ) (text buffer : List ℕ) → at ≤ length buffer
    → put_mid at (length buffer - at) buffer (over text (mid_of at (length buffer - at) buffer)) ≡ laid at text buffer
unfolding laid over
rest_laid at text buffer h =
    let all : take (length buffer - at) (drop at buffer) ≡ drop at buffer = take_all (length buffer - at) (drop at buffer) (rw length-drop (omega arith)) in
    let none : drop (length buffer - at) (drop at buffer) ≡ [] = drop_of_length-le (drop at buffer) {i = length buffer - at} (rw length-drop (omega arith)) in
    rw (all, none, append-nil, drop-drop (length text) at buffer) (sym (append_assoc (take at buffer) text (drop (at + length text) buffer)))

-- what a write leaves: the index after the text, and the buffer after it
pub record Wrote (at : ℕ) (text before after : List ℕ) (end : ℕ) : Type 0 where
  pub inside : at ≤ length before
  pub next : end ≡ at + length text
  pub held : after ≡ laid at text before

pub nothing_laid : (at : ℕ) (buffer : List ℕ) → buffer ≡ laid at [] buffer
unfolding laid
nothing_laid at buffer = paste-zero buffer at []

pub start : {at : ℕ} {x : List ℕ} → at ≤ length x → Wrote at [] x x at
start {at} {x} h = record { inside = h; next = omega arith; held = nothing_laid at x }

-- and one more write there
pub on : {at m n : ℕ} {a x y z : List ℕ} → Wrote at a x y m → (b : List ℕ) → (n ≡ m + length b) × (z ≡ laid m b y) → Wrote at (a ++ b) x z n
on {at} {m} {n} {a} {x} {y} {z} w b e = record {
  inside = w.inside;
  next = rw length-append (omega (arith, w.next));
  held = e.1 ∙ rw (w.held, w.next) (laid_on at a b x w.inside);
}

-- the buffer is as long as it was
pub kept : {at n : ℕ} {a x y : List ℕ} → Wrote at a x y n → n ≤ length x → length y ≡ length x
unfolding laid
kept {at} {n} {a} {x} {y} w h =
    rw (w.held, length-append (take at x ++ a), head_length at a [] x w.inside, length-drop) (omega (arith, w.next))

-- the next write starts inside the buffer
pub again : {at n : ℕ} {a x y : List ℕ} → Wrote at a x y n → Wrote n [] y y n
unfolding laid
again {at} {n} {a} {x} {y} w =
    start (rw (w.held, length-append (take at x ++ a), head_length at a [] x w.inside, w.next) (omega arith))

-- from the buffer's start on
pub whole : {n : ℕ} {a x y : List ℕ} → Wrote 0 a x y n → (n ≡ length a) × (y ≡ over a x)
unfolding laid over
whole {n} {a} {x} {y} w = (omega (arith, w.next), w.held ∙ rw (zero-add (length a)))

-- and up to its end
pub filled : {n : ℕ} {a x y : List ℕ} → Wrote 0 a x y n → n ≡ length x → y ≡ a
unfolding over
filled {n} {a} {x} {y} w e = (whole w).1 ∙ rw (drop_of_length-le x {i = length a} (omega (arith, w.next)), append-nil)
