-- What the check needs of texts written one after the other: they are one text, and no number is longer than twenty digits.
use Prim.Native.Nat.{ℕ, ◌+◌, ◌≤◌}
use mathlib.Core.List.{List, [], ◌++◌, append_assoc}
use mathlib.Core.Path.{◌≡◌, refl}
use native.Mathlib.Omega.{arith}
use lib.ListN.{length, length-append}
use Rattle.paper.specs.Buffers.{over}
use Rattle.writing.specs.Laid.{laid}
use Rattle.writing.proofs.Decimals.{decimal_most}
use Rattle.writing.proofs.Laying.{Wrote, start, on, whole}

pub laid_next : (m : ℕ) (b : List ℕ) (at : ℕ) (a x : List ℕ) → at ≤ length x → m ≡ at + length a → laid m b (laid at a x) ≡ laid at (a ++ b) x
laid_next m b at a x h e =
    let w : Wrote at a x (laid at a x) m = record { inside = h; next = e; held = refl } in
    (on w b (refl, refl)).held

pub laid_over : (a x : List ℕ) → laid 0 a x ≡ over a x
laid_over a x = (whole (on {x = x} (start (omega arith)) a (refl, refl))).1

pub over_none : (x : List ℕ) → over [] x ≡ x
unfolding over
over_none x = refl

pub ruleset written = (laid_next, laid_over, over_none, length-append, decimal_most)

-- and of a line whose last word and end are written as one
pub ruleset regrouped = (append_assoc)
