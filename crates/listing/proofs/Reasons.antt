-- The line of a reason: when there is one, of which record, and how long its text is.
use Prim.Native.Nat.{ℕ, ◌≤◌}
use mathlib.Core.List.{List}
use native.Mathlib.Nat.{min-le_left}
use native.Mathlib.Omega.{arith}
use lib.ListN.{length, drop, length-take}
use Rattle.paper.specs.Receiving.{TextPlace, nowhere, in_file, in_motives, text_in}

-- no text is longer
pub text_most : (t : TextPlace) (file motives : List ℕ) → length (text_in t file motives) ≤ 44
unfolding text_in
text_most nowhere file motives = omega arith
text_most (in_file at) file motives = rw (length-take 44 (drop at file)) (min-le_left 44 (length (drop at file)))
text_most (in_motives at) file motives = rw (length-take 44 (drop at motives)) (min-le_left 44 (length (drop at motives)))
