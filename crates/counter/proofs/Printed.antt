-- What is printed of a buffer is what was counted in it.
use Prim.Native.Nat.{ℕ}
use mathlib.Core.List.{List}
use mathlib.Core.Path.{◌≡◌}
use lib.ListN.{length, take}
use Rattle.io.proofs.Counting.{length-take_of_le}
use Rattle.writing.proofs.Decimals.{decimal_most}
use Rattle.listing.specs.Room.{Written}
use Rattle.listing.proofs.Printing.{counted}

pub front : (text : List ℕ) {n : ℕ} (before : List ℕ) {after : List ℕ} → Written text n before after → n ≡ length (take n after)
front text {n} before {after} w = length-take_of_le n after (counted text before w)

-- of a line
pub ruleset printed = (counted, front)

-- of a path
pub ruleset named = (decimal_most, length-take_of_le)
