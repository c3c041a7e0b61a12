-- Bytes as they are shown: a text of the same length, byte by byte.
use Prim.Native.Nat.{ℕ, zero, suc, ◌≤◌, ◌<◌}
use mathlib.Core.List.{List, [], ◌∷◌}
use mathlib.Core.Path.{◌≡◌, refl}
use native.Mathlib.Nat.{min-le_left}
use native.Mathlib.Omega.{arith}
use lib.ListN.{length, get_or, take, length-map, length-take}
use borrow.Rule.Slice.PartMut.{mid_len}
use Rattle.std.proofs.lemmas.List.{take_min}
use Rattle.writing.proofs.Laying.{part_laid}
use Rattle.listing.specs.Answers.{shown_byte, shown}

pub length_shown : (text : List ℕ) → length (shown text) ≡ length text
unfolding shown
length_shown text = length-map text shown_byte

pub shown_at : (text : List ℕ) (i : ℕ) → i < length text → get_or (shown text) i 0 ≡ shown_byte (get_or text i 0)
unfolding shown
shown_at [] i h = absurd (omega arith)
shown_at (b ∷ text) zero h = refl
shown_at (b ∷ text) (suc i) h = shown_at text i (omega arith)

-- as many bytes as were taken
pub shown_most : (most : ℕ) (text : List ℕ) → length (shown (take most text)) ≤ most
shown_most most text = rw (length_shown (take most text), length-take most text) (min-le_left most (length text))

-- what the check needs of a text's first bytes
pub ruleset showing = (take_min, length_shown, part_laid, mid_len)
