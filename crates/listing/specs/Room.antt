-- The buffer of a listing.
use Rattle.std.specs.Prelude.{ℕ, ◌+◌, ◌≤◌, List, ◌≡◌, length}
use Rattle.paper.specs.Buffers.{over}

-- from index `at` on there is room for n more of the longest listing's bytes
abbrev pub HasRoom : ℕ → ℕ → Type 0
HasRoom at n = at + n ≤ 33525

-- the text's bytes are counted and stand first in the buffer, whose rest stays
abbrev pub Written : List ℕ → ℕ → List ℕ → List ℕ → Type 0
Written text n before after = (n ≡ length text) × (after ≡ over text before)
