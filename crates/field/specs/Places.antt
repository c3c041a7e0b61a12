-- Records by their places in a file.
use Rattle.std.specs.Prelude.{ℕ, ◌+◌, ◌*◌, ◌≤◌, List, length}

-- a file that is not too long has a record at this place
abbrev pub InFile : List ℕ → ℕ → Type 0
InFile file place = (length file ≤ 940000) × (place * 94 + 94 ≤ length file)
