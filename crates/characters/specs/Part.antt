-- What every function on a field of a record asks of its caller. No type holds the three: a call names the positions as the standards print them, once each.
use Rattle.std.specs.Prelude.{ℕ, ◌≤◌, List, length}

-- positions first to last are some, and the record has them
abbrev pub HasField : List ℕ → ℕ → ℕ → Type 0
HasField r first last = (1 ≤ first) × (first ≤ last) × (last ≤ length r)
