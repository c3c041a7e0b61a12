-- Texts put into a buffer.
use Rattle.std.specs.Prelude.{ℕ, ◌+◌, List, ◌++◌, length, take, drop}

-- the text over the buffer's bytes from index `at` on; the others stay
unfoldable pub laid : ℕ → List ℕ → List ℕ → List ℕ
laid at text buffer = take at buffer ++ text ++ drop (at + length text) buffer
