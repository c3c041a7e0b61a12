-- What was written into a buffer.
use Rattle.std.specs.Prelude.{ℕ, ◌≤◌, List, length, Ok, Err}
use Rattle.paper.specs.Answers.{Output}

-- no more than it holds
abbrev pub InBuffer : Output → List ℕ → Type 0
InBuffer (Ok n) buffer = n ≤ length buffer
InBuffer (Err refusal) buffer = Unit {0}
