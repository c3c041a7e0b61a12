-- The bytes that a job has written are within the buffer.
use Prim.Native.Nat.{ℕ, ◌≤◌}
use mathlib.Core.List.{List}
use mathlib.Core.Path.{◌≡◌, refl}
use lib.ListN.{length}
use Rattle.std.specs.Prelude.{Ok, Err}
use Rattle.paper.specs.Answers.{Output}
use Rattle.counter.specs.InBuffer.{InBuffer}

-- which a call says by its number
pub fits : (o : Output) (buffer : List ℕ) → ((n : ℕ) → o ≡ Ok n → n ≤ length buffer) → InBuffer o buffer
fits (Ok n) buffer h = h n refl
fits (Err refusal) buffer h = tt
