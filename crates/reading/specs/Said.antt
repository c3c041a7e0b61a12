-- What an answer of the reading carries.
use Rattle.std.specs.Prelude.{ℕ, ◌≡◌, Result, Ok, Err}
use Rattle.paper.specs.declared.answer.Refusal.{Refusal}

-- an acceptance carries the number of records
unfoldable pub Carries : ℕ → Result ℕ Refusal → Type 0
Carries n (Ok records) = records ≡ n
Carries n (Err r) = Unit {0}
