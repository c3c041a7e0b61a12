-- What a caller has got out of the buffer that it lent.
use Rattle.std.specs.Prelude.{ℕ, List, [], take, Ok, Err}
use Rattle.paper.specs.Answers.{Output}

-- the first bytes of the buffer after acceptance, nothing after a refusal
unfoldable pub handed : Output → List ℕ → List ℕ
handed (Ok n) buffer = take n buffer
handed (Err r) buffer = []
