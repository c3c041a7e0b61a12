-- A buffer before anything is in it.
use Rattle.std.specs.Prelude.{ℕ, List, replicate}

-- never counted out: the buffers are long
unfoldable pub zero_bytes : ℕ → List ℕ
zero_bytes n = replicate n 0
