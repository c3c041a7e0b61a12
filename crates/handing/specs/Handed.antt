-- What stands under a name.
use Rattle.std.specs.Prelude.{ℕ, List, ◌≡◌, length, Result, IfOk}
use Rattle.handing.specs.declared.Unwritten.{Unwritten}

-- all of the bytes
abbrev pub AllOf : List ℕ → Result ℕ Unwritten → Type 0
AllOf bytes handed = IfOk handed (λ n. n ≡ length bytes)
