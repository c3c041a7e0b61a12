-- The number that an individual record has in the sequence of its file.
use Rattle.std.specs.Prelude.{ℕ, Bool, true, false, Option, Some, None, List}
use Rattle.paper.specs.Fields.{field, digits}
use Rattle.paper.specs.Records.{number_in}

unfoldable pub sequence_if : Bool → List ℕ → Option ℕ
sequence_if true r = Some (number_in r)
sequence_if false r = None

-- where 80-94 are digits, the number in 88-94; else none
unfoldable pub sequence_of : List ℕ → Option ℕ
sequence_of r = sequence_if (digits (field r 80 94)) r
