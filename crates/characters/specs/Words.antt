-- Eight positions at once.
use Rattle.std.specs.Prelude.{◌≡◌, ℕ, ◌+◌, ◌*◌, ◌<◌, Bool, true, false, Option, Some, None, List, [], ◌∷◌, length, take, drop, slice_index}
use Rattle.paper.specs.Fields.{digits, value}

unfoldable pub numeral_if : Bool → List ℕ → Option (ℕ × ℕ)
numeral_if true f = Some (value (take 4 f), value (drop 4 f))
numeral_if false f = None

-- of eight digits the numbers of the first four and of the last four; none where they are not all digits
unfoldable pub numeral_of : List ℕ → Option (ℕ × ℕ)
numeral_of f = numeral_if (digits f) f

-- bytes as one number, the first the lowest
unfoldable pub packed : List ℕ → ℕ
packed [] = 0
packed (b ∷ f) = packed f * 256 + b

-- the number holds the eight bytes of the text
pub record Packs (f : List ℕ) (n : ℕ) : Type 0 where
  pub eight : length f ≡ 8
  pub bytes : (i : ℕ) → slice_index f i < 256
  pub whole : n ≡ packed f
