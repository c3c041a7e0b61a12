-- A set of numbers as the bits of a row of bytes, eight to a byte.
use Rattle.std.specs.Prelude.{ℕ, zero, suc, ◌*◌, ◌/◌, ◌%◌, ◌<◌, Bool, false, List, ◌≡◌, eqb, length, get_or}

-- bit k of a number
unfoldable pub bit_of : ℕ → ℕ → Bool
bit_of zero b = eqb (b % 2) 1
bit_of (suc k) b = bit_of k (b / 2)

-- whether the row of bytes holds n
unfoldable pub has_bit : List ℕ → ℕ → Bool
has_bit s n = bit_of (n % 8) (get_or s (n / 8) 0)

-- it holds nothing
abbrev pub Empty : List ℕ → Type 0
Empty s = (n : ℕ) → n < length s * 8 → has_bit s n ≡ false
