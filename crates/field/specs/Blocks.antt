-- A block of an account as the code has it: in two words and a byte.
use Rattle.std.specs.Prelude.{◌≡◌, ℕ, ◌+◌, ◌*◌, ◌/◌, ◌%◌, ◌^◌, Bool, List, length, take, drop, ◌==◌, slice_index}
use Rattle.characters.specs.Words.{Packs}

-- the front word holds three other bytes and the first five digits, the back word the next eight
pub record InWords (f : List ℕ) (front back check : ℕ) : Type 0 where
  pub long : length f ≡ 14
  pub begin : List ℕ
  pub begins : Packs begin front
  pub first_five : drop 3 begin ≡ take 5 f
  pub next_eight : Packs (take 8 (drop 5 f)) back
  pub last : check ≡ slice_index f 13

-- the lowest four bytes by the ponderador 9713
unfoldable pub weighed : ℕ → ℕ
weighed n = n % 0x100 * 9 + n / 0x100 % 0x100 * 7 + n / 0x1_0000 % 0x100 * 1 + n / 0x100_0000 % 0x100 * 3

-- as the code tests two words and a byte, whatever they hold: all but the lowest three bytes of the front word and the back word added up, then the upper half
-- of that; the bytes of fourteen zeros come to 3072, so that 2 has to be left
unfoldable pub sum_good : ℕ → ℕ → ℕ → Bool
sum_good front back check =
    let eight = (front / 0x100_0000 * 0x100_0000 + back) % 2 ^ 64 in
    let four = (eight + eight / 0x1_0000_0000) % 2 ^ 64 in ((weighed four + check) % 10 == 3072 % 10)
