-- A set of numbers of seven digits in pages of bits.
use Rattle.std.specs.Prelude.{ℕ, ◌*◌, ◌≤◌, ◌<◌, List, ◌≡◌, length, get_or}
use Rattle.repeats.specs.Bits.{Empty}

-- nothing is taken, and there is room for so many numbers, be each in a page of its own
pub record RoomFor (pages seen : List ℕ) (page most : ℕ) : Type 0 where
  pub some : 0 < page
  -- the number of a bit has room in 64 bits
  pub small : page ≤ 4096
  pub all : 10000000 ≤ length pages * page
  pub enough : most * page ≤ length seen * 8
  pub none : (i : ℕ) → get_or pages i 0 ≡ 0
  pub empty : Empty seen
