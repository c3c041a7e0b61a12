-- Rules in the order printed: the first fault is the answer.
use Rattle.std.specs.Prelude.{ℕ, Bool, true, false}

-- no fault, or the refusal number of the first
pub data Check : Type 0 where
  fine : Check
  wrong : ℕ → Check

-- the test holds, else this number
unfoldable pub need : Bool → ℕ → Check
need true n = fine
need false n = wrong n

-- the next rule is asked where no fault was found before it
infixl 20 ◌also◌
unfoldable pub ◌also◌ : Check → Check → Check
fine also next = next
wrong n also next = wrong n
