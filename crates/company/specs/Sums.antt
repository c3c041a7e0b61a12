-- Sums that need no more than 64 bits, however many amounts are added.
use Rattle.std.specs.Prelude.{ℕ, ◌^◌, cond, ltb, Result, Ok, Err}
use Rattle.paper.specs.declared.answer.Refusal.{Refusal}

-- a sum as a field of ten digits can tell it: those that need more digits are all one
unfoldable pub kept : ℕ → ℕ
kept n = cond (ltb n (10 ^ 10)) n (10 ^ 10)

-- the sum of details; 0 where one is at fault
abbrev pub sum_in : Result ℕ Refusal → ℕ
sum_in (Ok sum) = sum
sum_in (Err r) = 0
