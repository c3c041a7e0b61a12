-- Block 2 of an account, with the digit that checks it (003, chapter 4). Positions are those of the block: thirteen digits, and the check digit behind them.
use Rattle.std.specs.Prelude.{ℕ, ◌+◌, ◌-◌, ◌*◌, ◌%◌, Bool, ◌&&◌, List, [], ◌∷◌, eqb}
use Rattle.paper.specs.Fields.{field, digits, is, value}

-- 9713 over and over, in strict order: the last of the thirteen is multiplied by 3
abbrev pub weights : List ℕ
weights = 3 ∷ 9 ∷ 7 ∷ 1 ∷ 3 ∷ 9 ∷ 7 ∷ 1 ∷ 3 ∷ 9 ∷ 7 ∷ 1 ∷ 3 ∷ []

-- each digit times its weight, added up
unfoldable pub weighted : List ℕ → List ℕ → ℕ
weighted [] f = 0
weighted (w ∷ ws) [] = 0
weighted (w ∷ ws) (d ∷ ds) = w * (d - 48) + weighted ws ds

-- of fourteen positions: digits, and the last of them brings the weighted sum of those before it up to a multiple of ten
unfoldable pub block_good : List ℕ → Bool
block_good f = digits f && eqb ((weighted weights (field f 1 13) + value (field f 14 14)) % 10) 0

-- a record's account with its check digit: three zeros and block 2. The rules of the reading do not ask it yet
unfoldable pub account_checked : List ℕ → Bool
account_checked r = is (field r 13 15) "000" && block_good (field r 16 29)
