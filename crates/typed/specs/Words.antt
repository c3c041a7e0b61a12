-- Numbers as they are typed.
use Rattle.std.specs.Prelude.{ℕ, ◌+◌, ◌-◌, ◌*◌, ◌&&◌, cond, List, [], ◌∷◌, leb, eqb, length}
use Rattle.paper.specs.Fields.{digit, number}

-- AAMMDD: six digits and the number they spell; anything else is 0, which is no date
unfoldable pub date_typed : List ℕ → ℕ
date_typed word = cond (eqb (length word) 6) (number word) 0

-- a number is what a word's digits spell, as far as the most that is asked for: one more stands for every number beyond, and for what is no digit
unfoldable pub grown : ℕ → ℕ → ℕ → ℕ
grown most n b = cond (digit b && leb n most) (n * 10 + (b - 48)) (most + 1)

unfoldable pub grown_by : ℕ → ℕ → List ℕ → ℕ
grown_by most n [] = n
grown_by most n (b ∷ bs) = grown_by most (grown most n b) bs

-- an entity's
unfoldable pub entity_typed : List ℕ → ℕ
entity_typed word = grown_by 499 0 word

-- the place of a record: 10,000 is past the end of every file, and stands for what is no number
unfoldable pub place_typed : List ℕ → ℕ
place_typed [] = 10000
place_typed (b ∷ bs) = grown_by 9999 0 (b ∷ bs)
