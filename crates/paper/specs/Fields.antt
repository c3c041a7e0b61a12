-- Bytes, fields and the numbers that digits spell. Positions are 1-based, as the standards print them, and both ends belong to the field.
use Rattle.std.specs.Prelude.{ℕ, ◌+◌, ◌-◌, ◌*◌, Bool, true, false, not, ◌&&◌, ◌||◌, cond, List, [], ◌∷◌, leb, eqb, take, drop}
use Prim.Native.Char.{code}
use Prim.Native.String.{String, [] as end, ◌∷◌ as ◌then◌}

-- the bytes of a quoted text
abbrev pub bytes : String → List ℕ
bytes end = []
bytes (c then s) = code c ∷ bytes s

-- positions first to last of a record
abbrev pub field : List ℕ → ℕ → ℕ → List ℕ
field r first last = take (last + 1 - first) (drop (first - 1) r)

-- the number is one from low to high
abbrev pub within : ℕ → ℕ → ℕ → Bool
within low high n = leb low n && leb n high

-- the number is one of those listed
unfoldable pub among : List ℕ → ℕ → Bool
among [] n = false
among (x ∷ xs) n = eqb n x || among xs n

-- the test holds of every byte
unfoldable pub every : (ℕ → Bool) → List ℕ → Bool
every test [] = true
every test (b ∷ bs) = test b && every test bs

-- characters: bytes 32 to 95 except 34, 38, 39, 91, 92, 93, 94
unfoldable pub good : ℕ → Bool
good b = within 32 95 b && not (among (34 ∷ 38 ∷ 39 ∷ 91 ∷ 92 ∷ 93 ∷ 94 ∷ []) b)

-- 0 to 9
unfoldable pub digit : ℕ → Bool
digit b = within 48 57 b

-- A to Z
unfoldable pub capital : ℕ → Bool
capital b = within 65 90 b

abbrev pub digits : List ℕ → Bool
digits f = every digit f

abbrev pub blank : List ℕ → Bool
blank f = every (eqb 32) f

-- a digit or capital
unfoldable pub identifier_field : List ℕ → Bool
identifier_field f = every (λ b. digit b || capital b) f

-- two fields are the same
unfoldable pub same : List ℕ → List ℕ → Bool
same [] [] = true
same [] (y ∷ ys) = false
same (x ∷ xs) [] = false
same (x ∷ xs) (y ∷ ys) = eqb x y && same xs ys

-- the field reads as quoted
abbrev pub is : List ℕ → String → Bool
is f text = same f (bytes text)

-- the number that digits spell, going on from n
unfoldable pub value_from : ℕ → List ℕ → ℕ
value_from n [] = n
value_from n (d ∷ ds) = value_from (n * 10 + (d - 48)) ds

abbrev pub value : List ℕ → ℕ
value f = value_from 0 f

-- the number in a field; one that is not all digits counts as nothing
unfoldable pub number : List ℕ → ℕ
number f = cond (digits f) (value f) 0

-- the field is all digits, and they spell n
unfoldable pub spells : List ℕ → ℕ → Bool
spells f n = digits f && eqb (value f) n
