-- The numbers of individual records, over a file: what 88-94 come to by the rule of request 3, and by the rule of 01 before it.
use Rattle.std.specs.Prelude.{ℕ, zero, suc, Bool, true, not, ◌&&◌, cond, List, [], ◌∷◌, ◌≡◌, T, ltb, length}
use Rattle.paper.specs.declared.record.Before.TheVariants.{Ended}
use Rattle.paper.specs.declared.record.Kind.{Kind}
use Rattle.paper.specs.Checks.{Check, fine, need, ◌also◌}
use Rattle.paper.specs.Fields.{among, every, good}
use Rattle.paper.specs.Kinds.{opens_batch, is_individual, kind_of, allowed}
use Rattle.paper.specs.Records.{ReadingRules, number_in, individual}
use Rattle.paper.specs.Reading.{State, start, next, fields, records_of, length_good}

-- those of the individual records, in order
unfoldable pub numbers_in : List (List ℕ) → List ℕ
numbers_in [] = []
numbers_in (r ∷ rs) = cond (is_individual (kind_of r)) (number_in r ∷ numbers_in rs) (numbers_in rs)

-- no two are equal
unfoldable pub all_different : List ℕ → Bool
all_different [] = true
all_different (n ∷ ns) = not (among ns n) && all_different ns

-- in each batch they ascend, and its first exceeds 0; p is the last of the batch so far
unfoldable pub ascending : ℕ → List (List ℕ) → Bool
ascending p [] = true
ascending p (r ∷ rs) =
    cond (opens_batch (kind_of r)) (ascending 0 rs)
    (cond (is_individual (kind_of r)) (ltb p (number_in r) && ascending (number_in r) rs) (ascending p rs))

-- n numbers: m, m + 1, ..
unfoldable pub counting_from : ℕ → ℕ → List ℕ
counting_from m zero = []
counting_from m (suc n) = m ∷ counting_from (suc m) n

-- ---- all other rules: of 88-94 they ask only that they exceed a number, which is given by what stands before

unfoldable pub fields_above : (State → ℕ) → Kind → ReadingRules → State → List ℕ → Check
fields_above least k rules s r = cond (is_individual k) (individual rules s.counts.header (least s) r) (fields k rules s r)

unfoldable pub judged_above : (State → ℕ) → ReadingRules → State → List ℕ → Check
judged_above least rules s r =
    need (every good r) 17
    also allowed s.before (kind_of r)
    also fields_above least (kind_of r) rules s r

abbrev pub FaultlessAbove : (State → ℕ) → ReadingRules → State → List (List ℕ) → Type 0
FaultlessAbove least rules s [] = s.before ≡ Ended
FaultlessAbove least rules s (r ∷ rs) = (judged_above least rules s r ≡ fine) × FaultlessAbove least rules (next s r) rs

-- whoever reads accepts the file
abbrev pub AcceptsAbove : (State → ℕ) → ReadingRules → List ℕ → Type 0
AcceptsAbove least rules file = T (length_good (length file)) × FaultlessAbove least rules start (records_of file)

-- all other rules, and that 88-94 exceed 0
abbrev pub AcceptsOtherwise : ReadingRules → List ℕ → Type 0
AcceptsOtherwise = AcceptsAbove (λ s. 0)

-- the number of the individual record before it in the file, whatever the batch; 0 where there is none
abbrev pub previous_number : State → ℕ
previous_number s = number_in s.individual

-- 01 as it was
abbrev pub FormerlyAccepts : ReadingRules → List ℕ → Type 0
FormerlyAccepts = AcceptsAbove previous_number
