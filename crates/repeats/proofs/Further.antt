-- What is known of a file's numbers, one record further.
use Prim.Native.Nat.{ℕ, ◌+◌, ◌/◌}
use native.Mathlib.Numerals.{add-one}
use native.Mathlib.Omega.{arith}
use mathlib.Core.Bool.{Bool, true, false}
use mathlib.Core.List.{List}
use mathlib.Core.Path.{◌≡◌, refl, sym, ◌∙◌}
use lib.Dec.{leb, ltb}
use lib.ListN.{length}
use borrow.Author.Tests.{ltb-false, ltb-true}
use Rattle.paper.specs.Fields.{among}
use Rattle.paper.specs.Kinds.{is_individual, kind_of}
use Rattle.paper.specs.Records.{number_in}
use Rattle.paper.specs.Reading.{record_at, seen_next}
use Rattle.paper.proofs.Tests.{not_both}
use Rattle.repeats.specs.Numbers.{numbers_before, repeated, FirstFrom, FreshTo, Looked}

pub one_more : (file : List ℕ) (k : ℕ) → numbers_before file (k + 1) ≡ seen_next (kind_of (record_at file k)) (numbers_before file k) (record_at file k)
unfolding numbers_before
one_more file k = rw (add-one k) refl

pub fresh_further : (file : List ℕ) (place fresh : ℕ) → FreshTo file place fresh → FreshTo file (place + 1) fresh
fresh_further file place fresh k = record { new = λ n l h. k.new n (omega arith) h; ends = k.ends }

-- nothing is known before the first record
pub nothing_known : (file : List ℕ) → FreshTo file 0 0
nothing_known file = record { new = λ k l h. absurd (omega arith); ends = λ h l. absurd (omega arith) }

-- a record's number stood before it
pub repeated_at : (file : List ℕ) (place : ℕ) → is_individual (kind_of (record_at file place)) ≡ true → repeated file place ≡ among (numbers_before file place) (number_in (record_at file place))
unfolding repeated
repeated_at file place i = rw i refl

-- ---- one answer

pub first_once : (test : ℕ → Bool) (records from a b : ℕ) → FirstFrom test records from a → FirstFrom test records from b → a ≡ b
first_once test records from a b x y = go (ltb a b) refl (ltb b a) refl
  where
    go : (l : Bool) → ltb a b ≡ l → (m : Bool) → ltb b a ≡ m → a ≡ b
    go true p m q = let h = ltb-true a b p in absurd (not_both (x.ends (omega (arith, y.within))) (y.new a x.further h))
    go false p true q = let h = ltb-true b a q in absurd (not_both (y.ends (omega (arith, x.within))) (x.new b y.further h))
    go false p false q = omega (arith, ltb-false a b p, ltb-false b a q)

pub looked_once : (file : List ℕ) (place known a b : ℕ) → Looked file place known a → Looked file place known b → a ≡ b
looked_once file place known a b x y = go (leb place known) refl
  where
    go : (t : Bool) → leb place known ≡ t → a ≡ b
    go true e = x.enough e ∙ sym (y.enough e)
    go false e = first_once (repeated file) (length file / 94) place a b (x.more e) (y.more e)
