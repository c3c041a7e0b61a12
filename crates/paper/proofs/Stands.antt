-- Where a refusal stands: at 0 where its number is tied to no record, else at a record of the file, and one past the last only where the 9 is missing.
use Prim.Native.Nat.{ℕ, ◌+◌, ◌/◌, ◌<◌}
use native.Mathlib.Omega.{arith}
use mathlib.Core.Bool.{Bool, true, false, not, ◌||◌}
use mathlib.Core.List.{List, [], ◌∷◌}
use mathlib.Core.Logic.{◌⊎◌, inl, inr, ⊎_elim}
use mathlib.Core.Path.{◌≡◌, refl, ◌∙◌, subst}
use lib.Dec.{T, eqb, eqb→eq}
use lib.ListN.{length}
use Rattle.paper.specs.declared.rules.Rules.{Rules}
use Rattle.paper.specs.declared.record.Before.TheVariants.{Ended}
use Rattle.paper.specs.declared.record.Kind.TheVariants.{FileControl}
use Rattle.paper.specs.Answers.{Said, accepted, refused, and_then, require}
use Rattle.paper.specs.Checks.{fine}
use Rattle.paper.specs.Fields.{among, every}
use Rattle.paper.specs.Kinds.{kind_of, allowed}
use Rattle.paper.specs.Records.{ReadingRules, in_house}
use Rattle.paper.specs.Reading.{nothing_counted, State, start, before_next, next, judged, records_of, reading_by, reading}
use Rattle.paper.specs.Demands.{untied, NoFileControl, StandsIf, StandsAt, FirstFault}
use Rattle.paper.proofs.Tests.{T_of, and_l, and_r}
use Rattle.paper.proofs.Lists.{length_parts}
use Rattle.paper.proofs.Exactly.{wrong_not_fine, refused_by, next_place}
use Rattle.paper.proofs.Accepted.{judged_facts}
use Rattle.paper.proofs.ReadingNumbers.{record_numbers, first_named}

-- a number of one list is not in another that has none of them
pub not_in_both : (xs ys : List ℕ) → T (every (λ x. not (among ys x)) xs) → (n : ℕ) → T (among xs n) → T (among ys n) → ⊥
unfolding every among
not_in_both [] ys h n p q = p
not_in_both (x ∷ xs) ys h n p q = go (eqb n x) refl p (λ t. not_in_both xs ys (and_r (not (among ys x)) (every (λ z. not (among ys z)) xs) h) n t q)
  where
    none : (b : Bool) → T (not b) → T b → ⊥
    none true a b = a
    none false a b = b

    go : (b : Bool) → eqb n x ≡ b → T (b || among xs n) → (T (among xs n) → ⊥) → ⊥
    go true e t later = none (among ys x) (and_l (not (among ys x)) (every (λ z. not (among ys z)) xs) h) (subst (λ (m : ℕ). T (among ys m)) (eqb→eq n x (T_of e)) q)
    go false e t later = later t

-- ---- the first fault of records stands at one of them, and one past the last only where no 9 is among them

ended_faulty : (rules : ReadingRules) (s : State) (r : List ℕ) → s.before ≡ Ended → judged rules s r ≡ fine → ⊥
unfolding allowed
ended_faulty rules s r e h = wrong_not_fine (rw e at (judged_facts rules s r h).allowed)

-- behind a 9 the first record is at fault
behind_control : (rules : ReadingRules) (rs : List (List ℕ)) (s : State) (n place : ℕ) → s.before ≡ Ended → FirstFault rules s rs n place
    → place < s.counts.place + length rs
behind_control rules [] s n place e f = absurd (f.0 e)
behind_control rules (r ∷ rs) s n place e (inl f) = omega (arith, f.1)
behind_control rules (r ∷ rs) s n place e (inr f) = absurd (ended_faulty rules s r e f.0)

abbrev Past : ℕ → List (List ℕ) → ℕ → ℕ → Type 0
Past from rs n place = (place < from + length rs) ⊎ ((place ≡ from + length rs) × (n ≡ 17) × NoFileControl rs)

fault_stands : (rules : ReadingRules) (rs : List (List ℕ)) (s : State) (n place : ℕ) → FirstFault rules s rs n place → Past s.counts.place rs n place
unfolding next before_next
fault_stands rules [] s n place f = inr (omega (arith, f.2), f.1, tt)
fault_stands rules (r ∷ rs) s n place (inl f) = inl (omega (arith, f.1))
fault_stands rules (r ∷ rs) s n place (inr f) = go (fault_stands rules rs (next s r) n place f.1)
  where
    ended : kind_of r ≡ FileControl → (next s r).before ≡ Ended
    ended k = rw k refl

    go : Past (next s r).counts.place rs n place → Past s.counts.place (r ∷ rs) n place
    go (inl l) = inl (omega (arith, next_place s r))
    go (inr p) =
        inr (omega (arith, next_place s r, p.0), p.1, ((λ k. let l = behind_control rules rs (next s r) n place (ended k) f.1 in omega (arith, p.0)), p.2))

pub stands_by : (rules : ReadingRules) (file : List ℕ) → StandsAt file (reading_by rules file)
unfolding start nothing_counted records_of among every
stands_by rules file = go (reading_by rules file) refl
  where
    records : length (records_of file) ≡ length file / 94
    records = length_parts 94 (length file / 94) file

    tied : (n place : ℕ) → FirstFault rules start (records_of file) n place → (b : Bool) → among untied n ≡ b → StandsIf b file n place
    tied n place f true e = absurd (not_in_both record_numbers untied tt n (first_named rules (records_of file) start n place f) (T_of e))
    tied n place f false e =
        ⊎_elim (λ l. inl (omega (arith, records))) (λ p. inr (p.0 ∙ omega (arith, records), p.1, p.2)) (fault_stands rules (records_of file) start n place f)

    go : (a : Said) → reading_by rules file ≡ a → StandsAt file a
    go accepted e = tt
    go (refused n place) e =
        ⊎_elim (λ x. rw x.1 x.2)
        (λ x. tied n place x.1 (among untied n) refl)
        ((refused_by rules file).0 e)

pub reading_stands : (rules : Rules) (file : List ℕ) → StandsAt file (reading rules file)
unfolding reading
reading_stands rules file = stands_by (in_house rules) file

-- ---- answers in turn

-- a refusal of two answers in turn stands where that of either does
pub both_stand : (stands : Said → Type 0) (a b : Said) → stands accepted → stands a → stands b → stands (and_then a b)
unfolding and_then
both_stand stands accepted b t p q = q
both_stand stands (refused n place) b t p q = p

-- what is required is refused at 0 by a number that is tied to no record
pub required_stands : (file : List ℕ) (b : Bool) (n : ℕ) → among untied n ≡ true → StandsAt file (require b n 0)
unfolding require
required_stands file true n u = tt
required_stands file false n u = rw u refl
