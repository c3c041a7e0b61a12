-- The reading accepts exactly the files that have no fault, and names the first one else.
use Prim.Native.Nat.{ℕ, ◌+◌}
use native.Mathlib.Omega.{arith}
use mathlib.Core.Bool.{Bool, true, false}
use mathlib.Core.List.{[], List, ◌∷◌}
use mathlib.Core.Logic.{◌↔◌, inl, inr}
use mathlib.Core.Path.{◌≡◌, refl, sym, ap, ◌∙◌}
use lib.Dec.{T}
use lib.ListN.{length}
use Rattle.paper.specs.declared.record.Before.{Before}
use Rattle.paper.specs.declared.record.Before.TheVariants.{Nothing, Between, Opened, Flagged, Inside, Ended}
use Rattle.paper.specs.declared.record.Kind.{Kind}
use Rattle.paper.specs.declared.record.Kind.TheVariants.{FileHeader, BatchHeader, Individual, Additional, BatchControl, FileControl, Other}
use Rattle.paper.specs.declared.rules.Rules.{Rules}
use Rattle.paper.specs.Answers.{accepted, refused, and_then, require}
use Rattle.paper.specs.Checks.{Check, fine, wrong, need, ◌also◌}
use Rattle.paper.specs.Kinds.{kind_of}
use Rattle.paper.specs.Records.{ReadingRules, in_house}
use Rattle.paper.specs.Reading.{counted, State, start, next, judged, finish, at, reading_from, records_of, length_good, reading_by, reading}
use Rattle.paper.specs.Demands.{Faultless, FirstFault, AcceptsBy, FaultyBy, Accepts, Faulty}
use Rattle.paper.proofs.Tests.{of_T}
use Rattle.paper.proofs.Refusals.{refused_not, both_accept}

-- ---- a chain of checks

pub wrong_not_fine : {n : ℕ} → wrong n ≡ fine → ⊥
wrong_not_fine h = let z : ◌≡◌ {A = ℕ} 0 1 = cc in omega arith

pub also_assoc : (a b c : Check) → a also (b also c) ≡ a also b also c
unfolding ◌also◌
also_assoc fine b c = refl
also_assoc (wrong n) b c = refl

pub also_l : (a b : Check) → a also b ≡ fine → a ≡ fine
unfolding ◌also◌
also_l fine b h = refl
also_l (wrong n) b h = h

pub also_r : (a b : Check) → a also b ≡ fine → b ≡ fine
unfolding ◌also◌
also_r fine b h = h
also_r (wrong n) b h = absurd (wrong_not_fine h)

pub need_T : (b : Bool) (n : ℕ) → need b n ≡ fine → T b
unfolding need
need_T true n h = tt
need_T false n h = absurd (wrong_not_fine h)

pub fine_also : (a b : Check) → a ≡ fine → b ≡ fine → a also b ≡ fine
unfolding ◌also◌
fine_also fine b p q = q
fine_also (wrong n) b p q = p

pub need_met : (b : Bool) (n : ℕ) → T b → need b n ≡ fine
unfolding need
need_met true n t = refl
need_met false n t = absurd t

-- ---- the records of an accepted file, one by one

at_fine : (place : ℕ) (c : Check) → at place c ≡ accepted → c ≡ fine
unfolding at
at_fine place fine h = refl
at_fine place (wrong n) h = absurd (refused_not h)

finish_ended : (b : Before) (place : ℕ) → finish b place ≡ accepted → b ≡ Ended
unfolding finish
finish_ended Nothing place h = absurd (refused_not h)
finish_ended Between place h = absurd (refused_not h)
finish_ended Opened place h = absurd (refused_not h)
finish_ended Flagged place h = absurd (refused_not h)
finish_ended Inside place h = absurd (refused_not h)
finish_ended Ended place h = refl

run_reads : (rules : ReadingRules) (rs : List (List ℕ)) (s : State) → reading_from rules s rs ≡ accepted → Faultless rules s rs
unfolding reading_from
run_reads rules [] s h = finish_ended s.before s.counts.place h
run_reads rules (r ∷ rs) s h =
    let p = both_accept (at s.counts.place (judged rules s r)) (reading_from rules (next s r) rs) h in
    (at_fine s.counts.place (judged rules s r) p.0, run_reads rules rs (next s r) p.1)

reads_run : (rules : ReadingRules) (rs : List (List ℕ)) (s : State) → Faultless rules s rs → reading_from rules s rs ≡ accepted
unfolding reading_from and_then at finish
reads_run rules [] s h = rw h refl
reads_run rules (r ∷ rs) s h = rw h.0 (reads_run rules rs (next s r) h.1)

pub accepted_by : (rules : ReadingRules) (file : List ℕ) → (reading_by rules file ≡ accepted) ↔ AcceptsBy rules file
unfolding reading_by and_then require
accepted_by rules file = (there (length_good (length file)), λ h. rw (of_T (length_good (length file)) h.0) (reads_run rules (records_of file) start h.1))
  where
    there : (b : Bool) → and_then (require b 201 0) (reading_from rules start (records_of file)) ≡ accepted → T b × Faultless rules start (records_of file)
    there true h = (tt, run_reads rules (records_of file) start h)
    there false h = absurd (refused_not h)

pub accepted_exactly : (rules : Rules) (file : List ℕ) → (reading rules file ≡ accepted) ↔ Accepts rules file
unfolding reading
accepted_exactly rules file = accepted_by (in_house rules) file

-- ---- the first fault of a refused file

finish_fault : (b : Before) (place : ℕ) {n p : ℕ} → finish b place ≡ refused n p → (b ≡ Ended → ⊥) × (n ≡ 17) × (p ≡ place)
unfolding finish
finish_fault Nothing place h = ((λ q. let z : ◌≡◌ {A = ℕ} 0 1 = cc in omega arith), cc, cc)
finish_fault Between place h = ((λ q. let z : ◌≡◌ {A = ℕ} 0 1 = cc in omega arith), cc, cc)
finish_fault Opened place h = ((λ q. let z : ◌≡◌ {A = ℕ} 0 1 = cc in omega arith), cc, cc)
finish_fault Flagged place h = ((λ q. let z : ◌≡◌ {A = ℕ} 0 1 = cc in omega arith), cc, cc)
finish_fault Inside place h = ((λ q. let z : ◌≡◌ {A = ℕ} 0 1 = cc in omega arith), cc, cc)
finish_fault Ended place h = absurd (refused_not (sym h))

not_ended : (b : Before) (place : ℕ) → (b ≡ Ended → ⊥) → finish b place ≡ refused 17 place
unfolding finish
not_ended Nothing place h = refl
not_ended Between place h = refl
not_ended Opened place h = refl
not_ended Flagged place h = refl
not_ended Inside place h = refl
not_ended Ended place h = absurd (h refl)

run_fault : (rules : ReadingRules) (rs : List (List ℕ)) (s : State) {n place : ℕ} → reading_from rules s rs ≡ refused n place → FirstFault rules s rs n place
unfolding reading_from and_then at
run_fault rules [] s h = finish_fault s.before s.counts.place h
run_fault rules (r ∷ rs) s {n} {place} h = go (judged rules s r) refl h (λ q. run_fault rules rs (next s r) q)
  where
    go : (c : Check) → judged rules s r ≡ c → and_then (at s.counts.place c) (reading_from rules (next s r) rs) ≡ refused n place
        → (reading_from rules (next s r) rs ≡ refused n place → FirstFault rules (next s r) rs n place) → FirstFault rules s (r ∷ rs) n place
    go fine e q later = inr (e, later q)
    go (wrong m) e q later = let w : m ≡ n = cc in inl (e ∙ ap wrong w, cc)

fault_run : (rules : ReadingRules) (rs : List (List ℕ)) (s : State) (n place : ℕ) → FirstFault rules s rs n place → reading_from rules s rs ≡ refused n place
unfolding reading_from and_then at
fault_run rules [] s n place f = rw (f.1, f.2) (not_ended s.before s.counts.place f.0)
fault_run rules (r ∷ rs) s n place (inl f) = rw (f.0, f.1) refl
fault_run rules (r ∷ rs) s n place (inr f) = rw f.0 (fault_run rules rs (next s r) n place f.1)

pub refused_by : (rules : ReadingRules) (file : List ℕ) {n place : ℕ} → (reading_by rules file ≡ refused n place) ↔ FaultyBy rules file n place
unfolding reading_by and_then require
refused_by rules file {n} {place} = (go (length_good (length file)) refl, back)
  where
    go : (b : Bool) → length_good (length file) ≡ b → and_then (require b 201 0) (reading_from rules start (records_of file)) ≡ refused n place → FaultyBy rules file n place
    go true e q = inr (e, run_fault rules (records_of file) start q)
    go false e q = inl (e, cc, cc)

    back : FaultyBy rules file n place → and_then (require (length_good (length file)) 201 0) (reading_from rules start (records_of file)) ≡ refused n place
    back (inl f) = rw (f.0, f.1, f.2) refl
    back (inr f) = rw f.0 (fault_run rules (records_of file) start n place f.1)

pub refused_exactly : (rules : Rules) (file : List ℕ) {n place : ℕ} → (reading rules file ≡ refused n place) ↔ Faulty rules file n place
unfolding reading
refused_exactly rules file = refused_by (in_house rules) file

-- ---- the place of the next record

pub next_place : (s : State) (r : List ℕ) → (next s r).counts.place ≡ s.counts.place + 1
unfolding next counted
next_place s r = go (kind_of r)
  where
    go : (k : Kind) → (counted k s.counts r).place ≡ s.counts.place + 1
    go FileHeader = refl
    go BatchHeader = refl
    go Individual = refl
    go Additional = refl
    go BatchControl = refl
    go FileControl = refl
    go Other = refl
