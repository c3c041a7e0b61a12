-- In a file that reads as accepted, by the house or at a desk: which records explain a rejection, and what the text of the reason is.
use Prim.Native.Nat.{ℕ, zero, suc, ◌*◌, ◌-◌, ◌<◌, ◌/◌}
use native.Mathlib.Omega.{arith}
use mathlib.Core.Bool.{Bool, true, false, ◌&&◌}
use mathlib.Core.List.{List, [], ◌∷◌}
use mathlib.Core.Logic.{◌↔◌}
use mathlib.Core.Path.{◌≡◌, refl, sym, ap, ◌∙◌, subst}
use lib.Dec.{T, ltb, ltb→lt}
use lib.ListN.{length, get_or, take, drop, length-take, length-drop}
use lib.Seq.{length-take-le}
use borrow.Author.Tests.{lt-ltb}
use Rattle.paper.specs.declared.record.Before.{Before}
use Rattle.paper.specs.declared.record.Before.TheVariants.{Flagged}
use Rattle.paper.specs.declared.record.Kind.{Kind}
use Rattle.paper.specs.declared.record.Kind.TheVariants.{FileHeader, BatchHeader, Individual, Additional, BatchControl, FileControl, Other}
use Rattle.paper.specs.Answers.{accepted}
use Rattle.paper.specs.Checks.{fine}
use Rattle.paper.specs.Fields.{field, blank, digits, is, number}
use Rattle.paper.specs.Kinds.{kind_of, code_of, rejects}
use Rattle.paper.specs.Records.{ReadingRules, additional99, additional05, additional_by, additional}
use Rattle.paper.specs.Reading.{State, start, before_next, last_individual, next, fields, records_of, record_at, reading_by}
use Rattle.paper.specs.Demands.{Faultless}
use Rattle.paper.specs.Receiving.{explains, explains_at, text_at, text_in}
use Rattle.paper.proofs.Tests.{and_l, and_r, T_of, of_T, same→eq}
use Rattle.paper.proofs.Exactly.{also_l, also_r, need_T}
use Rattle.paper.proofs.Accepted.{Follows, file_begins, batch_opens, file_ends, first_individual, its_additional, next_individual, batch_closes, judged_facts, first_header, facts_by}
use Rattle.paper.proofs.Digits.{number_bound}
use Rattle.paper.proofs.Places.{parts_from}
use Rattle.paper.proofs.Pieces.{part_inner}

never : {A : Type 0} → ◌≡◌ {A = ℕ} 0 1 → A
never z = absurd (omega arith)

-- ---- an additional record is read after the record before it

-- that is a 6, and the additional record is judged by it
abbrev After : List ℕ → List ℕ → Type 0
After p r = (kind_of p ≡ Individual) × (additional p r ≡ fine)

-- so is each of these records, the first of them after p
abbrev Added : List ℕ → List (List ℕ) → Type 0
Added p [] = Unit {0}
Added p (r ∷ rs) = (kind_of r ≡ Additional → After p r) × Added r rs

-- where a 6 announced one, that 6 is the record before
abbrev Announced : List ℕ → State → Type 0
Announced p s = s.before ≡ Flagged → (kind_of p ≡ Individual) × (s.individual ≡ p)

announced : (s : State) (r : List ℕ) → Announced r (next s r)
unfolding next before_next last_individual
announced s r = go (kind_of r) refl
  where
    go : (k : Kind) → kind_of r ≡ k → before_next k r ≡ Flagged → (kind_of r ≡ Individual) × (last_individual k s.individual r ≡ r)
    go FileHeader q e = never cc
    go BatchHeader q e = never cc
    go Individual q e = (q, refl)
    go Additional q e = never cc
    go BatchControl q e = never cc
    go FileControl q e = never cc
    go Other q e = never cc

only_flagged : (b : Before) (k : Kind) → Follows b k → k ≡ Additional → b ≡ Flagged
only_flagged b k file_begins e = never cc
only_flagged b k batch_opens e = never cc
only_flagged b k file_ends e = never cc
only_flagged b k first_individual e = never cc
only_flagged b k its_additional e = refl
only_flagged b k next_individual e = never cc
only_flagged b k batch_closes e = never cc

added : (rules : ReadingRules) (rs : List (List ℕ)) (s : State) (p : List ℕ) → Announced p s → Faultless rules s rs → Added p rs
unfolding fields
added rules [] s p a h = tt
added rules (r ∷ rs) s p a h = (here, added rules rs (next s r) r (announced s r) h.1)
  where
    here : kind_of r ≡ Additional → After p r
    here k =
        let j = judged_facts rules s r h.0 in
        let x = a (only_flagged s.before (kind_of r) j.order k) in
        let f : additional s.individual r ≡ fine = subst (λ (k : Kind). fields k rules s r ≡ fine) k j.fields in
        (x.0, subst (λ (i : List ℕ). additional i r ≡ fine) x.1 f)

-- the same from a place on
added_from : (i : ℕ) (p : List ℕ) (rs : List (List ℕ)) → Added p rs → (q : List ℕ) × Added q (drop i rs)
added_from zero p rs a = (p, a)
added_from (suc i) p [] a = (p, tt)
added_from (suc i) p (r ∷ rs) a = added_from i r rs a.1

-- ---- a 99 is what stands after a 36 or 31

record Explained (r : List ℕ) : Type 0 where
  pub form : T (is (field r 2 3) "99")
  pub motive : T (is (field r 4 4) "R" && digits (field r 5 6))

as_99 : (p r : List ℕ) → additional99 p r ≡ fine → Explained r
unfolding additional99
as_99 p r h = search (also_l, also_r, need_T) depth 12

as_05 : (p r : List ℕ) → additional05 p r ≡ fine → T (is (field r 2 3) "05")
unfolding additional05
as_05 p r h = search (also_l, also_r, need_T) depth 12

not_both : (r : List ℕ) → T (is (field r 2 3) "99") → T (is (field r 2 3) "05") → ⊥
not_both r a b = let e : ◌≡◌ {A = ℕ} 57 48 = ap (λ (f : List ℕ). get_or f 0 0) (sym (same→eq (field r 2 3) _ a) ∙ same→eq (field r 2 3) _ b) in omega arith

rejection : (p r : List ℕ) → additional p r ≡ fine → (rejects (code_of p) ≡ true → Explained r) × (T (is (field r 2 3) "99") → rejects (code_of p) ≡ true)
unfolding additional additional_by
rejection p r h = go (rejects (code_of p)) h
  where
    go : (b : Bool) → additional_by b p r ≡ fine → (b ≡ true → Explained r) × (T (is (field r 2 3) "99") → b ≡ true)
    go true f = ((λ e. as_99 p r f), λ t. refl)
    go false f = ((λ e. never cc), λ t. absurd (not_both r t (as_05 p r f)))

explaining : (k : Kind) (p : List ℕ) → explains k p ≡ true → (k ≡ Additional) × (rejects (code_of p) ≡ true)
unfolding explains
explaining FileHeader p e = never cc
explaining BatchHeader p e = never cc
explaining Individual p e = never cc
explaining Additional p e = (refl, e)
explaining BatchControl p e = never cc
explaining FileControl p e = never cc
explaining Other p e = never cc

-- what the test asks of any file
explains_at_lem : (file : List ℕ) (place : ℕ) → explains_at file place ≡ true
    → (place < length file / 94) × (kind_of (record_at file place) ≡ Additional) × (rejects (code_of (record_at file (place - 1))) ≡ true)
unfolding explains_at
explains_at_lem file place e =
    let inside : Bool = ltb place (length file / 94) in
    let told : Bool = explains (kind_of (record_at file place)) (record_at file (place - 1)) in
    let x = explaining (kind_of (record_at file place)) (record_at file (place - 1)) (of_T told (and_r inside told (T_of e))) in
    (ltb→lt place (length file / 94) (and_l inside told (T_of e)), x.0, x.1)

module _ (rules : ReadingRules) (file : List ℕ) (h : reading_by rules file ≡ accepted) where
  first_kind : kind_of (take 94 file) ≡ FileHeader
  first_kind = let a = facts_by rules file h in first_header rules (take 94 file) a.first.0 (rw a.first.1 at a.reads)

  after_it : (place : ℕ) → place < length file / 94 → kind_of (record_at file place) ≡ Additional → After (record_at file (place - 1)) (record_at file place)
  unfolding record_at records_of start
  after_it zero l k = let e = sym first_kind ∙ k in never cc
  after_it (suc i) l k =
      let n : ℕ = length file / 94 in
      let a = added_from i [] (records_of file) (added rules (records_of file) start [] (λ e. never cc) (facts_by rules file h).reads) in
      let x : Added a.0 (record_at file i ∷ drop (suc i) (records_of file)) = subst (Added a.0) (parts_from 94 n file i (omega arith)) a.1 in
      let y : Added (record_at file i) (record_at file (suc i) ∷ drop (suc (suc i)) (records_of file)) = subst (Added (record_at file i)) (parts_from 94 n file (suc i) l) x.1 in
      let same : suc i - 1 ≡ i = omega arith in
      rw same (y.0 k)

  module _ (place : ℕ) where
    -- a record explains a rejection exactly where it stands in the file, is of type 7 and has 99 in 2-3
    -- (not so with a test of the record before alone, or with one that takes a place past the end for the last record)
    pub explains_exactly : (explains_at file place ≡ true)
        ↔ ((place < length file / 94) × (kind_of (record_at file place) ≡ Additional) × T (is (field (record_at file place) 2 3) "99"))
    unfolding explains_at explains
    explains_exactly = (
      (λ e. let x = explains_at_lem file place e in (x.0, x.1, ((rejection _ _ (after_it place x.0 x.1).1).0 x.2).form)),
      λ x. rw (lt-ltb place (length file / 94) x.0, x.1) ((rejection _ _ (after_it place x.0 x.1).1).1 x.2),
    )

    -- it stands after a 6 with 36 or 31, and has R in 4 and a number in 5-6
    pub explains_after : explains_at file place ≡ true
        → (kind_of (record_at file (place - 1)) ≡ Individual) × (rejects (code_of (record_at file (place - 1))) ≡ true)
    explains_after e = let x = explains_at_lem file place e in ((after_it place x.0 x.1).0, x.2)

    pub explains_number : explains_at file place ≡ true → T (is (field (record_at file place) 4 4) "R") × T (digits (field (record_at file place) 5 6))
    explains_number e =
        let x = explains_at_lem file place e in
        let m = ((rejection _ _ (after_it place x.0 x.1).1).0 x.2).motive in
        (and_l (is (field (record_at file place) 4 4) "R") _ m, and_r (is (field (record_at file place) 4 4) "R") _ m)

-- ---- the text of a reason

module _ (file motives : List ℕ) (place : ℕ) where
  -- where positions 36-79 are all blank, the line for the number in 5-6
  pub text_listed : blank (field (record_at file place) 36 79) ≡ true
      → text_in (text_at file place) file motives ≡ take 44 (drop (number (field (record_at file place) 5 6) * 44) motives)
  unfolding text_in text_at
  text_listed e = rw e refl

  module _ (inside : place < length file / 94) where
    sized : length (record_at file place) ≡ 94
    unfolding record_at
    sized = length-take-le 94 (drop (place * 94) file) (rw length-drop (omega arith))

    -- one of a hundred
    pub line_number : number (field (record_at file place) 5 6) < 100
    line_number = number_bound 2 (field (record_at file place) 5 6) (simp (length-take, length-drop, sized))

    -- else those positions
    pub text_own : blank (field (record_at file place) 36 79) ≡ false → text_in (text_at file place) file motives ≡ field (record_at file place) 36 79
    unfolding text_in text_at record_at
    text_own e = rw e (sym (part_inner 35 44 (place * 94) 94 file (omega arith) (omega arith)))

    -- 44 bytes, from whichever of the two
    pub text_length : length motives ≡ 4400 → length (text_in (text_at file place) file motives) ≡ 44
    text_length lines = go (blank (field (record_at file place) 36 79)) refl
      where
        go : (b : Bool) → blank (field (record_at file place) 36 79) ≡ b → length (text_in (text_at file place) file motives) ≡ 44
        go true e = ap length (text_listed e) ∙ length-take-le 44 (drop (number (field (record_at file place) 5 6) * 44) motives) (rw length-drop (omega (arith, line_number)))
        go false e = ap length (text_own e) ∙ simp (length-take, length-drop, sized)
