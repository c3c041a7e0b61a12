-- The company's file is refused exactly with its first fault, at its place.
use Prim.Native.Nat.{ℕ, zero, suc, ◌+◌, ◌*◌, ◌<◌}
use native.Mathlib.Omega.{arith}
use mathlib.Core.Bool.{false}
use mathlib.Core.List.{List}
use mathlib.Core.Logic.{◌↔◌, inl, inr, ⊎_elim}
use mathlib.Core.Path.{◌≡◌, refl, sym, ap, ◌∙◌, subst}
use lib.ListN.{length, take, drop}
use Rattle.paper.specs.declared.rules.Currency.{Currency}
use Rattle.paper.specs.Answers.{Said, refused, and_then, require}
use Rattle.paper.specs.Checks.{Check, fine, wrong}
use Rattle.paper.specs.Reading.{parts, at}
use Rattle.paper.proofs.Tests.{of_T}
use Rattle.paper.proofs.Refusals.{refused_not, first_refusal, require_refused, required}
use Rattle.company.specs.Details.{detail}
use Rattle.company.specs.Files.{whole_details, details_of, closing_of, lo_good, details_fault, amounts_in, closing_good, closing_fault, company_answer}
use Rattle.company.specs.Promised.{detail_count, company_record_at, FirstAtFault, CompanyFaulty}
use Rattle.company.proofs.Sizes.{details_count}
use Rattle.company.proofs.Asked.{detail_exactly}
use Rattle.company.proofs.Exactly.{next_part, one_more_part, Fine, details_exactly}

module _ (currency : Currency) (lo : List ℕ) (n place : ℕ) where
  -- of m records from the front of a list on, the first of them at place i: detail k is the first at fault
  record FaultFrom (m : ℕ) (l : List ℕ) (i k : ℕ) : Type 0 where
    pub there : k < m
    pub stands : place ≡ i + k
    pub before : (j : ℕ) → j < k → Fine currency lo (take 250 (drop (j * 250) l))
    pub fault : detail currency lo (take 250 (drop (k * 250) l)) ≡ wrong n

  faults_found : (m : ℕ) (l : List ℕ) (i : ℕ) → details_fault currency lo i (parts 250 m l) ≡ refused n place → (k : ℕ) × FaultFrom m l i k
  unfolding parts details_fault and_then at
  faults_found zero l i h = absurd (refused_not (sym h))
  faults_found (suc m) l i h = go (detail currency lo (take 250 l)) refl h (faults_found m (drop 250 l) (i + 1))
    where
      go : (c : Check) → detail currency lo (take 250 l) ≡ c
          → and_then (at i c) (details_fault currency lo (i + 1) (parts 250 m (drop 250 l))) ≡ refused n place
          → (details_fault currency lo (i + 1) (parts 250 m (drop 250 l)) ≡ refused n place → (k : ℕ) × FaultFrom m (drop 250 l) (i + 1) k)
          → (k : ℕ) × FaultFrom (suc m) l i k
      go fine e h later =
          let x = later h in
          let k : ℕ = x.0 in (
            suc k,
            record {
              there = omega (arith, x.1.there);
              stands = omega (arith, x.1.stands);
              before = one_more_part (Fine currency lo) 250 k l e x.1.before;
              fault = rw (← next_part 250 k l) x.1.fault;
            },
          )
      go (wrong x) e h later =
          let p : i ≡ place = cc in
          let q : x ≡ n = cc in
          (0, record { there = omega arith; stands = omega arith; before = λ j b. absurd (omega arith); fault = e ∙ ap wrong q })

  faults_named : (m : ℕ) (l : List ℕ) (i k : ℕ) → FaultFrom m l i k → details_fault currency lo i (parts 250 m l) ≡ refused n place
  unfolding parts details_fault and_then at
  faults_named zero l i k f = absurd (omega (arith, f.there))
  faults_named (suc m) l i zero f = let p : i ≡ place = omega (arith, f.stands) in rw (f.fault, p) refl
  faults_named (suc m) l i (suc k) f =
      rw (f.before 0 (omega arith))
      (faults_named m (drop 250 l) (i + 1) k
      record {
        there = omega (arith, f.there);
        stands = omega (arith, f.stands);
        before = λ j b. rw (next_part 250 j l) (f.before (suc j) (omega arith));
        fault = rw (next_part 250 k l) f.fault;
      })

module _ (currency : Currency) (lo file : List ℕ) (n place : ℕ) where
  abbrev detail_tests : Said
  detail_tests = details_fault currency lo 0 (details_of file)

  first_found : detail_tests ≡ refused n place → FirstAtFault currency lo file n place
  unfolding details_of
  first_found h =
      let x = faults_found currency lo n place (detail_count file) file 0 h in
      let p : x.0 ≡ place = omega (arith, x.1.stands) in
      record {
        there = omega (arith, x.1.there);
        before = λ k b. (detail_exactly currency lo (company_record_at file k)).0 (x.1.before k (omega arith));
        fault = subst (λ (k : ℕ). detail currency lo (company_record_at file k) ≡ wrong n) p x.1.fault;
      }

  first_named : FirstAtFault currency lo file n place → detail_tests ≡ refused n place
  unfolding details_of
  first_named f =
      faults_named currency lo n place (detail_count file) file 0 place
      record { there = f.there; stands = omega arith; before = λ k b. (detail_exactly currency lo (company_record_at file k)).1 (f.before k b); fault = f.fault }

  last_named : closing_fault file ≡ refused n place
      → (closing_good (detail_count file) (amounts_in (details_of file)) (company_record_at file (detail_count file)) ≡ false) × (n ≡ 17) × (place ≡ detail_count file)
  unfolding closing_fault closing_of
  last_named h =
      rw (details_count file) at (require_refused (closing_good (length (details_of file)) (amounts_in (details_of file)) (closing_of file)) 17 (length (details_of file)) h)

  named : company_answer currency lo file ≡ refused n place → CompanyFaulty currency lo file n place
  unfolding company_answer
  named h =
      ⊎_elim (λ x. inl (require_refused (whole_details (length file)) 201 0 x))
      (λ a.
      let w = required (whole_details (length file)) 201 0 a.0 in
      ⊎_elim (λ x. let q = require_refused (lo_good lo) 207 0 x in inr (inl (w, q.0, q.1, q.2)))
      (λ b.
      let l = required (lo_good lo) 207 0 b.0 in
      ⊎_elim (λ x. inr (inr (inl (w, l, first_found x))))
      (λ c. let q = last_named c.1 in inr (inr (inr (w, l, (details_exactly currency lo file).0 c.0, q.0, q.1, q.2))))
      (first_refusal _ _ b.1))
      (first_refusal _ _ a.1))
      (first_refusal _ _ h)

  given : CompanyFaulty currency lo file n place → company_answer currency lo file ≡ refused n place
  unfolding company_answer closing_fault closing_of and_then require
  given (inl x) = rw (x.0, x.1, x.2) refl
  given (inr (inl x)) = rw (of_T (whole_details (length file)) x.0, x.1, x.2, x.3) refl
  given (inr (inr (inl x))) = rw (of_T (whole_details (length file)) x.0, of_T (lo_good lo) x.1, first_named x.2) refl
  given (inr (inr (inr x))) =
      rw (of_T (whole_details (length file)) x.0, of_T (lo_good lo) x.1, (details_exactly currency lo file).1 x.2, details_count file, x.3, x.4, x.5) refl

  -- "the first fault is the answer"
  -- (not so with the LO body judged before the length, a date asked for before the amount, the last detail at fault named, or 17 for the closing record at 0)
  pub company_faults : (company_answer currency lo file ≡ refused n place) ↔ CompanyFaulty currency lo file n place
  company_faults = (named, given)
