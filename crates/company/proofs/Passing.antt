-- The pass over the details, one further: the first fault, and the sum.
use Prim.Native.Nat.{ℕ, ◌+◌, ◌≤◌, ◌<◌}
use mathlib.Core.List.{List, [], ◌∷◌}
use mathlib.Core.Path.{◌≡◌, refl, sym, ap, ◌∙◌}
use native.Mathlib.Nat.{add-zero}
use native.Mathlib.Numerals.{add-one}
use native.Mathlib.Omega.{arith}
use lib.ListN.{drop, drop_of_length-le}
use Rattle.paper.specs.declared.rules.Currency.{Currency}
use Rattle.paper.specs.Answers.{accepted, refused, and_then}
use Rattle.paper.specs.Checks.{fine, wrong}
use Rattle.paper.specs.Fields.{number}
use Rattle.paper.specs.Reading.{parts, at}
use Rattle.paper.proofs.Lists.{length_parts}
use Rattle.paper.proofs.Places.{parts_from}
use Rattle.company.specs.Details.{cents_in, detail}
use Rattle.company.specs.Files.{details_fault, amounts_in}
use Rattle.company.specs.Sums.{kept}
use Rattle.company.specs.Promised.{company_record_at}
use Rattle.company.proofs.Kept.{kept_on, kept_twice}

-- the details at the front
abbrev pub front : ℕ → List ℕ → List (List ℕ)
front details file = parts 250 details file

module _ (file : List ℕ) (details place : ℕ) where
  here : place < details → drop place (front details file) ≡ company_record_at file place ∷ drop (place + 1) (front details file)
  here h = rw add-one (parts_from 250 details file place h)

  none : details ≤ place → drop place (front details file) ≡ []
  none h = drop_of_length-le (front details file) {i = place} (omega (arith, length_parts 250 details file))

  -- the first fault
  module _ (currency : Currency) (lo : List ℕ) (from : ℕ) where
    pub one_judged : place < details
        → details_fault currency lo (from + place) (drop place (front details file))
        ≡ and_then (at (from + place) (detail currency lo (company_record_at file place))) (details_fault currency lo (from + (place + 1)) (drop (place + 1) (front details file)))
    unfolding details_fault
    one_judged h =
        let k : from + place + 1 ≡ from + (place + 1) = omega arith in
        rw (here h, k) refl

    pub ends : details ≤ place → details_fault currency lo (from + place) (drop place (front details file)) ≡ accepted
    unfolding details_fault
    ends h = rw (none h)

  -- the sum
  pub one_added : place < details → (before sum : ℕ) → sum ≡ kept (before + number (cents_in (company_record_at file place)))
      → kept (before + amounts_in (drop place (front details file))) ≡ kept (sum + amounts_in (drop (place + 1) (front details file)))
  unfolding amounts_in
  one_added h before sum e =
      let a : ℕ = number (cents_in (company_record_at file place)) in
      let rest : ℕ = amounts_in (drop (place + 1) (front details file)) in
      let k : before + (a + rest) ≡ before + a + rest = omega arith in
      rw (here h, e) (ap kept k ∙ sym (kept_on (before + a) rest))

  pub all_added : details ≤ place → (sum : ℕ) → kept (sum + amounts_in (drop place (front details file))) ≡ kept sum
  unfolding amounts_in
  all_added h sum = rw (none h, add-zero sum)

pub at_fine : (place : ℕ) → at place fine ≡ accepted
unfolding at
at_fine place = refl

pub at_wrong : (place n : ℕ) → at place (wrong n) ≡ refused n place
unfolding at
at_wrong place n = refl

-- what the check needs of the pass
pub ruleset passing = (one_judged, ends, one_added, all_added, kept_on, kept_twice, at_fine, at_wrong)
