-- The answer on a company's file, put together from those on its parts.
use Prim.Native.Nat.{ℕ, ◌+◌, ◌-◌, ◌*◌, ◌/◌, ◌%◌, ◌≤◌}
use mathlib.Core.Bool.{true}
use mathlib.Core.List.{List}
use mathlib.Core.Path.{◌≡◌, refl, ◌∙◌}
use native.Mathlib.Nat.{zero-add}
use native.Mathlib.Omega.{arith}
use lib.ListN.{length, take, drop}
use Rattle.paper.specs.declared.rules.Currency.{Currency}
use Rattle.paper.specs.Answers.{Said, accepted, refused, and_then, require}
use Rattle.paper.specs.Reading.{parts}
use Rattle.paper.proofs.Tests.{T_of}
use Rattle.paper.proofs.Refusals.{both_accept, required}
use Rattle.company.specs.Files.{whole_details, details_of, closing_of, lo_good, details_fault, amounts_in, closing_good, closing_fault, company_answer, company_tray}
use Rattle.company.specs.Sums.{kept}
use Rattle.company.proofs.Kept.{closing_kept}
use Rattle.company.proofs.Exactly.{length_exactly, body_exactly}
use Rattle.company.proofs.Sizes.{details_count, closing_long, tray_length}

-- what follows is asked for only where all was accepted
pub then_alike : (a : Said) {b c : Said} → (a ≡ accepted → b ≡ c) → and_then a b ≡ and_then a c
unfolding and_then
then_alike accepted h = h refl
then_alike (refused n place) h = refl

-- the closing record, by the sum that is kept
pub closes : (file : List ℕ) → 250 ≤ length file → (sum : ℕ) → sum ≡ kept (0 + amounts_in (parts 250 (length file / 250 - 1) file))
    → require (closing_good (length file / 250 - 1) sum (take 250 (drop ((length file / 250 - 1) * 250) file))) 17 (length file / 250 - 1) ≡ closing_fault file
unfolding closing_fault details_of closing_of
closes file h sum e =
    let ds = details_of file in
    rw (e, zero-add (amounts_in ds), closing_kept (length file / 250 - 1) (amounts_in ds) (closing_of file) (closing_long file h), details_count file) refl

-- an LO body that 207 does not refuse
pub body_long : (lo : List ℕ) → lo_good lo ≡ true → length lo ≡ 94
body_long lo h = ((body_exactly lo).0 (T_of h)).0

module _ (currency : Currency) (lo file : List ℕ) where
  -- of a file that is accepted
  pub accepted_so : company_answer currency lo file ≡ accepted → (length lo ≡ 94) × (250 ≤ length file) × (length file % 250 ≡ 0)
  unfolding company_answer
  accepted_so a =
      let later = and_then (details_fault currency lo 0 (details_of file)) (closing_fault file) in
      let first = both_accept (require (whole_details (length file)) 201 0) (and_then (require (lo_good lo) 207 0) later) a in
      let second = both_accept (require (lo_good lo) 207 0) later first.1 in
      let whole = (length_exactly (length file)).0 (required (whole_details (length file)) 201 0 first.0) in
      (((body_exactly lo).0 (required (lo_good lo) 207 0 second.0)).0, whole.0, whole.1)

  -- the tray takes 96 bytes for each record of the file
  pub tray_size : company_answer currency lo file ≡ accepted → length (company_tray currency lo file) ≡ length file / 250 * 96
  tray_size a = let s = accepted_so a in tray_length currency lo file s.0 ∙ omega (arith, details_count file, s.1)
