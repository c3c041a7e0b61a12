-- A company's file of more than 10,000 records, for a buffer of at most 10,000: 201, 207, the first fault of its records, else 206. It is told piece by
-- piece: so a program that cannot hold such a file may still answer it exactly as the library does.
use Prim.Native.Nat.{ℕ, ◌/◌, ◌%◌, ◌≤◌, ◌<◌}
use native.Mathlib.Omega.{arith}
use mathlib.Core.Bool.{Bool, true, false, ◌&&◌}
use mathlib.Core.List.{List}
use mathlib.Core.Path.{◌≡◌, refl, sym, ap, ap₂, ◌∙◌}
use borrow.Author.Tests.{lt-ltb, le-ltb, lt-leb, leb-true, leb-false}
use lib.Dec.{leb, ltb, eqb}
use lib.ListN.{length}
use Rattle.paper.specs.declared.rules.Currency.{Currency}
use Rattle.std.specs.Prelude.{Some, None}
use Rattle.paper.specs.declared.answer.Refusal.{Refusal}
use Rattle.paper.specs.Answers.{Said, accepted, refused, said, refused_by, and_then, require}
use Rattle.paper.specs.Buffers.{room_for, written}
use Rattle.paper.proofs.Refusals.{and_then_assoc, required}
use Rattle.tray.specs.Seen.{most_seen}
use Rattle.company.specs.declared.pieces.Pieces.{Pieces}
use Rattle.company.specs.Files.{whole_details, details_of, lo_good, details_fault, closing_fault, company_answer, company_tray, company}
use Rattle.company.specs.Seen.{CompanySeen, CompanyTells}
use Rattle.company.proofs.Exactly.{length_exactly, body_exactly}
use Rattle.company.proofs.Answering.{then_alike, accepted_so, tray_size}

answer_written : (a : Said) (new buffer : List ℕ) → (written a new buffer).answer ≡ a
unfolding written
answer_written accepted new buffer = refl
answer_written (refused n place) new buffer = refl

module _ (currency : Currency) (lo file before : List ℕ) (long : 2500000 < length file) (short : length before ≤ 960000) where
  -- there is no room for its tray
  no_room : company_answer currency lo file ≡ accepted → room_for (company_tray currency lo file) before ≡ refused 206 0
  unfolding room_for require
  no_room a = rw (lt-leb (length (company_tray currency lo file)) (length before) (omega (arith, tray_size currency lo file a, (accepted_so currency lo file a).2)))

  -- the answer, whatever the buffer holds
  -- (not so with 206 before a fault of the records, or with 201 for so long a file)
  pub long_company_lem : (company currency lo file before).answer ≡ and_then (company_answer currency lo file) (refused 206 0)
  unfolding company
  long_company_lem =
      answer_written (and_then (company_answer currency lo file) (room_for (company_tray currency lo file) before)) (company_tray currency lo file) before
      ∙ then_alike (company_answer currency lo file) no_room

-- whole records, by how many there are
whole_so : (n : ℕ) → (ltb 0 (n / 250) && eqb (n % 250) 0) ≡ whole_details n
unfolding whole_details
whole_so n = go (leb 250 n) refl
  where
    go : (b : Bool) → leb 250 n ≡ b → (ltb 0 (n / 250) && eqb (n % 250) 0) ≡ (b && eqb (n % 250) 0)
    go true e = rw (lt-ltb 0 (n / 250) (omega (arith, leb-true 250 n e)))
    go false e = rw (le-ltb 0 (n / 250) (omega (arith, leb-false 250 n e)))

-- what is told by what is known after its pieces is said of the whole
-- (not so with a file without end taken for one that has ended, or with 206 before the closing record is judged)
pub company_told : (currency : Currency) (lo file : List ℕ) (p : Pieces) → CompanySeen currency lo p file → (r : Refusal) → CompanyTells p lo (Some r)
    → refused_by r ≡ and_then (company_answer currency lo file) (refused 206 0)
unfolding company_answer
company_told currency lo file p s r t =
    let w = s.whole t.0 in
    let ends = and_then (details_fault currency lo 0 (details_of file)) (closing_fault file) in
    let body = and_then (require (lo_good lo) 207 0) ends in
    let whole = require (whole_details (length file)) 201 0 in
    t.1
    ∙ ap (λ (b : Bool). and_then (require b 201 0) (and_then (require (lo_good lo) 207 0) (and_then (said p.ending) (refused 206 0))))
    (ap₂ (λ (n m : ℕ). ltb 0 n && eqb m 0) w.records w.left ∙ whole_so (length file))
    ∙ then_alike whole (λ some.
    let long = ((length_exactly (length file)).0 (required (whole_details (length file)) 201 0 some)).0 in
    then_alike (require (lo_good lo) 207 0) (λ g. ap (λ (x : Said). and_then x (refused 206 0)) ((w.found ((body_exactly lo).0 (required (lo_good lo) 207 0 g)).0).ending long))
    ∙ sym (and_then_assoc (require (lo_good lo) 207 0) ends (refused 206 0)))
    ∙ sym (and_then_assoc whole body (refused 206 0))

-- a file that is told to have no end has more than 2^60 records
pub company_endless : (currency : Currency) (lo file : List ℕ) (p : Pieces) → CompanySeen currency lo p file → CompanyTells p lo None → most_seen < length file / 250
company_endless currency lo file p s t = s.endless t
