-- A company's file, its tray, and the desk: each hypothesis is what a call says, whatever was lent.
use Prim.Native.Nat.{ℕ, ◌+◌, ◌≤◌, ◌<◌}
use native.Mathlib.Omega.{arith}
use borrow.Author.Tests.{leb-false, lt-leb}
use mathlib.Core.List.{List}
use mathlib.Core.Logic.{◌↔◌, inl, inr, ⊎_elim, ⊎_map}
use mathlib.Core.Path.{◌≡◌, refl, sym, ap, ◌∙◌}
use lib.Dec.{leb, leb→le, le→leb}
use lib.ListN.{length, drop}
use Rattle.std.specs.Prelude.{Ok}
use Rattle.paper.specs.declared.answer.Fault.{Fault}
use Rattle.paper.specs.declared.answer.Fault.TheVariants.{Length, Tray}
use Rattle.paper.specs.declared.rules.Currency.{Currency}
use Rattle.paper.specs.Answers.{Output, accepted, refused, refusal, number_of, and_then, require}
use Rattle.paper.specs.Reading.{record_at, length_good, reading}
use Rattle.paper.specs.Writing.{numbered}
use Rattle.paper.specs.Trays.{tray_record_good, build}
use Rattle.paper.specs.Buffers.{told, written, room_for, buildable}
use Rattle.paper.proofs.Tests.{not_both, of_T}
use Rattle.paper.proofs.Refusals.{both_accept, required, require_met, first_refusal, require_refused, and_then_assoc}
use Rattle.paper.proofs.Numbers.{told_once, told_refused}
use Rattle.tray.specs.Trays.{tray_record_at, Sound}
use Rattle.company.specs.Details.{order_of}
use Rattle.company.specs.Files.{company_answer, company_tray, company}
use Rattle.company.specs.Promised.{detail_count, company_record_at, CompanyGood, CompanyFaulty}
use Rattle.company.proofs.Exactly.{company_exactly}
use Rattle.company.proofs.Faults.{company_faults}
use Rattle.company.proofs.Trays.{tray_good, tray_sound}
use Rattle.desk.specs.declared.Session.{Session}
use Rattle.desk.specs.Standing.{rules_of}
use Rattle.desk.specs.Lent.{handed}
use Rattle.desk.specs.Calls.{Builds, Strips}
use Rattle.desk.proofs.Lent.{answers, asked, held}
use Rattle.demands.specs.Trays.{Misshapen, TrayBad}
use Rattle.demands.specs.Company.{MakesTray, answer_to_company, tray_bytes, TrayMakeable, TrayFaulty, built_bytes, TrayBuildable}
use Rattle.demands.proofs.Lent.{numbers, inside, stays}
use Rattle.demands.proofs.Building.{build_answer, build_exactly, build_held, build_tray_named, build_too_long}
use Rattle.demands.proofs.CompanyFiles.{tray_size, company_file_length, company_file_order}
use Rattle.demands.proofs.RoundTrips.{built_then_stripped}

-- ---- the job itself

module _ (currency : Currency) (lo file before : List ℕ) (r : Output) (after : List ℕ) (h : MakesTray currency lo file before r after) where
  says : told r after ≡ written (answer_to_company currency lo file before) (company_tray currency lo file) before
  unfolding company
  says = h

  -- the first refusal is the answer: the file's, then 206
  -- (not so with the room asked for first, or with a buffer that is to hold the company's file)
  pub made_answer : (told r after).answer ≡ answer_to_company currency lo file before
  made_answer = answers (answer_to_company currency lo file before) (company_tray currency lo file) before r after says

  -- every refusal leaves the buffer as it was
  -- (not so with orders written as the details are read)
  pub made_stays : {fault : Fault} {place : ℕ} → r ≡ refusal fault place → after ≡ before
  made_stays = stays (answer_to_company currency lo file before) (company_tray currency lo file) before r after says

  -- what it counts is within the buffer
  pub made_inside : {n : ℕ} → r ≡ Ok n → n ≤ length after
  made_inside = inside (answer_to_company currency lo file before) (company_tray currency lo file) before r after says

  -- accepted exactly where LO body and file are good and there is room
  -- (not so with room asked for as long as the file is, or for the closing record too)
  pub made_exactly : (TrayMakeable currency lo file before → r ≡ Ok (tray_bytes file))
      × ((n : ℕ) → r ≡ Ok n → TrayMakeable currency lo file before)
  unfolding room_for and_then
  made_exactly =
      let new : List ℕ = company_tray currency lo file in (
        λ x.
            let a = (company_exactly currency lo file).1 x.good in
            let l = tray_size currency lo file a in
            let room = require_met (leb (length new) (length before)) 206 0 (le→leb (length new) (length before) (omega (arith, x.room))) in
            rw l at (numbers (answer_to_company currency lo file before) new before r after says (rw (a, room) refl)),
        λ n p.
            let x = both_accept (company_answer currency lo file) (room_for new before) (asked (answer_to_company currency lo file before) new before r after says p) in
            let room = leb→le (length new) (length before) (required (leb (length new) (length before)) 206 0 x.1) in
            record { good = (company_exactly currency lo file).0 x.0; room = omega (arith, tray_size currency lo file x.0) },
      )

  -- then the caller has the tray, and the rest of the buffer stays
  -- (not so with a tray without its LO, or with spaces behind the last order)
  pub made_held : {n : ℕ} → r ≡ Ok n → (handed r after ≡ company_tray currency lo file) × (drop n after ≡ drop n before)
  made_held p = let x = held (answer_to_company currency lo file before) (company_tray currency lo file) before r after says p in (x.0, x.2)

  -- the first fault is the answer, and it is a fault of the table
  -- (not so with 206 for a file that is refused anyway, or with a place that counts from 1)
  pub made_refused : (fault : Fault) (place : ℕ) → (r ≡ refusal fault place) ↔ TrayFaulty currency lo file before (number_of fault) place
  unfolding room_for and_then require
  made_refused fault place =
      let n : ℕ = number_of fault in
      let new : List ℕ = company_tray currency lo file in
      let t = told_refused r after fault place in (
        λ p.
            ⊎_map (λ x. (company_faults currency lo file n place).0 x)
            (λ x.
            let q = require_refused (leb (length new) (length before)) 206 0 x.1 in
            ((company_exactly currency lo file).0 x.0, omega (arith, leb-false (length new) (length before) q.0, tray_size currency lo file x.0), q.1, q.2))
            (first_refusal (company_answer currency lo file) (room_for new before) (sym made_answer ∙ t.0 p)),
        λ f. t.1 (made_answer ∙ ⊎_elim by_file by_room f),
      )
    where
      by_file : CompanyFaulty currency lo file (number_of fault) place → answer_to_company currency lo file before ≡ refused (number_of fault) place
      by_file x = rw ((company_faults currency lo file (number_of fault) place).1 x) refl

      by_room : CompanyGood currency lo file × (length before < tray_bytes file) × (number_of fault ≡ 206) × (place ≡ 0)
          → answer_to_company currency lo file before ≡ refused (number_of fault) place
      by_room x =
          let a = (company_exactly currency lo file).1 x.0 in
          rw (a, lt-leb (length (company_tray currency lo file)) (length before) (omega (arith, x.1, tray_size currency lo file a)), x.2, x.3) refl

  -- one outcome only
  -- (not so with a job that goes on from the tray of the call before)
  pub made_once : (q : Output) (later : List ℕ) → MakesTray currency lo file before q later → (r ≡ q) × (after ≡ later)
  made_once q later k = told_once r q after later (h ∙ sym k)

-- ---- at the desk

module _ (currency : Currency) (lo file : List ℕ) (good : company_answer currency lo file ≡ accepted)
    (s : Session) (header before : List ℕ) (body : length header ≡ 94) (r : Output) (after : List ℕ)
    (h : Builds s header (company_tray currency lo file) before r after) where
  abbrev tray : List ℕ
  tray = company_tray currency lo file

  abbrev built : List ℕ
  built = build header tray

  -- building answers a company's tray with 201, with 206, else with what the reading says of the file built
  -- (not so with a tray that has numbers in 88-94, or with one that ends in a closing record)
  pub company_build_answer : (told r after).answer
      ≡ and_then (require (length_good (length built)) 201 0) (and_then (room_for built before) (reading (rules_of s) built))
  unfolding buildable and_then
  company_build_answer =
      build_answer s header tray before r after h
      ∙ rw (tray_good currency lo file good header body)
      (and_then_assoc (require (length_good (length built)) 201 0) (room_for built before) (reading (rules_of s) built))

  -- 201 at 0, whatever else, of more than 9,996 details
  -- (not so with 201 by the company's own bytes)
  pub company_too_long : 9996 < detail_count file → (r ≡ refusal Length 0) × (after ≡ before)
  company_too_long l =
      let long = company_file_length currency lo file good header body in
      build_too_long s header tray before r after h (tray_good currency lo file good header body) (omega arith)

  -- never with 207
  -- (not so with an order under the mark LO, or with a body of 93 bytes)
  pub company_not_207 : (place : ℕ) → r ≡ refusal Tray place → ⊥
  unfolding tray_record_at
  company_not_207 place p = go ((build_tray_named s header tray before r after h place).0 p)
    where
      sound : Sound tray
      sound = tray_sound currency lo file good

      shape : Misshapen header tray → ⊥
      shape (inl x) = x body
      shape (inr x) = x sound.whole

      go : TrayBad header tray place → ⊥
      go (inl x) = shape x.0
      go (inr x) = not_both (of_T (tray_record_good (tray_record_at tray place)) (sound.good place (omega (arith, x.there)))) x.bad

  -- accepted exactly where the file built is not too long, has room and passes the reading: nothing is asked of the tray any more
  -- (not so with a tray that building refuses for its own sake)
  pub company_built : (TrayBuildable s header tray file before → r ≡ Ok (built_bytes file))
      × ((n : ℕ) → r ≡ Ok n → TrayBuildable s header tray file before)
  unfolding tray_record_at
  company_built =
      let sound = tray_sound currency lo file good in
      let l = company_file_length currency lo file good header body in
      let e = build_exactly s header tray before r after h in (
        λ x.
            rw l at (e.0 record {
              body = body;
              whole = sound.whole;
              good = λ k b. sound.good k (omega arith);
              short = omega (arith, x.few);
              room = omega (arith, x.room);
              reads = x.reads;
            }),
        λ n p. let x = e.1 n p in record { few = omega (arith, x.short); room = omega (arith, x.room); reads = x.reads },
      )

  -- then the caller has a file whose record two behind a detail's place is that detail's order, numbered
  -- (not so with orders in the order of their entities, or with numbers that go on from an earlier file)
  pub company_hands : {n : ℕ} → r ≡ Ok n → (k : ℕ) → k < detail_count file
      → record_at (handed r after) (k + 2) ≡ numbered (k + 1) (order_of currency lo (company_record_at file k))
  company_hands p k b =
      ap (λ (f : List ℕ). record_at f (k + 2)) (build_held s header tray before r after h p).0 ∙ company_file_order currency lo file good header body k b

  -- and stripping that file in that session, or in one of the same date, currency and roster, with room for the tray, returns the company's tray
  -- (not so with a build that leaves out an order, or a strip that leaves the file's numbers in 88-94)
  module _ {n : ℕ} (p : r ≡ Ok n) (t : Session) (same : rules_of t ≡ rules_of s)
      (other : List ℕ) (q : Output) (later : List ℕ) (k : Strips t (handed r after) other q later) (room : tray_bytes file ≤ length other) where
    pub company_comes_back : (q ≡ Ok (tray_bytes file)) × (handed q later ≡ tray)
        × (drop (tray_bytes file) later ≡ drop (tray_bytes file) other)
    company_comes_back =
        let l : length tray ≡ tray_bytes file = tray_size currency lo file good in
        let x = built_then_stripped s header tray before r after h p t same other q later k (omega arith) in
        (rw l at x.0, x.1, rw l at x.2)
