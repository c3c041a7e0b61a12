-- The tray that is made of an accepted file: its records, that building takes it, and that nothing of the file is lost in it.
use Prim.Native.Nat.{ℕ, ◌+◌, ◌/◌, ◌%◌, ◌<◌}
use native.Mathlib.Numerals.{add-one}
use native.Mathlib.Nat.{add-zero}
use native.Mathlib.Omega.{arith}
use mathlib.Core.List.{List, [], ◌∷◌, ◌++◌, map}
use mathlib.Core.Path.{◌≡◌, refl, sym, ap, ◌∙◌, ap₂}
use lib.Dec.{T, eqb, eqb→eq}
use lib.ListN.{length, get_or, drop, length-append, length-map, get_or-map}
use lib.Seq.{get_or-drop}
use Rattle.paper.specs.declared.record.Kind.{Kind}
use Rattle.paper.specs.declared.rules.Currency.{Currency}
use Rattle.paper.specs.Answers.{accepted, and_then, require}
use Rattle.paper.specs.Fields.{bytes, field, digits, same, value, number, spells}
use Rattle.paper.specs.Writing.{joined}
use Rattle.paper.specs.Trays.{tray_records, mark_good, tray_record_good, tray_fault, batches_after}
use Rattle.paper.specs.Buffers.{tray_answer}
use Rattle.paper.proofs.Tests.{and_l, and_r, of_T}
use Rattle.paper.proofs.Refusals.{require_met}
use Rattle.paper.proofs.Lists.{Sized, records_joined}
use Rattle.tray.specs.Trays.{tray_record_at, body_at, bodies, Sound, batches_in}
use Rattle.tray.proofs.Places.{records_at, sound_of}
use Rattle.company.specs.Details.{order_of}
use Rattle.company.specs.Files.{details_of, closing_of, lo_good, amounts_in, company_answer, tray_of, company_tray}
use Rattle.company.specs.Promised.{OrderFor, company_record_at, detail_count, CompanyGood, amounts_of}
use Rattle.company.proofs.Sizes.{details_long, details_count, details_at, detail_long, marked_order, orders_sized, tray_length}
use Rattle.company.proofs.OrderFields.{its_type, its_zeros, its_amount, order_for}
use Rattle.company.proofs.Asked.{detail_exactly}
use Rattle.company.proofs.Exactly.{opens_batch_lem, body_exactly, company_exactly}

-- the first of what is left
pub first_left : (l : List (List ℕ)) (k : ℕ) {x : List ℕ} {rest : List (List ℕ)} (d : List ℕ) → drop k l ≡ x ∷ rest → get_or l k d ≡ x
first_left l k d e = ap (λ (n : ℕ). get_or l n d) (sym (add-zero k)) ∙ sym (get_or-drop k l 0 d) ∙ ap (λ (t : List (List ℕ)). get_or t 0 d) e

spelled_number : (f : List ℕ) (n : ℕ) → T (spells f n) → number f ≡ n
unfolding spells number
spelled_number f n t = rw (of_T (digits f) (and_l (digits f) (eqb (value f) n) t)) (eqb→eq (value f) n (and_r (digits f) (eqb (value f) n) t))

module _ (currency : Currency) (lo : List ℕ) (lo_long : length lo ≡ 94) where
  -- an order is marked as an individual
  order_good : (r : List ℕ) → length r ≡ 250 → T (tray_record_good (marked_order currency lo r))
  unfolding tray_record_good mark_good same
  order_good r l = rw (its_type currency lo r lo_long l, its_zeros currency lo r lo_long l) tt

  orders_pass : (rs : List (List ℕ)) (place : ℕ) → Sized 250 rs → tray_fault place (map (marked_order currency lo) rs) ≡ accepted
  unfolding tray_fault and_then
  orders_pass [] place z = refl
  orders_pass (r ∷ rs) place z =
      rw (require_met (tray_record_good (marked_order currency lo r)) 207 place (order_good r z.0)) (orders_pass rs (place + 1) z.1)

  -- and has the detail's amount
  amounts_kept : (rs : List (List ℕ)) → Sized 250 rs → amounts_of (map (drop 2) (map (marked_order currency lo) rs)) ≡ amounts_in rs
  unfolding amounts_of amounts_in
  amounts_kept [] z = refl
  amounts_kept (r ∷ rs) z = ap₂ ◌+◌ (its_amount currency lo r lo_long z.0) (amounts_kept rs z.1)

  -- it opens no batch
  orders_inside : (rs : List (List ℕ)) (b : ℕ) → Sized 250 rs → batches_in b (map (drop 2) (map (marked_order currency lo) rs)) ≡ b
  unfolding batches_in batches_after
  orders_inside [] b z = refl
  orders_inside (r ∷ rs) b z =
      let rest : List (List ℕ) = map (drop 2) (map (marked_order currency lo) rs) in
      ap (λ (k : Kind). batches_in (batches_after k b) rest) (its_type currency lo r lo_long z.0) ∙ orders_inside rs b z.1

module _ (currency : Currency) (lo file : List ℕ) (h : company_answer currency lo file ≡ accepted) where
  abbrev tray : List ℕ
  tray = company_tray currency lo file

  abbrev orders : List (List ℕ)
  orders = map (marked_order currency lo) (details_of file)

  good : CompanyGood currency lo file
  good = (company_exactly currency lo file).0 h

  first_good : T (tray_record_good (bytes "LO" ++ lo))
  unfolding lo_good
  first_good = and_r (eqb (length lo) 94) (tray_record_good (bytes "LO" ++ lo)) ((body_exactly lo).1 (good.body, good.opens, good.tail))

  -- the LO, and then an individual for each detail, in order; no other record
  -- (not so with an LO before every detail, an additional behind an order, or a detail of the same account left out)
  pub tray_records_lem : tray_records tray ≡ (bytes "LO" ++ lo) ∷ map (λ r. bytes "IN" ++ order_of currency lo r) (details_of file)
  unfolding tray_records tray_of joined
  tray_records_lem =
      records_joined 96 ((bytes "LO" ++ lo) ∷ orders) (omega arith)
      (length-append (bytes "LO") lo ∙ omega (arith, good.body), orders_sized currency lo (details_of file) good.body (details_long file))

  -- building does not refuse it with 207, whatever the header of 94 bytes
  -- (not so with numbers already in 88-94, or with orders under the mark LO)
  pub tray_good : (header : List ℕ) → length header ≡ 94 → tray_answer header tray ≡ accepted
  unfolding tray_answer tray_fault and_then require
  tray_good header l =
      let m : length tray % 96 ≡ 0 = omega (arith, tray_length currency lo file good.body) in
      let first = require_met (tray_record_good (bytes "LO" ++ lo)) 207 0 first_good in
      rw (l, m, tray_records_lem, first) (orders_pass currency lo good.body (details_of file) 1 (details_long file))

  -- (not so with a last order cut short)
  pub tray_sound : Sound tray
  tray_sound = (sound_of lo tray (tray_good lo good.body)).1

  -- all in one batch
  -- (not so with a batch for each entity)
  pub tray_batches : batches_in 0 (bodies tray) ≡ 1
  unfolding batches_in batches_after
  tray_batches =
      ap (λ (ts : List (List ℕ)). batches_in 0 (map (drop 2) ts)) tray_records_lem
      ∙ ap (λ (k : Kind). batches_in (batches_after k 0) (map (drop 2) orders)) (opens_batch_lem lo good.body good.opens)
      ∙ orders_inside currency lo good.body (details_of file) 1 (details_long file)

  -- record k + 1 is the order of detail k
  pub order_at : (k : ℕ) → k < length (details_of file) → body_at tray (k + 1) ≡ order_of currency lo (company_record_at file k)
  unfolding body_at
  order_at k b =
      let n : length tray / 96 ≡ length (details_of file) + 1 = omega (arith, tray_length currency lo file good.body) in
      let f : List ℕ → List ℕ = marked_order currency lo in
      let at : ℕ = k + 1 in
      let there : get_or (tray_records tray) at (f []) ≡ tray_record_at tray at = first_left (tray_records tray) at (f []) (records_at tray at (omega arith)) in
      let here : get_or (details_of file) k [] ≡ company_record_at file k = first_left (details_of file) k [] (details_at file k b) in
      let kept : get_or ((bytes "LO" ++ lo) ∷ orders) at (f []) ≡ f (company_record_at file k) = rw add-one (get_or-map f (details_of file) k [] ∙ ap f here) in
      ap (drop 2) (sym there ∙ ap (λ (ts : List (List ℕ)). get_or ts at (f [])) tray_records_lem ∙ kept)

  -- and holds what is promised
  -- (not so with orders sorted by entity, or with one order for all details of an account)
  pub tray_order : (k : ℕ) → k < length (details_of file) → OrderFor currency lo (company_record_at file k) (body_at tray (k + 1))
  tray_order k b =
      let r : List ℕ = company_record_at file k in
      let fine = (detail_exactly currency lo r).1 (good.details k (omega (arith, details_count file))) in
      rw (order_at k b) (order_for currency lo r good.body (detail_long file k b) fine)

  -- ---- nothing is lost

  -- the amounts of the tray's individuals add up to the closing record's
  -- (not so with an amount's last two digits cut off as cents, or with a detail of the other currency skipped)
  pub tray_amounts : amounts_of (drop 1 (bodies tray)) ≡ number (field (closing_of file) 104 113)
  unfolding closing_of
  tray_amounts =
      ap (λ (ts : List (List ℕ)). amounts_of (drop 1 (map (drop 2) ts))) tray_records_lem
      ∙ amounts_kept currency lo good.body (details_of file) (details_long file)
      ∙ sym (spelled_number (field (closing_of file) 104 113) (amounts_in (details_of file)) good.closing.cents)

  -- and their number is both of its counts
  -- (not so with the closing record counted too)
  pub tray_count : (length (drop 1 (bodies tray)) ≡ number (field (closing_of file) 2 11)) × (length (drop 1 (bodies tray)) ≡ number (field (closing_of file) 12 18))
  unfolding closing_of
  tray_count =
      let n : length (drop 1 (bodies tray)) ≡ detail_count file =
      ap (λ (ts : List (List ℕ)). length (drop 1 (map (drop 2) ts))) tray_records_lem
      ∙ length-map orders (drop 2) ∙ length-map (details_of file) (marked_order currency lo) ∙ details_count file in (
        n ∙ sym (spelled_number (field (closing_of file) 2 11) (detail_count file) good.closing.records),
        n ∙ sym (spelled_number (field (closing_of file) 12 18) (detail_count file) good.closing.debits),
      )
