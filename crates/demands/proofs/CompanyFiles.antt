-- The file that the desk builds of a company's tray, record by record.
use Prim.Native.Nat.{ℕ, zero, suc, ◌+◌, ◌/◌, ◌<◌}
use native.Mathlib.Nat.{add-zero}
use native.Mathlib.Numerals.{add-two}
use native.Mathlib.Omega.{arith}
use mathlib.Core.List.{List, [], ◌∷◌, ◌++◌, map}
use mathlib.Core.Path.{◌≡◌, refl, sym, ap, ◌∙◌}
use lib.ListN.{length, get_or, drop, length-append}
use Rattle.paper.specs.declared.record.Kind.{Kind}
use Rattle.paper.specs.declared.record.Kind.TheVariants.{FileHeader, BatchHeader, Individual}
use Rattle.paper.specs.declared.rules.Currency.{Currency}
use Rattle.paper.specs.Answers.{accepted}
use Rattle.paper.specs.Kinds.{kind_of}
use Rattle.paper.specs.Reading.{Reckoning, nothing_counted, counted, record_at, records_of}
use Rattle.paper.specs.Writing.{numbered, owed, settled, owed_before, settled_before, ending, with_controls}
use Rattle.paper.specs.Trays.{batches_after, individuals_after, numbered_by, numbering, build}
use Rattle.paper.proofs.Lists.{Sized, length_parts, kind_numbered}
use Rattle.paper.proofs.Closing.{after_writing, closing_records}
use Rattle.paper.proofs.Places.{parts_from}
use Rattle.paper.proofs.Round.{numbering_sized}
use Rattle.tray.specs.Trays.{bodies}
use Rattle.tray.proofs.Places.{bodies_sized}
use Rattle.company.specs.Details.{order_of}
use Rattle.company.specs.Files.{details_of, company_answer, company_tray}
use Rattle.company.specs.Promised.{detail_count, company_record_at, CompanyGood}
use Rattle.company.proofs.Sizes.{details_long, details_count, details_at, marked_order, order_length, tray_length}
use Rattle.company.proofs.OrderFields.{its_type}
use Rattle.company.proofs.Exactly.{opens_batch_lem, company_exactly}
use Rattle.company.proofs.Trays.{first_left, tray_records_lem, tray_sound, tray_batches}
use Rattle.building.proofs.Sizes.{build_length}
use Rattle.demands.specs.Company.{tray_bytes, built_bytes, numbered_orders}

module _ (currency : Currency) (lo : List ℕ) (lo_long : length lo ≡ 94) where
  -- building numbers the orders 1, 2, ..
  orders_numbered : (rs : List (List ℕ)) (b n : ℕ) → Sized 250 rs
      → numbering b n (map (drop 2) (map (marked_order currency lo) rs)) ≡ numbered_orders currency lo (suc n) rs
  unfolding numbering numbered_orders numbered_by batches_after individuals_after
  orders_numbered [] b n z = refl
  orders_numbered (r ∷ rs) b n z =
      let o : List ℕ = order_of currency lo r in
      let rest : List (List ℕ) = map (drop 2) (map (marked_order currency lo) rs) in
      ap (λ (k : Kind). numbered_by k b n o ∷ numbering (batches_after k b) (individuals_after k n) rest) (its_type currency lo r lo_long z.0)
      ∙ ap (λ (os : List (List ℕ)). numbered (suc n) o ∷ os) (orders_numbered rs b (suc n) z.1)

  -- and puts controls behind them only
  controls_behind : (rs : List (List ℕ)) (n : ℕ) (c : Reckoning) → Sized 250 rs
      → (d : Reckoning) × (with_controls c (numbered_orders currency lo n rs) ≡ numbered_orders currency lo n rs ++ ending d)
  unfolding numbered_orders with_controls owed_before settled_before
  controls_behind [] n c z = (c, refl)
  controls_behind (r ∷ rs) n c z =
      let o : List ℕ = numbered n (order_of currency lo r) in
      let os : List (List ℕ) = numbered_orders currency lo (suc n) rs in
      let l = order_length currency lo r lo_long z.0 in
      let k : kind_of o ≡ Individual = kind_numbered n (order_of currency lo r) (omega arith) ∙ its_type currency lo r lo_long z.0 in
      let x = controls_behind rs (suc n) (after_writing Individual c o) z.1 in
      (x.0, ap (λ (k : Kind). owed_before k c ++ o ∷ with_controls (after_writing k c o) os) k ∙ ap (λ (t : List (List ℕ)). o ∷ t) x.1)

  numbered_at : (rs rest : List (List ℕ)) (n k : ℕ) → k < length rs
      → get_or (numbered_orders currency lo n rs ++ rest) k [] ≡ numbered (n + k) (order_of currency lo (get_or rs k []))
  unfolding numbered_orders
  numbered_at [] rest n k h = absurd (omega arith)
  numbered_at (r ∷ rs) rest n zero h = rw add-zero refl
  numbered_at (r ∷ rs) rest n (suc k) h = let e : suc n + k ≡ n + suc k = omega arith in numbered_at rs rest (suc n) k (omega arith) ∙ rw e refl

  numbered_many : (rs : List (List ℕ)) (n : ℕ) → length (numbered_orders currency lo n rs) ≡ length rs
  unfolding numbered_orders
  numbered_many [] n = refl
  numbered_many (r ∷ rs) n = ap suc (numbered_many rs (suc n))

pub tray_size : (currency : Currency) (lo file : List ℕ) → company_answer currency lo file ≡ accepted → length (company_tray currency lo file) ≡ tray_bytes file
tray_size currency lo file good = tray_length currency lo file ((company_exactly currency lo file).0 good).body ∙ rw (details_count file) refl

module _ (currency : Currency) (lo file : List ℕ) (h : company_answer currency lo file ≡ accepted) (header : List ℕ) (body : length header ≡ 94) where
  abbrev tray : List ℕ
  tray = company_tray currency lo file

  abbrev built : List ℕ
  built = build header tray

  good : CompanyGood currency lo file
  good = (company_exactly currency lo file).0 h

  -- the file has a record for each detail, and four more
  -- (not so with a batch for each entity, or with the closing record sent on)
  pub company_file_length : length built ≡ built_bytes file
  company_file_length =
      build_length header tray body (tray_sound currency lo file h).whole ∙ omega (arith, tray_size currency lo file h, tray_batches currency lo file h)

  its_bodies : numbering 0 0 (bodies tray) ≡ numbered 1 lo ∷ numbered_orders currency lo 1 (details_of file)
  unfolding numbering numbered_by batches_after individuals_after
  its_bodies =
      let orders : List (List ℕ) = map (drop 2) (map (marked_order currency lo) (details_of file)) in
      ap (λ (ts : List (List ℕ)). numbering 0 0 (map (drop 2) ts)) (tray_records_lem currency lo file h)
      ∙ ap (λ (k : Kind). numbered_by k 0 0 lo ∷ numbering (batches_after k 0) (individuals_after k 0) orders) (opens_batch_lem lo good.body good.opens)
      ∙ ap (λ (os : List (List ℕ)). numbered 1 lo ∷ os) (orders_numbered currency lo good.body (details_of file) 1 0 (details_long file))

  cut : (rest : List (List ℕ)) × (records_of built ≡ header ∷ numbered 1 lo ∷ (numbered_orders currency lo 1 (details_of file) ++ rest))
  unfolding build with_controls owed_before settled_before settled owed counted nothing_counted
  cut =
      let z = numbering_sized (bodies tray) 0 0 (bodies_sized tray (tray_sound currency lo file h).whole) in
      let c : Reckoning = counted FileHeader nothing_counted header in
      let first : List ℕ = numbered 1 lo in
      let os : List (List ℕ) = numbered_orders currency lo 1 (details_of file) in
      let k : kind_of first ≡ BatchHeader = kind_numbered 1 lo (omega (arith, good.body)) ∙ opens_batch_lem lo good.body good.opens in
      let x = controls_behind currency lo good.body (details_of file) 1 (after_writing BatchHeader c first) (details_long file) in (
        ending x.0,
        closing_records header (numbering 0 0 (bodies tray)) body z
            ∙ ap (λ (rs : List (List ℕ)). header ∷ with_controls c rs) its_bodies
            ∙ ap (λ (k : Kind). header ∷ (owed_before k c ++ first ∷ with_controls (after_writing k c first) os)) k
            ∙ ap (λ (t : List (List ℕ)). header ∷ first ∷ t) x.1,
      )

  -- header, LO, an order for each detail, numbered 1, 2, .. in their order, and two controls
  -- (not so with orders numbered from 0, or with a control between them)
  pub company_file_records : (rest : List (List ℕ))
      × (records_of built ≡ header ∷ numbered 1 lo ∷ (numbered_orders currency lo 1 (details_of file) ++ rest))
      × (length rest ≡ 2)
  unfolding records_of
  company_file_records =
      let os : List (List ℕ) = numbered_orders currency lo 1 (details_of file) in
      let n : length (records_of built) ≡ suc (suc (length (os ++ cut.0))) = ap length cut.1 in
      let all : length (records_of built) ≡ detail_count file + 4 = length_parts 94 (length built / 94) built ∙ omega (arith, company_file_length) in
      let many : length os ≡ detail_count file = numbered_many currency lo good.body (details_of file) 1 ∙ details_count file in
      (cut.0, cut.1, omega (arith, n, length-append os cut.0))

  -- the record two behind a detail's place is its order
  -- (not so with details sorted before they are sent)
  pub company_file_order : (k : ℕ) → k < detail_count file → record_at built (k + 2) ≡ numbered (k + 1) (order_of currency lo (company_record_at file k))
  unfolding records_of record_at
  company_file_order k b =
      let ds : List (List ℕ) = details_of file in
      let os : List (List ℕ) = numbered_orders currency lo 1 ds in
      let inside : k < length ds = omega (arith, details_count file) in
      let there = first_left (records_of built) (k + 2) [] (parts_from 94 (length built / 94) built (k + 2) (omega (arith, company_file_length))) in
      let here : get_or ds k [] ≡ company_record_at file k = first_left ds k [] (details_at file k inside) in
      let place : 1 + k ≡ k + 1 = omega arith in
      let kept : get_or (header ∷ numbered 1 lo ∷ (os ++ cut.0)) (k + 2) [] ≡ numbered (k + 1) (order_of currency lo (company_record_at file k)) =
      rw add-two (numbered_at currency lo good.body ds cut.0 1 k inside ∙ rw (place, here) refl) in
      sym there ∙ ap (λ (rs : List (List ℕ)). get_or rs (k + 2) []) cut.1 ∙ kept
