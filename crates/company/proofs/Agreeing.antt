-- Nothing of the company's file counts but the fields that are named: two files that agree on them are one to the job.
use Prim.Native.Nat.{ℕ, zero, suc, ◌+◌, ◌*◌, ◌<◌}
use native.Mathlib.Nat.{zero-mul}
use native.Mathlib.Omega.{arith}
use mathlib.Core.Bool.{Bool, ◌&&◌}
use mathlib.Core.List.{List, [], ◌∷◌, ◌++◌, map}
use mathlib.Core.Path.{◌≡◌, refl, sym, ap, ◌∙◌, ap₂}
use lib.ListN.{length, take, drop}
use lib.Seq.{take-add, drop-drop}
use Rattle.paper.specs.declared.rules.Currency.{Currency}
use Rattle.paper.specs.declared.rules.Currency.TheVariants.{Pesos, Dollars}
use Rattle.paper.specs.Answers.{and_then, require}
use Rattle.paper.specs.Fields.{bytes, field, digit, digits, is, number}
use Rattle.paper.specs.Reading.{parts, at}
use Rattle.paper.specs.Writing.{joined}
use Rattle.paper.proofs.Digits.{every_append}
use Rattle.company.specs.Details.{block1_in, currency_good, detail, order_of}
use Rattle.company.specs.Files.{details_of, closing_of, details_fault, amounts_in, closing_good, closing_fault, company_answer, tray_of, company_tray, company}
use Rattle.company.specs.Promised.{detail_count, company_record_at, SameOrdered, SameDetail, SameClosing, SameFile}
use Rattle.company.proofs.Sizes.{marked_order, details_count}
use Rattle.company.proofs.Exactly.{next_part}

-- ---- a detail

block1_cut : (r : List ℕ) → block1_in r ≡ field r 34 36 ++ (field r 37 40 ++ field r 41 41)
block1_cut r =
    take-add 3 5 (drop 33 r)
    ∙ ap (λ (l : List ℕ). field r 34 36 ++ l)
    (ap (take 5) (drop-drop 3 33 r) ∙ take-add 4 1 (drop 36 r) ∙ ap (λ (l : List ℕ). field r 37 40 ++ take 1 l) (drop-drop 4 36 r))

block1_digits : (r : List ℕ) → digits (block1_in r) ≡ (digits (field r 34 36) && (digits (field r 37 40) && digits (field r 41 41)))
block1_digits r =
    ap digits (block1_cut r) ∙ every_append digit (field r 34 36) (field r 37 40 ++ field r 41 41)
    ∙ ap (λ (b : Bool). digits (field r 34 36) && b) (every_append digit (field r 37 40) (field r 41 41))

same_currency : (currency : Currency) (r q : List ℕ) → field r 114 115 ≡ field q 114 115 → currency_good currency r ≡ currency_good currency q
unfolding currency_good
same_currency Pesos r q e = ap (λ (f : List ℕ). is f "80") e
same_currency Dollars r q e = ap (λ (f : List ℕ). is f "82") e

module _ (currency : Currency) (lo r q : List ℕ) where
  same_order : SameOrdered r q → order_of currency lo r ≡ order_of currency lo q
  unfolding order_of
  same_order s = rw (s.payer, s.branch, s.block2, s.client, s.reference, s.cents) refl

  same_judged : SameDetail r q → detail currency lo r ≡ detail currency lo q
  unfolding detail
  same_judged s =
      let o = s.ordered in
      let block1 : digits (block1_in r) ≡ digits (block1_in q) = block1_digits r ∙ rw (o.payer, o.branch, s.check) (sym (block1_digits q)) in
      rw (s.type, block1, o.block2, o.payer, o.reference, o.client, same_currency currency r q s.money, o.cents, s.due) refl

same_closing : (n sum : ℕ) (r q : List ℕ) → SameClosing r q → closing_good n sum r ≡ closing_good n sum q
unfolding closing_good
same_closing n sum r q s = rw (s.type, s.records, s.debits, s.zeros, s.cents) refl

-- ---- all of them, one after another

-- what holds of no parts, and of one more where they agree, holds of the parts of two lists that agree place by place
module _ (Agree : List ℕ → List ℕ → Type 0) (Alike : List (List ℕ) → List (List ℕ) → Type 0) (none : Alike [] [])
    (more : (r q : List ℕ) (rs qs : List (List ℕ)) → Agree r q → Alike rs qs → Alike (r ∷ rs) (q ∷ qs)) where
  parts_alike : (w n : ℕ) (l m : List ℕ) → ((k : ℕ) → k < n → Agree (take w (drop (k * w) l)) (take w (drop (k * w) m))) → Alike (parts w n l) (parts w n m)
  unfolding parts
  parts_alike w zero l m h = none
  parts_alike w (suc n) l m h =
      more (take w l) (take w m) (parts w n (drop w l)) (parts w n (drop w m)) (rw zero-mul at (h 0 (omega arith)))
      (parts_alike w n (drop w l) (drop w m) (λ k b. rw (next_part w k l, next_part w k m) (h (suc k) (omega arith))))

module _ (file other : List ℕ) (long : length file ≡ length other) where
  as_many : detail_count other ≡ detail_count file
  as_many = rw long

  module _ (h : (k : ℕ) → k < detail_count file → SameOrdered (company_record_at file k) (company_record_at other k)) where
    same_amounts : amounts_in (details_of file) ≡ amounts_in (details_of other)
    unfolding details_of amounts_in
    same_amounts =
        rw as_many
        (parts_alike SameOrdered (λ rs qs. amounts_in rs ≡ amounts_in qs) refl
        (λ r q rs qs s e. ap₂ ◌+◌ (ap number s.cents) e) 250 (detail_count file) file other h)

    same_orders : (currency : Currency) (lo : List ℕ) → map (marked_order currency lo) (details_of file) ≡ map (marked_order currency lo) (details_of other)
    unfolding details_of
    same_orders currency lo =
        rw as_many
        (parts_alike SameOrdered (λ rs qs. map (marked_order currency lo) rs ≡ map (marked_order currency lo) qs) refl
        (λ r q rs qs s e i. (bytes "IN" ++ same_order currency lo r q s i) ∷ e i) 250 (detail_count file) file other h)

    -- the tray, accepted or not: only the fields that an order is made of, and how many there are
    -- (not so with block 1's check digit or the due date's year in the account, or with a filler that is copied)
    pub tray_agrees : (currency : Currency) (lo : List ℕ) → company_tray currency lo file ≡ company_tray currency lo other
    unfolding tray_of
    tray_agrees currency lo = ap (λ (os : List (List ℕ)). bytes "LO" ++ lo ++ joined os) (same_orders currency lo)

-- the job, whatever the currency, the LO body and the buffer: the answer, the bytes written and the rest
-- (not so with a filler that must be blank, a second due date that is read, a check digit that is judged, or line ends looked for)
module _ (file other : List ℕ) (s : SameFile file other) (currency : Currency) (lo : List ℕ) where
  ordered : (k : ℕ) → k < detail_count file → SameOrdered (company_record_at file k) (company_record_at other k)
  ordered k b = (s.details k b).ordered

  same_details : (place : ℕ) → details_fault currency lo place (details_of file) ≡ details_fault currency lo place (details_of other)
  unfolding details_of details_fault
  same_details =
      rw (as_many file other s.long)
      (parts_alike SameDetail (λ rs qs. (place : ℕ) → details_fault currency lo place rs ≡ details_fault currency lo place qs) (λ place. refl)
      (λ r q rs qs a e place. ap₂ and_then (ap (at place) (same_judged currency lo r q a)) (e (place + 1))) 250 (detail_count file) file other s.details)

  same_end : closing_fault file ≡ closing_fault other
  unfolding closing_fault closing_of
  same_end =
      let ds : List (List ℕ) = details_of other in
      let n : length (details_of file) ≡ length ds = details_count file ∙ rw s.long (sym (details_count other)) in
      rw (n, same_amounts file other s.long ordered, ← s.long)
      (ap (λ (b : Bool). require b 17 (length ds))
      (same_closing (length ds) (amounts_in ds) (company_record_at file (detail_count file)) (company_record_at other (detail_count file)) s.closing))

  pub answer_agrees : company_answer currency lo file ≡ company_answer currency lo other
  unfolding company_answer
  answer_agrees = rw (s.long, same_details 0, same_end) refl

  pub company_agrees : (buffer : List ℕ) → company currency lo file buffer ≡ company currency lo other buffer
  unfolding company
  company_agrees buffer = rw (answer_agrees, tray_agrees file other s.long ordered currency lo) refl
