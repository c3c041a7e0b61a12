-- A piece of a company's file: its records but the last, and the last.
use Prim.Native.Nat.{ℕ, suc, ◌+◌, ◌-◌, ◌*◌, ◌/◌, ◌≤◌}
use mathlib.Core.Bool.{Bool}
use mathlib.Core.List.{List, [], ◌∷◌, ◌++◌}
use mathlib.Core.Path.{◌≡◌, sym, ap, ◌∙◌}
use native.Mathlib.Nat.{zero-add, add-zero, add_assoc}
use native.Mathlib.Omega.{arith}
use lib.ListN.{length, take, drop}
use lib.Seq.{take-take}
use Rattle.paper.specs.declared.rules.Currency.{Currency}
use Rattle.paper.specs.Answers.{Said, accepted, and_then, require}
use Rattle.paper.specs.Fields.{number}
use Rattle.paper.specs.Reading.{parts, at}
use Rattle.paper.proofs.Lists.{length_parts, parts_add}
use Rattle.paper.proofs.Refusals.{and_then_assoc}
use Rattle.company.specs.Details.{cents_in, detail}
use Rattle.company.specs.Files.{details_of, closing_of, details_fault, amounts_in, closing_good}
use Rattle.company.specs.Sums.{kept}
use Rattle.company.specs.Seen.{company_records}
use Rattle.company.proofs.Kept.{kept_on, closing_kept}
use Rattle.company.proofs.Sizes.{details_count, closing_long}
use Rattle.company.proofs.Answering.{then_alike}

-- ---- lists of details

pub faults_joined : (currency : Currency) (lo : List ℕ) (xs ys : List (List ℕ)) (i : ℕ)
    → details_fault currency lo i (xs ++ ys) ≡ and_then (details_fault currency lo i xs) (details_fault currency lo (i + length xs) ys)
unfolding details_fault and_then
faults_joined currency lo [] ys i = rw add-zero
faults_joined currency lo (r ∷ xs) ys i =
    let k : i + suc (length xs) ≡ i + 1 + length xs = omega arith in
    let here : Said = at i (detail currency lo r) in
    ap (and_then here) (faults_joined currency lo xs ys (i + 1))
    ∙ sym (and_then_assoc here (details_fault currency lo (i + 1) xs) (details_fault currency lo (i + 1 + length xs) ys))
    ∙ ap (λ (m : ℕ). and_then (and_then here (details_fault currency lo (i + 1) xs)) (details_fault currency lo m ys)) (sym k)

pub amounts_joined : (xs ys : List (List ℕ)) → amounts_in (xs ++ ys) ≡ amounts_in xs + amounts_in ys
unfolding amounts_in
amounts_joined [] ys = sym (zero-add (amounts_in ys))
amounts_joined (r ∷ xs) ys = ap (λ (n : ℕ). number (cents_in r) + n) (amounts_joined xs ys) ∙ sym (add_assoc (number (cents_in r)) (amounts_in xs) (amounts_in ys))

-- ---- the piece

module _ (piece : List ℕ) (h : 250 ≤ length piece) where
  abbrev last : ℕ
  last = length piece / 250 - 1

  -- the last by itself
  abbrev tail : List (List ℕ)
  tail = parts 250 1 (take 250 (drop (last * 250) piece))

  in_two : company_records piece ≡ parts 250 last piece ++ tail
  unfolding parts
  in_two =
      let e : length piece / 250 ≡ last + 1 = omega arith in
      let one = sym (take-take 250 250 (drop (last * 250) piece) (omega arith)) in
      ap (λ (n : ℕ). parts 250 n piece) e ∙ parts_add 250 last 1 piece ∙ ap (λ (r : List ℕ). parts 250 last piece ++ (r ∷ [])) one

  module _ (currency : Currency) (lo : List ℕ) (from sum : ℕ) where
    pub all_judged : (before : Said) → and_then (and_then before (details_fault currency lo from (parts 250 last piece))) (details_fault currency lo (from + last) tail)
        ≡ and_then before (details_fault currency lo from (company_records piece))
    all_judged before =
        let inner = parts 250 last piece in
        and_then_assoc before (details_fault currency lo from inner) (details_fault currency lo (from + last) tail)
        ∙ ap (and_then before)
        (ap (λ (n : ℕ). and_then (details_fault currency lo from inner) (details_fault currency lo (from + n) tail)) (sym (length_parts 250 last piece))
        ∙ sym (ap (details_fault currency lo from) in_two ∙ faults_joined currency lo inner tail from))

    pub all_added : {inner end : ℕ} → inner ≡ kept (sum + amounts_in (parts 250 last piece)) → end ≡ kept (inner + amounts_in tail)
        → end ≡ kept (sum + amounts_in (company_records piece))
    all_added p q =
        let a : ℕ = amounts_in (parts 250 last piece) in
        q ∙ ap (λ (n : ℕ). kept (n + amounts_in tail)) p ∙ kept_on (sum + a) (amounts_in tail)
        ∙ ap kept (add_assoc sum a (amounts_in tail) ∙ ap (λ (n : ℕ). sum + n) (sym (ap amounts_in in_two ∙ amounts_joined (parts 250 last piece) tail)))

    -- the last as the closing record: its sum counts where no detail is at fault
    closes_alike : {inner : ℕ} → inner ≡ kept (sum + amounts_in (details_of piece))
        → require (closing_good (from + last) inner (closing_of piece)) 17 (from + last)
        ≡ require (closing_good (from + length (details_of piece)) (sum + amounts_in (details_of piece)) (closing_of piece)) 17 (from + length (details_of piece))
    closes_alike e =
        let ds = details_of piece in
        let r = closing_of piece in
        ap (λ (n : ℕ). require (closing_good (from + last) n r) 17 (from + last)) e
        ∙ ap (λ (b : Bool). require b 17 (from + last)) (closing_kept (from + last) (sum + amounts_in ds) r (closing_long piece h))
        ∙ ap (λ (n : ℕ). require (closing_good (from + n) (sum + amounts_in ds) r) 17 (from + n)) (sym (details_count piece))

    pub last_closes : (before : Said) {inner closed : Said} {total : ℕ} → inner ≡ and_then before (details_fault currency lo from (parts 250 last piece))
        → (inner ≡ accepted → total ≡ kept (sum + amounts_in (parts 250 last piece)))
        → closed ≡ and_then inner (require (closing_good (from + last) total (take 250 (drop (last * 250) piece))) 17 (from + last))
        → closed
        ≡ and_then (and_then before (details_fault currency lo from (details_of piece)))
        (require (closing_good (from + length (details_of piece)) (sum + amounts_in (details_of piece)) (closing_of piece)) 17 (from + length (details_of piece)))
    unfolding details_of closing_of
    last_closes before {inner} {closed} {total} f s c =
        let ds = parts 250 last piece in
        let r = take 250 (drop (last * 250) piece) in
        c ∙ then_alike inner (λ a. closes_alike (s a))
        ∙ ap (λ (x : Said). and_then x (require (closing_good (from + length ds) (sum + amounts_in ds) r) 17 (from + length ds))) f
