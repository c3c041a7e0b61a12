-- A company's file looked at in pieces of whole records: what is known of the pieces is what is known of them joined.
use Prim.Native.Nat.{ℕ, ◌+◌, ◌-◌, ◌*◌, ◌/◌, ◌%◌, ◌≤◌, ◌<◌}
use mathlib.Core.Bool.{Bool, true, false}
use mathlib.Core.List.{List, [], ◌++◌, append-nil}
use mathlib.Core.Path.{◌≡◌, refl, sym, ap, ap₂, subst, ◌∙◌}
use native.Mathlib.Nat.{zero-add}
use native.Mathlib.Omega.{arith}
use borrow.Author.Tests.{leb-true, leb-false, eq-eqb}
use lib.Dec.{leb, eqb, leb→le}
use lib.ListN.{length, take, drop, length-append}
use lib.Seq.{drop-append-add}
use Rattle.paper.specs.declared.rules.Currency.{Currency}
use Rattle.paper.specs.Answers.{Said, said, accepted, and_then, require}
use Rattle.paper.specs.Reading.{parts}
use Rattle.paper.proofs.Lists.{length_parts, parts_front, parts_append}
use Rattle.paper.proofs.Pieces.{part_front}
use Rattle.paper.proofs.Refusals.{both_accept}
use Rattle.paper.proofs.Tests.{T_of, and_r}
use Rattle.tray.specs.Seen.{most_seen}
use Rattle.company.specs.declared.pieces.Pieces.{Pieces}
use Rattle.company.specs.Files.{details_of, closing_of, details_fault, amounts_in, closing_good, closing_fault}
use Rattle.company.specs.Sums.{kept, sum_in}
use Rattle.company.specs.Seen.{company_records, company_begun, JudgedSo, CompanyWhole, CompanySeen, CompanyMore, counted_on, judgeable, CompanyOn}
use Rattle.company.proofs.Kept.{kept_on, closing_kept}
use Rattle.company.proofs.Sizes.{closing_long}
use Rattle.company.proofs.Answering.{then_alike}
use Rattle.company.proofs.OnePiece.{faults_joined, amounts_joined}

-- ---- records of two texts joined, the first of whole records

module _ (file piece : List ℕ) (none : length file % 250 ≡ 0) where
  abbrev n : ℕ
  n = length file / 250

  long : length (file ++ piece) ≡ n * 250 + length piece
  long = length-append file piece ∙ omega arith

  on : (m : ℕ) → parts 250 (n + m) (file ++ piece) ≡ company_records file ++ parts 250 m piece
  on m = parts_append 250 n m file piece (omega arith)

  records_on : company_records (file ++ piece) ≡ company_records file ++ company_records piece
  records_on = let e : length (file ++ piece) / 250 ≡ n + length piece / 250 = omega (arith, long) in ap (λ (k : ℕ). parts 250 k (file ++ piece)) e ∙ on (length piece / 250)

  -- a piece with a record: it has the last
  module _ (h : 250 ≤ length piece) where
    details_on : details_of (file ++ piece) ≡ company_records file ++ details_of piece
    unfolding details_of
    details_on =
        let e : length (file ++ piece) / 250 - 1 ≡ n + (length piece / 250 - 1) = omega (arith, long) in
        ap (λ (k : ℕ). parts 250 k (file ++ piece)) e ∙ on (length piece / 250 - 1)

    closing_on : closing_of (file ++ piece) ≡ closing_of piece
    unfolding closing_of
    closing_on =
        let m : ℕ = (length piece / 250 - 1) * 250 in
        let e : (length (file ++ piece) / 250 - 1) * 250 ≡ length file + m = omega (arith, long) in
        ap (λ (k : ℕ). take 250 (drop k (file ++ piece))) e ∙ ap (take 250) (drop-append-add file piece m)

  -- one without: the last stays
  module _ (h : length piece < 250) where
    same_records : company_records (file ++ piece) ≡ company_records file
    unfolding parts
    same_records =
        let e : length piece / 250 ≡ 0 = omega arith in
        records_on ∙ ap (λ (k : ℕ). company_records file ++ parts 250 k piece) e ∙ append-nil (company_records file)

    same_details : details_of (file ++ piece) ≡ details_of file
    unfolding details_of
    same_details =
        let e : length (file ++ piece) / 250 ≡ n = omega (arith, long) in
        ap (λ (k : ℕ). parts 250 (k - 1) (file ++ piece)) e ∙ parts_front 250 (n - 1) file piece (omega arith)

    same_closing : 250 ≤ length file → closing_of (file ++ piece) ≡ closing_of file
    unfolding closing_of
    same_closing k =
        let e : length (file ++ piece) / 250 ≡ n = omega (arith, long) in
        ap (λ (k : ℕ). take 250 (drop ((k - 1) * 250) (file ++ piece))) e ∙ part_front ((n - 1) * 250) 250 file piece (omega arith)

    same_end : 250 ≤ length file → closing_fault (file ++ piece) ≡ closing_fault file
    unfolding closing_fault
    same_end k = rw (same_details, same_closing k)

-- ---- what is known

-- before any piece
pub company_begun_lem : (currency : Currency) (lo : List ℕ) → CompanySeen currency lo (company_begun currency) []
unfolding details_fault amounts_in parts kept
company_begun_lem currency lo =
    record {
      money = refl;
      whole = λ l. record { records = refl; left = refl; found = λ k. record { going = refl; sum = λ e. refl; ending = λ e. absurd (omega arith) } };
      endless = λ l. absurd (omega arith);
    }

-- sums that are kept alike close a file alike
as_kept : (details sum other : ℕ) (r : List ℕ) → length r ≡ 250 → kept sum ≡ kept other → closing_good details sum r ≡ closing_good details other r
as_kept details sum other r l e = sym (closing_kept details sum r l) ∙ ap (λ (n : ℕ). closing_good details n r) e ∙ closing_kept details other r l

-- the first fault of the records so far, and of those of the piece after them
module _ (currency : Currency) (lo file : List ℕ) (ds : List (List ℕ)) {before : Said} {records : ℕ}
    (k : records ≡ length file / 250) (g : before ≡ details_fault currency lo 0 (company_records file)) where
  first_of_both : and_then before (details_fault currency lo records ds) ≡ details_fault currency lo 0 (company_records file ++ ds)
  first_of_both =
      let e : records ≡ 0 + length (company_records file) = k ∙ sym (length_parts 250 (length file / 250) file) ∙ sym (zero-add (length (company_records file))) in
      ap₂ (λ (x : Said) (n : ℕ). and_then x (details_fault currency lo n ds)) g e ∙ sym (faults_joined currency lo (company_records file) ds 0)

module _ (currency : Currency) (lo : List ℕ) (p r : Pieces) (file piece : List ℕ) (none : length file % 250 ≡ 0) (money : p.currency ≡ currency)
    (k : p.records ≡ length file / 250) (j : JudgedSo currency lo p file) where
  -- the piece was judged
  module _ (h : 250 ≤ length piece) (m : CompanyMore p lo piece r) where
    going_on : said r.going ≡ details_fault currency lo 0 (company_records (file ++ piece))
    going_on =
        m.going ∙ ap (λ (c : Currency). and_then (said p.going) (details_fault c lo p.records (company_records piece))) money
        ∙ first_of_both currency lo file (company_records piece) k j.going
        ∙ ap (details_fault currency lo 0) (sym (records_on file piece none))

    -- the sum counts where no record is at fault
    sum_so : (ds : List (List ℕ)) → said p.going ≡ accepted → kept (sum_in p.going + amounts_in ds) ≡ kept (amounts_in (company_records file ++ ds))
    sum_so ds e =
        ap (λ (n : ℕ). kept (n + amounts_in ds)) (j.sum e) ∙ kept_on (amounts_in (company_records file)) (amounts_in ds)
        ∙ ap kept (sym (amounts_joined (company_records file) ds))

    sum_on : said r.going ≡ accepted → sum_in r.going ≡ kept (amounts_in (company_records (file ++ piece)))
    sum_on e =
        let before = both_accept (said p.going) (details_fault p.currency lo p.records (company_records piece)) (sym m.going ∙ e) in
        m.sum e ∙ sum_so (company_records piece) before.0 ∙ ap (λ (rs : List (List ℕ)). kept (amounts_in rs)) (sym (records_on file piece none))

    abbrev closes : ℕ → ℕ → Said
    closes n sum = require (closing_good n sum (closing_of piece)) 17 n

    ending_on : said r.ending ≡ and_then (details_fault currency lo 0 (details_of (file ++ piece))) (closing_fault (file ++ piece))
    unfolding closing_fault
    ending_on =
        let ds = details_of piece in
        let all = company_records file ++ ds in
        let before = and_then (said p.going) (details_fault p.currency lo p.records ds) in
        let n : p.records + length ds ≡ length all = ap (λ (x : ℕ). x + length ds) (k ∙ sym (length_parts 250 (length file / 250) file)) ∙ sym (length-append (company_records file) ds) in
        m.ending
        ∙ then_alike before (λ e.
        ap (λ (b : Bool). require b 17 (p.records + length ds))
        (as_kept (p.records + length ds) (sum_in p.going + amounts_in ds) (amounts_in all) (closing_of piece) (closing_long piece h) (sum_so ds (both_accept (said p.going) (details_fault p.currency lo p.records ds) e).0))
        ∙ ap (λ (x : ℕ). closes x (amounts_in all)) n)
        ∙ ap (λ (x : Said). and_then x (closes (length all) (amounts_in all)))
        (ap (λ (c : Currency). and_then (said p.going) (details_fault c lo p.records ds)) money ∙ first_of_both currency lo file ds k j.going)
        ∙ rw (details_on file piece none h, closing_on file piece none h) refl

    further : JudgedSo currency lo r (file ++ piece)
    further = record { going = going_on; sum = sum_on; ending = λ l. ending_on }

  -- it has no record
  module _ (h : length piece < 250) where
    no_further : JudgedSo currency lo (counted_on p piece) (file ++ piece)
    no_further =
        record {
          going = j.going ∙ ap (details_fault currency lo 0) (sym (same_records file piece none h));
          sum = λ e. j.sum e ∙ ap (λ (rs : List (List ℕ)). kept (amounts_in rs)) (sym (same_records file piece none h));
          ending = λ l.
              let some : 250 ≤ length file = omega (arith, length-append file piece) in
              j.ending some ∙ ap₂ (λ (rs : List (List ℕ)) (x : Said). and_then (details_fault currency lo 0 rs) x) (sym (same_details file piece none h)) (sym (same_end file piece none h some));
        }

-- so what is known of some pieces, all but the last of whole records, is what is known of them joined
-- (not so with places from 0 again in each piece, or with a sum that is begun anew)
pub company_on : (currency : Currency) (lo : List ℕ) (p r : Pieces) (file piece : List ℕ) → CompanySeen currency lo p file → length file % 250 ≡ 0 → CompanyOn p lo piece r
    → CompanySeen currency lo r (file ++ piece)
company_on currency lo p r file piece s none o = go (leb p.records most_seen) (judgeable lo piece) refl refl
  where
    counts : {n : ℕ} → p.records ≡ length file / 250 → n ≡ p.records + length piece / 250 → n ≡ length (file ++ piece) / 250
    counts k e = omega (arith, k, e, length-append file piece)

    lefts : {n : ℕ} → n ≡ length piece % 250 → n ≡ length (file ++ piece) % 250
    lefts e = omega (arith, e, length-append file piece)

    known : r.currency ≡ currency → r.records ≡ length (file ++ piece) / 250 → CompanyWhole currency lo r (file ++ piece) → CompanySeen currency lo r (file ++ piece)
    known m e w = record { money = m; whole = λ l. w; endless = λ l. omega (arith, e) }

    go : (b d : Bool) → leb p.records most_seen ≡ b → judgeable lo piece ≡ d → CompanySeen currency lo r (file ++ piece)
    go false d e q =
        let l : most_seen < p.records = leb-false _ _ e in
        let same = o.stays l in
        record {
          money = ap (λ (x : Pieces). x.currency) same ∙ s.money;
          whole = λ n. absurd (omega (arith, ap (λ (x : Pieces). x.records) same));
          endless = λ n. omega (arith, s.endless l, length-append file piece);
        }
    go true true e q =
        let l : p.records ≤ most_seen = leb-true _ _ e in
        let w = s.whole l in
        let m = o.judged l q in
        let t = T_of q in
        let long = leb→le 250 (length piece) (and_r (eqb (length lo) 94) (leb 250 (length piece)) t) in
        let n = counts w.records m.records in
        known (m.money ∙ s.money) n (record { records = n; left = lefts m.left; found = λ body. further currency lo p r file piece none s.money w.records (w.found body) long m })
    go true false e q =
        let l : p.records ≤ most_seen = leb-true _ _ e in
        let w = s.whole l in
        let same = o.counted l q in
        let n = counts w.records (ap (λ (x : Pieces). x.records) same) in
        known (ap (λ (x : Pieces). x.currency) same ∙ s.money) n
        (record {
          records = n;
          left = lefts (ap (λ (x : Pieces). x.left) same);
          found = λ body. subst (λ (x : Pieces). JudgedSo currency lo x (file ++ piece)) (sym same) (no_further currency lo p r file piece none s.money w.records (w.found body) (leb-false 250 (length piece) (rw (eq-eqb (length lo) 94 body) at q)));
        })
