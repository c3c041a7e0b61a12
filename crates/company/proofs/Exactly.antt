-- The company's file is accepted exactly where all holds that is asked.
use Prim.Native.Nat.{ℕ, zero, suc, ◌+◌, ◌*◌, ◌%◌, ◌≤◌, ◌<◌}
use native.Mathlib.Nat.{zero-mul, suc-mul}
use native.Mathlib.Omega.{arith}
use mathlib.Core.Bool.{Bool, true, false, ◌&&◌, cond}
use mathlib.Core.List.{List, [], ◌∷◌}
use mathlib.Core.Logic.{◌↔◌}
use mathlib.Core.Path.{◌≡◌, refl, ap, ◌∙◌}
use lib.Dec.{T, eqb, leb, leb→le, le→leb, eqb→eq}
use lib.ListN.{length, take, drop}
use lib.Seq.{drop-drop}
use Rattle.paper.specs.declared.record.Kind.TheVariants.{FileHeader, BatchHeader, Individual, Additional, BatchControl, FileControl, Other}
use Rattle.paper.specs.declared.rules.Currency.{Currency}
use Rattle.paper.specs.Answers.{Said, accepted, and_then}
use Rattle.paper.specs.Checks.{Check, fine, wrong}
use Rattle.paper.specs.Fields.{bytes, field, same, is}
use Rattle.paper.specs.Kinds.{kind, kind_of}
use Rattle.paper.specs.Reading.{parts, at}
use Rattle.paper.specs.Trays.{mark_good, tray_record_good}
use Rattle.paper.proofs.Tests.{and_l, and_r, and_both}
use Rattle.paper.proofs.Refusals.{refused_not, both_accept, required, require_met}
use Rattle.paper.proofs.Exactly.{wrong_not_fine}
use Rattle.company.specs.Details.{detail}
use Rattle.company.specs.Files.{whole_details, details_of, closing_of, lo_good, details_fault, amounts_in, closing_good, closing_fault, company_answer}
use Rattle.company.specs.Promised.{DetailGood, ClosingHolds, detail_count, company_record_at, CompanyGood}
use Rattle.company.proofs.Sizes.{details_count}
use Rattle.company.proofs.Asked.{detail_exactly}

-- ---- every record of a list, and every part of a file by its place

pub next_part : (w k : ℕ) (l : List ℕ) → drop (k * w) (drop w l) ≡ drop (suc k * w) l
next_part w k l = let e : w + k * w ≡ suc k * w = omega (arith, suc-mul k w) in drop-drop (k * w) w l ∙ ap (λ (m : ℕ). drop m l) e

module _ (P : List ℕ → Type 0) where
  abbrev pub Each : List (List ℕ) → Type 0
  Each [] = Unit {0}
  Each (r ∷ rs) = P r × Each rs

  -- the first part, and those of the rest
  pub one_more_part : (w n : ℕ) (l : List ℕ) → P (take w l) → ((k : ℕ) → k < n → P (take w (drop (k * w) (drop w l))))
      → (k : ℕ) → k < suc n → P (take w (drop (k * w) l))
  one_more_part w n l first later zero h = rw zero-mul first
  one_more_part w n l first later (suc k) h = rw (← next_part w k l) (later k (omega arith))

  pub each_part : (w n : ℕ) (l : List ℕ) → Each (parts w n l) ↔ ((k : ℕ) → k < n → P (take w (drop (k * w) l)))
  unfolding parts
  each_part w zero l = (λ e k h. absurd (omega arith), λ f. tt)
  each_part w (suc n) l = (
    λ e. one_more_part w n l e.0 ((each_part w n (drop w l)).0 e.1),
    λ f. (rw zero-mul at (f 0 (omega arith)), (each_part w n (drop w l)).1 (λ k h. rw (next_part w k l) (f (suc k) (omega arith)))),
  )

-- ---- the tests, one by one

at_fine : (place : ℕ) (c : Check) → (at place c ≡ accepted) ↔ (c ≡ fine)
unfolding at
at_fine place fine = (λ h. refl, λ h. refl)
at_fine place (wrong n) = (λ h. absurd (refused_not h), λ h. absurd (wrong_not_fine h))

both_accepted : (a b : Said) → a ≡ accepted → b ≡ accepted → and_then a b ≡ accepted
unfolding and_then
both_accepted a b p q = rw p q

module _ (currency : Currency) (lo : List ℕ) where
  abbrev pub Fine : List ℕ → Type 0
  Fine r = detail currency lo r ≡ fine

  pub details_fine : (rs : List (List ℕ)) (place : ℕ) → (details_fault currency lo place rs ≡ accepted) ↔ Each Fine rs
  unfolding details_fault
  details_fine [] place = (λ h. tt, λ e. refl)
  details_fine (r ∷ rs) place =
      let here : Said = at place (detail currency lo r) in
      let rest : Said = details_fault currency lo (place + 1) rs in (
        λ h. let p = both_accept here rest h in ((at_fine place (detail currency lo r)).0 p.0, (details_fine rs (place + 1)).0 p.1),
        λ e. both_accepted here rest ((at_fine place (detail currency lo r)).1 e.0) ((details_fine rs (place + 1)).1 e.1),
      )

pub length_exactly : (n : ℕ) → T (whole_details n) ↔ ((250 ≤ n) × (n % 250 ≡ 0))
unfolding whole_details
length_exactly n = (
  λ t. (leb→le 250 n (and_l (leb 250 n) (eqb (n % 250) 0) t), eqb→eq (n % 250) 0 (and_r (leb 250 n) (eqb (n % 250) 0) t)),
  λ x. and_both (leb 250 n) (eqb (n % 250) 0) (le→leb 250 n x.0) (rw x.1 tt),
)

pub opens_batch_lem : (lo : List ℕ) → length lo ≡ 94 → T (is (field lo 1 1) "5") → kind_of lo ≡ BatchHeader
unfolding kind_of kind same
opens_batch_lem [] l t = absurd (omega arith)
opens_batch_lem (x ∷ lo) l t = let e : x ≡ 53 = eqb→eq x 53 (and_l (eqb x 53) true t) in rw e refl

-- the mark LO goes with a body that begins with 5
opens_exactly : (lo : List ℕ) → length lo ≡ 94 → T (mark_good (kind_of lo) (bytes "LO")) ↔ T (is (field lo 1 1) "5")
unfolding mark_good kind_of kind same
opens_exactly [] l = absurd (omega arith)
opens_exactly (x ∷ lo) l = (
  go (eqb x 49) (eqb x 53) (eqb x 54) (eqb x 55) (eqb x 56) (eqb x 57),
  λ t. rw (opens_batch_lem (x ∷ lo) l t) tt,
)
  where
    go : (h b i a c f : Bool)
        → T (mark_good (cond h FileHeader (cond b BatchHeader (cond i Individual (cond a Additional (cond c BatchControl (cond f FileControl Other)))))) (bytes "LO"))
        → T (b && true)
    go true b i a c f t = absurd t
    go false true i a c f t = tt
    go false false true a c f t = absurd t
    go false false false true c f t = absurd t
    go false false false false true f t = absurd t
    go false false false false false true t = absurd t
    go false false false false false false t = absurd t

pub body_exactly : (lo : List ℕ) → T (lo_good lo) ↔ ((length lo ≡ 94) × T (is (field lo 1 1) "5") × T (is (field lo 88 94) "0000000"))
unfolding lo_good tray_record_good
body_exactly lo =
    let long : Bool = eqb (length lo) 94 in
    let opens : Bool = mark_good (kind_of lo) (bytes "LO") in
    let zeros : Bool = is (field lo 88 94) "0000000" in (
      λ t.
          let l : length lo ≡ 94 = eqb→eq (length lo) 94 (and_l long (opens && zeros) t) in
          let m : T (opens && zeros) = and_r long (opens && zeros) t in
          (l, (opens_exactly lo l).0 (and_l opens zeros m), and_r opens zeros m),
      λ x. and_both long (opens && zeros) (rw x.0 tt) (and_both opens zeros ((opens_exactly lo x.0).1 x.1) x.2),
    )

pub closing_exactly : (n sum : ℕ) (r : List ℕ) → T (closing_good n sum r) ↔ ClosingHolds n sum r
unfolding closing_good
closing_exactly n sum r = (
  λ t. record {
    type = search (and_l, and_r) depth 8;
    records = search (and_l, and_r) depth 8;
    debits = search (and_l, and_r) depth 8;
    zeros = search (and_l, and_r) depth 8;
    cents = search (and_l, and_r) depth 8;
  },
  λ g. search (and_both, g.type, g.records, g.debits, g.zeros, g.cents) depth 8,
)

-- ---- the whole

module _ (currency : Currency) (lo file : List ℕ) where
  pub details_exactly : (details_fault currency lo 0 (details_of file) ≡ accepted) ↔ ((k : ℕ) → k < detail_count file → DetailGood currency lo (company_record_at file k))
  unfolding details_of
  details_exactly =
      let each = each_part (Fine currency lo) 250 (detail_count file) file in
      let all = details_fine currency lo (details_of file) 0 in (
        λ h k b. (detail_exactly currency lo (company_record_at file k)).0 (each.0 (all.0 h) k b),
        λ g. all.1 (each.1 (λ k b. (detail_exactly currency lo (company_record_at file k)).1 (g k b))),
      )

  pub closing_accepted : (closing_fault file ≡ accepted) ↔ ClosingHolds (detail_count file) (amounts_in (details_of file)) (company_record_at file (detail_count file))
  unfolding closing_fault closing_of
  closing_accepted =
      let sum : ℕ = amounts_in (details_of file) in
      let r : List ℕ = company_record_at file (detail_count file) in
      rw (details_count file) (
        λ h. (closing_exactly (detail_count file) sum r).0 (required (closing_good (detail_count file) sum r) 17 (detail_count file) h),
        λ c. require_met (closing_good (detail_count file) sum r) 17 (detail_count file) ((closing_exactly (detail_count file) sum r).1 c),
      )

  -- (not so with a file of no multiple of 250 bytes cut to one, with details judged up to the first closing record only, or with a sum that keeps its
  -- last ten digits)
  pub company_exactly : (company_answer currency lo file ≡ accepted) ↔ CompanyGood currency lo file
  unfolding company_answer
  company_exactly = (
    λ h.
        let a = both_accept _ _ h in
        let b = both_accept _ _ a.1 in
        let c = both_accept _ _ b.1 in
        let l = (length_exactly (length file)).0 (required (whole_details (length file)) 201 0 a.0) in
        let o = (body_exactly lo).0 (required (lo_good lo) 207 0 b.0) in
        record {
          long = l.0;
          whole = l.1;
          body = o.0;
          opens = o.1;
          tail = o.2;
          details = details_exactly.0 c.0;
          closing = closing_accepted.0 c.1;
        },
    λ g.
        both_accepted _ _ (require_met (whole_details (length file)) 201 0 ((length_exactly (length file)).1 (g.long, g.whole)))
        (both_accepted _ _ (require_met (lo_good lo) 207 0 ((body_exactly lo).1 (g.body, g.opens, g.tail)))
        (both_accepted _ _ (details_exactly.1 g.details) (closing_accepted.1 g.closing))),
  )
