-- The orders as they are written, one for each detail.
use Prim.Native.Nat.{ℕ, ◌+◌, ◌-◌, ◌*◌, ◌≤◌, ◌<◌}
use mathlib.Core.List.{List, [], ◌∷◌, ◌++◌, append_assoc, append-nil, head-eq_of_cons-eq}
use mathlib.Core.Path.{◌≡◌, refl, sym, ap, ◌∙◌}
use native.Mathlib.Numerals.{add-one}
use native.Mathlib.Omega.{arith}
use borrow.Rule.Slice.PartMut.{put_mid}
use lib.ListN.{length, take, get_or, length-append}
use lib.Seq.{take_all, take-suc, drop-cons}
use Rattle.paper.specs.declared.rules.Currency.{Currency}
use Rattle.paper.specs.Fields.{bytes}
use Rattle.paper.specs.Writing.{joined}
use Rattle.paper.specs.Buffers.{over}
use Rattle.paper.proofs.Lists.{length_parts}
use Rattle.paper.proofs.Places.{parts_from}
use Rattle.writing.proofs.Laying.{Wrote, on, part_laid, whole, kept}
use Rattle.company.specs.Details.{order_of}
use Rattle.company.specs.Files.{orders_of}
use Rattle.company.proofs.Sizes.{order_length, marked_order}
use Rattle.company.specs.Promised.{company_record_at}
use Rattle.company.proofs.Passing.{front}

orders_joined : (currency : Currency) (lo : List ℕ) (a b : List (List ℕ)) → orders_of currency lo (a ++ b) ≡ orders_of currency lo a ++ orders_of currency lo b
unfolding joined
orders_joined currency lo [] b = refl
orders_joined currency lo (r ∷ a) b =
    let order : List ℕ = marked_order currency lo r in
    ap (λ (l : List ℕ). order ++ l) (orders_joined currency lo a b) ∙ sym (append_assoc order (orders_of currency lo a) (orders_of currency lo b))

module _ (currency : Currency) (lo file : List ℕ) (details place : ℕ) where
  -- the orders of the first so many details
  abbrev pub made : List ℕ
  made = orders_of currency lo (take place (front details file))

  one_made : place < details → orders_of currency lo (take (place + 1) (front details file)) ≡ made ++ marked_order currency lo (company_record_at file place)
  unfolding joined
  one_made h =
      let ds = front details file in
      let i : place < length ds = omega (arith, length_parts 250 details file) in
      let here : get_or ds place [] ≡ company_record_at file place = head-eq_of_cons-eq (sym (drop-cons ds place [] i) ∙ parts_from 250 details file place h) in
      let order : List ℕ = marked_order currency lo (company_record_at file place) in
      rw (add-one, take-suc ds place [] i, here) (orders_joined currency lo (take place ds) (company_record_at file place ∷ []) ∙ ap (λ (l : List ℕ). made ++ l) (append-nil order))

  module _ {old new : List ℕ} (w : Wrote 0 made old new (place * 96)) where
    pub as_long : place * 96 ≤ length old → length new ≡ length old
    as_long h = kept w h

    pub all_put : details ≤ place → new ≡ over (orders_of currency lo (front details file)) old
    all_put h =
        let all : take place (front details file) ≡ front details file = take_all place (front details file) (omega (arith, length_parts 250 details file)) in
        (whole w).1 ∙ ap (λ (ds : List (List ℕ)). over (orders_of currency lo ds) old) all

    -- one further
    pub order_put : length lo ≡ 94 → place < details → length (company_record_at file place) ≡ 250 → {part : List ℕ} → part ≡ marked_order currency lo (company_record_at file place)
        → Wrote 0 (orders_of currency lo (take (place + 1) (front details file))) old (put_mid (place * 96) (place * 96 + 96 - place * 96) new part) ((place + 1) * 96)
    order_put l h long {part} e =
        let at : ℕ = place * 96 in
        let order : List ℕ = marked_order currency lo (company_record_at file place) in
        let k : length order ≡ 96 = length-append (bytes "IN") (order_of currency lo (company_record_at file place)) ∙ omega (arith, order_length currency lo (company_record_at file place) l long) in
        rw (one_made h, e) (on w order (omega (arith, k), part_laid at (at + 96) order new (omega (arith, k))))
