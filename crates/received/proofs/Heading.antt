-- The file header of an extract is without fault at the desk of its entity.
use Prim.Native.Nat.{ℕ, ◌+◌, ◌≤◌, ◌<◌, ◌^◌}
use native.Mathlib.Nat.{mod-eq_of_lt}
use native.Mathlib.Omega.{arith}
use mathlib.Core.Bool.{true, ◌&&◌}
use mathlib.Core.List.{List, [], ◌∷◌, ◌++◌, append_assoc, append-nil}
use mathlib.Core.Path.{◌≡◌, refl, ap, ◌∙◌}
use lib.Dec.{T, leb, ltb, leb→le}
use lib.ListN.{length, get_or, take, drop, length-append, length-take, length-drop}
use lib.Seq.{take_at, drop_at}
use borrow.Author.Tests.{eq-eqb}
use Rattle.paper.specs.declared.rules.Currency.{Currency}
use Rattle.paper.specs.declared.rules.Currency.TheVariants.{Pesos, Dollars}
use Rattle.paper.specs.declared.rules.Rules.{Rules}
use Rattle.paper.specs.Checks.{fine}
use Rattle.paper.specs.Fields.{bytes, field, every, good, among, digits, digit, same, number}
use Rattle.paper.specs.Entities.{entity_value, of_currency, currency_adds, entity}
use Rattle.paper.specs.Records.{in_house, at_desk, origin_good, own_desk, headed, file_header}
use Rattle.paper.specs.Writing.{spelled, joined}
use Rattle.paper.specs.Extract.{header_for}
use Rattle.paper.proofs.Tests.{of_T, and_both}
use Rattle.paper.proofs.Exactly.{also_l, also_r, fine_also, need_met}
use Rattle.paper.proofs.Lists.{length_spelled}
use Rattle.paper.proofs.Shared.{within_of}
use Rattle.paper.proofs.Every.{every_both}
use Rattle.paper.proofs.Spelling.{digits_spelled, value_spelled}
use Rattle.paper.proofs.Characters.{good_spelled}
use Rattle.paper.proofs.Pieces.{Wide, part_at, part_inner, piece_at, every_joined, offset}
use Rattle.received.proofs.Written.{good_part}

-- ---- the entity's own field

number_spelled : (w n : ℕ) → n < 10 ^ w → number (spelled w n) ≡ n
unfolding number
number_spelled w n h = rw (of_T (digits (spelled w n)) (digits_spelled w n)) (value_spelled w n ∙ mod-eq_of_lt h)

-- with branch 0000
abbrev own : Currency → ℕ → List ℕ
own currency e = spelled 4 (e + currency_adds currency) ++ bytes "0000"

own_value : (currency : Currency) (e : ℕ) → e ≤ 499 → entity_value (own currency e) ≡ e + currency_adds currency
unfolding entity_value
own_value currency e h =
    ap number (take_at (spelled 4 (e + currency_adds currency)) (bytes "0000") 4 (length_spelled 4 (e + currency_adds currency)))
    ∙ number_spelled 4 (e + currency_adds currency) (go currency)
  where
    go : (c : Currency) → e + currency_adds c < 10 ^ 4
    go Pesos = omega arith
    go Dollars = omega arith

own_currency : (currency : Currency) (e : ℕ) → 1 ≤ e → e ≤ 499 → T (of_currency currency (own currency e))
unfolding of_currency
own_currency Pesos e l h = rw (own_value Pesos e h) (within_of 1 499 (e + 0) (omega arith) (omega arith))
own_currency Dollars e l h = rw (own_value Dollars e h) (within_of 501 999 (e + 500) (omega arith) (omega arith))

own_entity : (currency : Currency) (e : ℕ) → e ≤ 499 → entity (own currency e) ≡ e
unfolding entity
own_entity Pesos e h = rw (own_value Pesos e h) (omega arith)
own_entity Dollars e h = rw (own_value Dollars e h) (omega arith)

own_digits : (currency : Currency) (e : ℕ) → T (digits (own currency e))
unfolding every digit
own_digits currency e = every_both digit (spelled 4 (e + currency_adds currency)) (bytes "0000") (digits_spelled 4 (e + currency_adds currency)) tt

-- ---- the header

module _ (currency : Currency) (e : ℕ) (r : List ℕ) (l : length r ≡ 94) where
  abbrev widths1 : List ℕ
  widths1 = 3 ∷ 1 ∷ 8 ∷ 1 ∷ 10 ∷ 17 ∷ 23 ∷ 23 ∷ 8 ∷ []

  abbrev pieces1 : List (List ℕ)
  pieces1 = field r 1 3 ∷ bytes " " ∷ own currency e ∷ bytes "0" ∷ field r 4 13 ∷ field r 24 40 ∷ field r 64 86 ∷ field r 41 63 ∷ field r 87 94 ∷ []

  made1 : header_for currency e r ≡ joined pieces1
  unfolding header_for joined
  made1 = simp (append_assoc, append-nil)

  wide1 : Wide widths1 pieces1
  wide1 = simp (length-append, length_spelled, length-take, length-drop, l)

  -- a piece, and what stands in one that was a field of the old header
  made : (i : ℕ) → T (ltb i 9) → take (get_or widths1 i 0) (drop (offset widths1 i) (joined pieces1)) ≡ get_or pieces1 i []
  made i q = piece_at widths1 pieces1 wide1 i q

  kept : (i a m b : ℕ) → get_or pieces1 i [] ≡ take (get_or widths1 i 0) (drop b r) → T (ltb i 9) → T (leb (a + m) (get_or widths1 i 0)) → T (leb (b + get_or widths1 i 0) 94)
      → take m (drop (offset widths1 i + a) (joined pieces1)) ≡ take m (drop (b + a) r)
  kept i a m b p q h k =
      let w : ℕ = get_or widths1 i 0 in
      let ends : b + w ≤ 94 = leb→le (b + w) 94 k in
      part_at widths1 pieces1 wide1 i a m q h ∙ ap (λ (x : List ℕ). take m (drop a x)) p ∙ part_inner a m b w r (leb→le (a + m) w h) (omega arith)

  heading_own : 1 ≤ e → e ≤ 499 → T (own_desk currency e (joined pieces1))
  unfolding own_desk same
  heading_own low high =
      let branch : take 4 (drop 8 (joined pieces1)) ≡ bytes "0000" = part_at widths1 pieces1 wide1 2 4 4 tt tt
      ∙ ap (take 4) (drop_at (spelled 4 (e + currency_adds currency)) (bytes "0000") 4 (length_spelled 4 (e + currency_adds currency))) in
      rw (made 2 tt, branch, eq-eqb (entity (own currency e)) e (own_entity currency e high), of_T (of_currency currency (own currency e)) (own_currency currency e low high)) tt

  pub heading_good : T (every good r) → T (every good (header_for currency e r))
  unfolding every good among
  heading_good g =
      let mine = every_both good (spelled 4 (e + currency_adds currency)) (bytes "0000") (good_spelled 4 (e + currency_adds currency)) tt in
      rw made1 (every_joined good pieces1 (search good_part depth 14))

  -- the old 4-13 is what the desk asks of the origin; all else that is judged stands where it stood
  pub heading_fine : (rules : Rules) → rules.currency ≡ currency → 1 ≤ e → e ≤ 499 → file_header (in_house rules) r ≡ fine
      → file_header (at_desk e rules) (header_for currency e r) ≡ fine
  unfolding file_header origin_good headed same
  heading_fine rules q low high h =
      let desk = heading_own low high in
      let mine : T (digits (own currency e) && true) = and_both (digits (own currency e)) true (own_digits currency e) tt in
      rw (
        made1,
        q,
        kept 0 1 2 0 refl tt tt tt,
        made 1 tt,
        made 2 tt,
        made 3 tt,
        kept 4 0 1 3 refl tt tt tt,
        kept 4 1 8 3 refl tt tt tt,
        kept 4 9 1 3 refl tt tt tt,
        kept 5 0 6 23 refl tt tt tt,
        kept 5 6 4 23 refl tt tt tt,
        kept 5 10 1 23 refl tt tt tt,
        kept 5 11 6 23 refl tt tt tt,
      )
      (search (fine_also, need_met, also_l, also_r) depth 20)
