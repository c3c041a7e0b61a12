-- The order that is made of a detail: what stands at each of its positions.
use Prim.Native.Nat.{ℕ, ◌+◌, ◌≤◌, ◌<◌, ◌^◌}
use native.Mathlib.Nat.{mod-eq_of_lt}
use native.Mathlib.Omega.{arith}
use mathlib.Core.Bool.{Bool, true, false, ◌||◌}
use mathlib.Core.List.{List, [], ◌∷◌, ◌++◌, append_assoc, append-nil}
use mathlib.Core.Path.{◌≡◌, refl, ap, ◌∙◌}
use lib.Dec.{T, ltb, ltb→lt}
use lib.ListN.{length, get_or, take, drop, length-append, length-take, length-drop}
use lib.Seq.{take_all, take_at, drop_at}
use Rattle.paper.specs.declared.rules.Currency.{Currency}
use Rattle.paper.specs.declared.rules.Currency.TheVariants.{Pesos, Dollars}
use Rattle.paper.specs.declared.record.Kind.TheVariants.{Individual}
use Rattle.paper.specs.declared.record.Code.TheVariants.{Order}
use Rattle.paper.specs.Checks.{fine}
use Rattle.paper.specs.Fields.{bytes, field, every, digit, digits, same, number}
use Rattle.paper.specs.Entities.{entity_value, of_currency, currency_adds, entity_field, entity}
use Rattle.paper.specs.Kinds.{kind, kind_of, code_of}
use Rattle.paper.specs.Records.{amount_of}
use Rattle.paper.specs.Writing.{spelled, joined}
use Rattle.paper.proofs.Tests.{of_T, and_both, within_range}
use Rattle.paper.proofs.Lists.{length_spelled}
use Rattle.paper.proofs.Shared.{within_of}
use Rattle.paper.proofs.Every.{every_both, every_drop, every_take}
use Rattle.paper.proofs.Spelling.{digits_spelled, value_spelled}
use Rattle.paper.proofs.Pieces.{Wide, part_inner, part_at, piece_at, offset}
use Rattle.company.specs.Details.{block1_in, payer_entity, block2_in, client_in, reference_in, cents_in, detail, order_of}
use Rattle.company.specs.Promised.{OrderFor}
use Rattle.company.proofs.Sizes.{order_length}
use Rattle.company.proofs.Asked.{detail_exactly}

-- ---- an entity with its branch, as the order names them

-- its entity, 500 more in dollars, and its branch
abbrev pub addressed : Currency → ℕ → List ℕ → List ℕ
addressed currency e branch = spelled 4 (currency_adds currency + e) ++ branch

module _ (currency : Currency) (e : ℕ) (branch : List ℕ) (low : 1 ≤ e) (high : e ≤ 499) where
  abbrev whom : List ℕ
  whom = addressed currency e branch

  the_value : entity_value whom ≡ currency_adds currency + e
  unfolding entity_value number
  the_value =
      let n : ℕ = currency_adds currency + e in
      rw (take_at (spelled 4 n) branch 4 (length_spelled 4 n), of_T (digits (spelled 4 n)) (digits_spelled 4 n))
      (value_spelled 4 n ∙ mod-eq_of_lt (go currency))
    where
      go : (c : Currency) → currency_adds c + e < 10 ^ 4
      go Pesos = omega arith
      go Dollars = omega arith

  the-entity : entity whom ≡ e
  unfolding entity
  the-entity = go currency the_value
    where
      go : (c : Currency) → entity_value whom ≡ currency_adds c + e → entity whom ≡ e
      go Pesos v = omega arith
      go Dollars v = omega arith

  the-currency : T (of_currency currency whom)
  unfolding of_currency
  the-currency = go currency the_value
    where
      go : (c : Currency) → entity_value whom ≡ currency_adds c + e → T (of_currency c whom)
      go Pesos v = within_of 1 499 (entity_value whom) (omega arith) (omega arith)
      go Dollars v = within_of 501 999 (entity_value whom) (omega arith) (omega arith)

  the_field : T (digits branch) → T (entity_field whom)
  unfolding entity_field
  the_field d =
      let n : ℕ = currency_adds currency + e in
      and_both (digits whom) (of_currency Pesos whom || of_currency Dollars whom)
      (every_both digit (spelled 4 n) branch (digits_spelled 4 n) d) (go currency the-currency)
    where
      either : (a b : Bool) → T b → T (a || b)
      either true b t = tt
      either false b t = t

      go : (c : Currency) → T (of_currency c whom) → T (of_currency Pesos whom || of_currency Dollars whom)
      go Pesos t = rw (of_T (of_currency Pesos whom) t) tt
      go Dollars t = either (of_currency Pesos whom) (of_currency Dollars whom) t

-- ---- the order as its pieces

module _ (currency : Currency) (lo r : List ℕ) (lo_long : length lo ≡ 94) (long : length r ≡ 250) where
  abbrev order : List ℕ
  order = order_of currency lo r

  abbrev widths : List ℕ
  widths = 3 ∷ 8 ∷ 1 ∷ 17 ∷ 10 ∷ 15 ∷ 22 ∷ 2 ∷ 1 ∷ 8 ∷ 7 ∷ []

  abbrev pub pieces : List (List ℕ)
  pieces =
      bytes "637" ∷ addressed currency (payer_entity r) (field r 37 40) ∷ bytes "0" ∷ (bytes "000" ++ block2_in r) ∷ cents_in r ∷ reference_in r ∷ client_in r
      ∷ bytes "00" ∷ bytes "0" ∷ field lo 80 87 ∷ bytes "0000000" ∷ []

  pub made : order ≡ joined pieces
  unfolding order_of joined
  made = simp (append_assoc, append-nil)

  wide : Wide widths pieces
  wide = simp (length-append, length_spelled, length-take, length-drop, lo_long, long)

  -- the piece of an index stands at its positions
  piece : (i : ℕ) → T (ltb i 11) → take (get_or widths i 0) (drop (offset widths i) order) ≡ get_or pieces i []
  piece i q = ap (λ (o : List ℕ). take (get_or widths i 0) (drop (offset widths i) o)) made ∙ piece_at widths pieces wide i q

  pub its_type : kind_of order ≡ Individual
  unfolding kind_of kind order_of
  its_type = refl

  its_code : code_of order ≡ Order
  unfolding code_of order_of same
  its_code = refl

  pub its_zeros : field order 88 94 ≡ bytes "0000000"
  its_zeros = piece 10 tt

  pub its_amount : amount_of order ≡ number (cents_in r)
  unfolding amount_of
  its_amount = ap number (piece 4 tt)

  its_branch : field order 8 11 ≡ field r 37 40
  its_branch =
      let n : ℕ = currency_adds currency + payer_entity r in
      ap (λ (o : List ℕ). field o 8 11) made ∙ part_at widths pieces wide 1 4 4 tt tt
      ∙ ap (take 4) (drop_at (spelled 4 n) (field r 37 40) 4 (length_spelled 4 n)) ∙ take_all 4 (field r 37 40) (omega (arith, length-take 4 (drop 36 r)))

  pub branch_digits : T (digits (block1_in r)) → T (digits (field r 37 40))
  branch_digits t =
      rw (part_inner 3 4 33 8 r (omega arith) (omega arith)) at (every_take digit 4 (drop 3 (block1_in r)) (every_drop digit 3 (block1_in r) t))

  -- where nothing is wrong with a detail its order holds what is promised
  -- (not so with 500 added in pesos, a branch taken from 38-41, block 2 at the account's front, or the client's text in 54-75)
  pub order_for : detail currency lo r ≡ fine → OrderFor currency lo r order
  unfolding same every digit
  order_for h =
      let g = (detail_exactly currency lo r).0 h in
      let e = within_range 1 499 (payer_entity r) g.payer in
      let branch = branch_digits g.block1 in
      record {
        long = order_length currency lo r lo_long long;
        type = its_type;
        code = its_code;
        destination = rw (piece 1 tt) (the_field currency (payer_entity r) (field r 37 40) e.0 e.1 branch);
        money = rw (piece 1 tt) (the-currency currency (payer_entity r) (field r 37 40) e.0 e.1);
        payer = ap entity (piece 1 tt) ∙ the-entity currency (payer_entity r) (field r 37 40) e.0 e.1;
        branch = its_branch;
        reserved = piece 2 tt;
        account = piece 3 tt;
        account_digits = rw (piece 3 tt) (every_both digit (bytes "000") (block2_in r) tt g.block2);
        cents = piece 4 tt;
        amount = its_amount;
        some = rw its_amount (ltb→lt 0 (number (cents_in r)) g.some);
        reference = piece 5 tt;
        client = piece 6 tt;
        information = piece 7 tt;
        flag = piece 8 tt;
        alone = rw (piece 8 tt) refl;
        sender = piece 9 tt;
        zeros = its_zeros;
      }
