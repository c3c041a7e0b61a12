-- What the reading can say of an order: nothing but of the roster and of its counter.
use Prim.Native.Nat.{ℕ, ◌+◌, ◌<◌}
use native.Mathlib.Omega.{arith}
use mathlib.Core.Bool.{Bool, true, false, not}
use mathlib.Core.List.{List}
use mathlib.Core.Path.{◌≡◌, refl}
use lib.Dec.{T, leb, ltb, leb→le}
use lib.ListN.{length, get_or, take, drop}
use borrow.Author.Tests.{not-true}
use Rattle.paper.specs.declared.rules.Rules.{Rules}
use Rattle.paper.specs.declared.record.Code.TheVariants.{Order}
use Rattle.paper.specs.Answers.{accepted}
use Rattle.paper.specs.Checks.{Check, fine, need, ◌also◌}
use Rattle.paper.specs.Fields.{bytes, field, every, good, among, digit, digits, blank, same, number}
use Rattle.paper.specs.Entities.{currency_adds, entity_field, of_currency, on_roster}
use Rattle.paper.specs.Kinds.{code_of}
use Rattle.paper.specs.Records.{in_house, amount_of, account_good, information_good, flag_good, counter_good, addressed, destination, transfer, individual}
use Rattle.paper.specs.Writing.{spelled, numbered}
use Rattle.paper.proofs.Tests.{and_l, and_r, of_T}
use Rattle.paper.proofs.Normal.{field_front}
use Rattle.paper.proofs.Every.{every_both, every_take, every_other}
use Rattle.paper.proofs.Characters.{digit_good, good_spelled}
use Rattle.paper.proofs.Pieces.{every_joined}
use Rattle.tray.specs.Trays.{body_at}
use Rattle.company.specs.Details.{payer_entity, block2_in, reference_in, client_in, cents_in, text_good, detail, order_of}
use Rattle.company.specs.Files.{details_of, company_answer, company_tray}
use Rattle.company.specs.Promised.{DetailGood, OrderFor, company_record_at}
use Rattle.company.proofs.Sizes.{details_count, detail_long}
use Rattle.company.proofs.Asked.{detail_exactly}
use Rattle.company.proofs.OrderFields.{pieces, made, branch_digits, order_for}
use Rattle.company.proofs.Exactly.{company_exactly}
use Rattle.company.proofs.Trays.{order_at}

-- rules that hold say nothing
passed_over : (b : Bool) (x y : Check)
    → (need b 204 also fine also fine also fine also fine also fine also fine also fine also fine also x also y) ≡ (need b 204 also x also y)
unfolding need ◌also◌
passed_over true x y = refl
passed_over false x y = refl

module _ (rules : Rules) (lo r : List ℕ) (lo_long : length lo ≡ 94) (long : length r ≡ 250) (h : detail rules.currency lo r ≡ fine) (m : ℕ) where
  abbrev plain : List ℕ
  plain = order_of rules.currency lo r

  -- the order under a number of the file
  abbrev order : List ℕ
  order = numbered m plain

  asked : DetailGood rules.currency lo r
  asked = (detail_exactly rules.currency lo r).0 h

  holds : OrderFor rules.currency lo r plain
  holds = order_for rules.currency lo r lo_long long h

  -- the number stands in 88-94 only
  kept : (a w : ℕ) → T (leb (a + w) 87) → take w (drop a order) ≡ take w (drop a plain)
  unfolding numbered
  kept a w t = field_front a w plain (spelled 7 m) (leb→le (a + w) 87 t) (omega (arith, holds.long))

  code : code_of order ≡ Order
  unfolding code_of
  code = rw (kept 1 2 tt) holds.code

  digits_good : (f : List ℕ) → T (digits f) → T (every good f)
  digits_good f t = every_other digit good digit_good f t

  text-good : (f : List ℕ) → T (text_good f) → T (every good f)
  unfolding text_good
  text-good f t = and_l (every good f) (not (blank f)) t

  some_text : (f : List ℕ) → T (text_good f) → blank f ≡ false
  unfolding text_good
  some_text f t = not-true (blank f) (of_T (not (blank f)) (and_r (every good f) (not (blank f)) t))

  -- of an order made of a detail that nothing is wrong with, all that the reading of a session of its currency can say is 204 for the payer's entity, and
  -- what it says of the counter, which building and the LO body made
  -- (not so with a reference left blank, letters in an account, "01" in 77-78, or an amount of zero)
  pub order_judged : (header : List ℕ) (previous : ℕ) → individual (in_house rules) header previous order
      ≡ (need (get_or rules.roster (payer_entity r) false) 204 also need (digits (field order 80 94)) 17 also need (counter_good header previous order) 27)
  unfolding individual transfer destination addressed account_good information_good flag_good on_roster amount_of same need ◌also◌
  order_judged header previous =
      rw (
        code,
        kept 3 8 tt,
        of_T (entity_field (field plain 4 11)) holds.destination,
        of_T (of_currency rules.currency (field plain 4 11)) holds.money,
        holds.payer,
        kept 11 1 tt,
        holds.reserved,
        kept 12 17 tt,
        of_T (digits (field plain 13 29)) holds.account_digits,
        kept 29 10 tt,
        holds.cents,
        of_T (digits (cents_in r)) asked.cents,
        of_T (ltb 0 (number (cents_in r))) asked.some,
        kept 39 15 tt,
        holds.reference,
        some_text (reference_in r) asked.reference,
        kept 54 22 tt,
        holds.client,
        some_text (client_in r) asked.client,
        kept 76 2 tt,
        holds.information,
        kept 78 1 tt,
        holds.flag,
      )
      (passed_over (get_or rules.roster (payer_entity r) false) (need (digits (field order 80 94)) 17) (need (counter_good header previous order) 27))

  -- its bytes are characters of 01 where those that the LO body gave it are
  -- (not so with a client's name in lower case taken as it is)
  pub order_characters : T (every good (field lo 80 87)) → T (every good order)
  unfolding numbered every good among
  order_characters t =
      let n : ℕ = currency_adds rules.currency + payer_entity r in
      let branch = digits_good (field r 37 40) (branch_digits rules.currency lo r lo_long long asked.block1) in
      let whom = every_both good (spelled 4 n) (field r 37 40) (good_spelled 4 n) branch in
      let account = every_both good (bytes "000") (block2_in r) tt (digits_good (block2_in r) asked.block2) in
      let cents = digits_good (cents_in r) asked.cents in
      let reference = text-good (reference_in r) asked.reference in
      let client = text-good (client_in r) asked.client in
      let all : T (every good plain) = rw (made rules.currency lo r lo_long long) (every_joined good (pieces rules.currency lo r lo_long long) (search depth 14)) in
      every_both good (take 87 plain) (spelled 7 m) (every_take good 87 plain all) (good_spelled 7 m)

-- so of every order on the tray of an accepted file, under any number
-- (not so with an order judged by rules of its own)
pub tray_judged : (rules : Rules) (lo file : List ℕ) → company_answer rules.currency lo file ≡ accepted → (k : ℕ) → k < length (details_of file)
    → (header : List ℕ) (previous m : ℕ)
    → let o = numbered m (body_at (company_tray rules.currency lo file) (k + 1)) in
    individual (in_house rules) header previous o
    ≡ (need (get_or rules.roster (payer_entity (company_record_at file k)) false) 204 also need (digits (field o 80 94)) 17 also need (counter_good header previous o) 27)
tray_judged rules lo file h k b header previous m =
    let good = (company_exactly rules.currency lo file).0 h in
    let r : List ℕ = company_record_at file k in
    let fine = (detail_exactly rules.currency lo r).1 (good.details k (omega (arith, details_count file))) in
    rw (order_at rules.currency lo file h k b) (order_judged rules lo r good.body (detail_long file k b) fine m header previous)
