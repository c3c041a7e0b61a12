-- A record that the house finds without fault, as it is handed out: its entity's desk finds none either.
use Prim.Native.Nat.{ℕ, suc, ◌+◌, ◌≤◌, ◌<◌, ◌^◌}
use native.Mathlib.Numerals.{add-one}
use native.Mathlib.Omega.{arith}
use mathlib.Core.Bool.{true}
use mathlib.Core.List.{List}
use mathlib.Core.Path.{◌≡◌}
use lib.Dec.{T, eqb, ltb, ltb→lt, lt→ltb}
use lib.ListN.{length, take, drop}
use Rattle.paper.specs.declared.rules.Rules.{Rules}
use Rattle.paper.specs.Checks.{fine}
use Rattle.paper.specs.Fields.{field, every, good, same, number, spells}
use Rattle.paper.specs.Entities.{entity}
use Rattle.paper.specs.Records.{in_house, at_desk, number_good, batch_header, counter_good, addressed, destination, transfer, individual}
use Rattle.paper.specs.Writing.{spelled, numbered}
use Rattle.paper.specs.Extract.{is_to}
use Rattle.paper.proofs.Tests.{and_l, and_r, T_of, and_both}
use Rattle.paper.proofs.Exactly.{also_l, also_r, need_T, fine_also, need_met}
use Rattle.paper.proofs.Normal.{field_front, field_numbered}
use Rattle.paper.proofs.Every.{every_both}
use Rattle.paper.proofs.Spelling.{spells_own}
use Rattle.paper.proofs.Characters.{good_spelled}
use Rattle.received.proofs.Written.{good_part}

-- ---- 6

module _ (rules : Rules) (e : ℕ) (r : List ℕ) (to : is_to e r ≡ true) where
  destination_handed : destination (in_house rules) (field r 4 11) ≡ fine → destination (at_desk e rules) (field r 4 11) ≡ fine
  unfolding destination addressed is_to
  destination_handed h = let own : T (eqb (entity (field r 4 11)) e) = T_of to in search (fine_also, need_met, also_l, also_r) depth 6

  transfer_handed : transfer (in_house rules) r ≡ fine → transfer (at_desk e rules) r ≡ fine
  unfolding transfer
  transfer_handed h = search (fine_also, also_l, also_r, destination_handed) depth 12

  -- under the header of its batch, numbered anew, and after an individual record whose number is no larger
  counter_handed : (n p q : ℕ) (header : List ℕ) → length header ≡ 94 → q ≤ p → T (counter_good header p r) → T (counter_good (numbered n header) q r)
  unfolding counter_good numbered
  counter_handed n p q header l o t =
      let s = same (field r 80 87) (field header 80 87) in
      rw (field_front 79 8 header (spelled 7 n) (omega arith) (omega arith))
      (and_both s (ltb q (number (field r 88 94))) (and_l s (ltb p (number (field r 88 94))) t)
      (let lt : p < number (field r 88 94) = ltb→lt p (number (field r 88 94)) (and_r s (ltb p (number (field r 88 94))) t) in lt→ltb q (number (field r 88 94)) (omega arith)))

  pub individual_handed : (n p q : ℕ) (header : List ℕ) → length header ≡ 94 → q ≤ p → individual (in_house rules) header p r ≡ fine
      → individual (at_desk e rules) (numbered n header) q r ≡ fine
  unfolding individual
  individual_handed n p q header l o h =
      let last : T (counter_good header p r) = search (also_r, need_T) in
      let mine = counter_handed n p q header l o last in
      search (fine_also, need_met, also_l, also_r, transfer_handed) depth 20

-- ---- 5

-- every field but the number stands where it stood
pub header_handed : (rules : Rules) (e n before : ℕ) (r : List ℕ) → length r ≡ 94 → suc n < 10 ^ 7 → batch_header (in_house rules) before r ≡ fine
    → batch_header (at_desk e rules) n (numbered (suc n) r) ≡ fine
unfolding batch_header number_good
header_handed rules e n before r l o h =
    let of : (a m : ℕ) → a + m ≤ 87 → take m (drop a (numbered (suc n) r)) ≡ take m (drop a r) = unfold numbered in λ a m q. field_front a m r (spelled 7 (suc n)) q (omega arith) in
    let own : T (spells (spelled 7 (suc n)) (n + 1)) = rw (add-one n) (spells_own 7 (suc n) o) in
    rw (of 1 3 (omega arith), of 4 16 (omega arith), of 40 10 (omega arith), of 53 10 (omega arith), of 69 6 (omega arith), of 78 1 (omega arith), of 79 8 (omega arith), field_numbered (suc n) r (omega arith))
    (fine_also _ _ (also_l _ _ h) (need_met _ 17 own))

pub good_numbered : (n : ℕ) (r : List ℕ) → T (every good r) → T (every good (numbered n r))
unfolding numbered
good_numbered n r g = every_both good (field r 1 87) (spelled 7 n) (good_part 0 87 r g) (good_spelled 7 n)
