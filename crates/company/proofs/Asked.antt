-- What is asked of a detail: exactly its rules, each by itself.
use Prim.Native.Nat.{ℕ}
use mathlib.Core.Bool.{◌&&◌}
use mathlib.Core.List.{List}
use mathlib.Core.Logic.{◌↔◌}
use mathlib.Core.Path.{◌≡◌}
use lib.Dec.{T, ltb}
use Rattle.paper.specs.declared.rules.Currency.{Currency}
use Rattle.paper.specs.Checks.{fine}
use Rattle.paper.specs.Fields.{digits, number}
use Rattle.paper.proofs.Tests.{and_l, and_r, and_both}
use Rattle.paper.proofs.Exactly.{also_l, also_r, need_T, fine_also, need_met}
use Rattle.company.specs.Details.{block1_in, block2_in, client_in, reference_in, cents_in, text_good, detail}
use Rattle.company.specs.Promised.{DetailGood}

-- (not so with an amount of zero taken, or with the currency left to the closing record)
pub detail_exactly : (currency : Currency) (lo r : List ℕ) → (detail currency lo r ≡ fine) ↔ DetailGood currency lo r
unfolding detail
detail_exactly currency lo r = (
  λ h.
      let blocks : T (digits (block1_in r) && digits (block2_in r)) = search (also_l, also_r, need_T) depth 12 in
      let texts : T (text_good (reference_in r) && text_good (client_in r)) = search (also_l, also_r, need_T) depth 12 in
      let amount : T (digits (cents_in r) && ltb 0 (number (cents_in r))) = search (also_l, also_r, need_T) depth 12 in
      record {
        type = search (also_l, also_r, need_T) depth 12;
        block1 = and_l (digits (block1_in r)) (digits (block2_in r)) blocks;
        block2 = and_r (digits (block1_in r)) (digits (block2_in r)) blocks;
        payer = search (also_l, also_r, need_T) depth 12;
        reference = and_l (text_good (reference_in r)) (text_good (client_in r)) texts;
        client = and_r (text_good (reference_in r)) (text_good (client_in r)) texts;
        money = search (also_l, also_r, need_T) depth 12;
        cents = and_l (digits (cents_in r)) (ltb 0 (number (cents_in r))) amount;
        some = and_r (digits (cents_in r)) (ltb 0 (number (cents_in r))) amount;
        due = search (also_l, also_r, need_T) depth 12;
      },
  λ g.
      let blocks = and_both (digits (block1_in r)) (digits (block2_in r)) g.block1 g.block2 in
      let texts = and_both (text_good (reference_in r)) (text_good (client_in r)) g.reference g.client in
      let amount = and_both (digits (cents_in r)) (ltb 0 (number (cents_in r))) g.cents g.some in
      search (fine_also, need_met, g.type, g.payer, g.money, g.due) depth 12,
)
