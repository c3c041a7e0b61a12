-- The rules of an individual record, each asked where those before it hold: the first that does not is the answer.
use Prim.Native.Nat.{ℕ}
use mathlib.Core.Bool.{Bool, true, false, ◌&&◌, ◌||◌, or-true}
use mathlib.Core.List.{List}
use mathlib.Core.Path.{◌≡◌, refl, sym, ◌∙◌}
use lib.Dec.{ltb}
use Rattle.paper.specs.declared.rules.Currency.{Currency}
use Rattle.paper.specs.declared.rules.Currency.TheVariants.{Pesos, Dollars}
use Rattle.paper.specs.Checks.{Check, fine, wrong, need, ◌also◌}
use Rattle.paper.specs.Entities.{of_currency, entity_field}
use Rattle.paper.specs.Fields.{field, digits, blank, is, same, number}
use Rattle.paper.specs.Kinds.{code_of, known}
use Rattle.paper.specs.Records.{ReadingRules, amount_of, flagged_in, information_good, flag_good, counter_good, addressed, destination, transfer, individual}
use Rattle.paper.proofs.Exactly.{wrong_not_fine}
use Rattle.characters.proofs.Value.{some_number}
use Rattle.entries.specs.Judging.{flag_rules, counter_rules, closing_rules}

-- ---- whereto: digits, then the currency and who reads

either : (currency : Currency) (f : List ℕ) → of_currency currency f ≡ true → (of_currency Pesos f || of_currency Dollars f) ≡ true
either Pesos f h = rw h
either Dollars f h = rw h (or-true (of_currency Pesos f))

module _ (rules : ReadingRules) (f : List ℕ) where
  pub no_digits : digits f ≡ false → wrong 17 ≡ destination rules f
  unfolding destination entity_field need ◌also◌
  no_digits h = rw h

  module _ (d : digits f ≡ true) where
    pub no_entity : (of_currency Pesos f || of_currency Dollars f) ≡ false → wrong 17 ≡ destination rules f
    unfolding destination entity_field need ◌also◌
    no_entity h = rw (d, h)

    pub other_currency : of_currency rules.session.currency f ≡ false → (of_currency Pesos f || of_currency Dollars f) ≡ true → wrong 203 ≡ destination rules f
    unfolding destination entity_field need ◌also◌
    other_currency h e = rw (d, e, h)

    pub of_the_currency : of_currency rules.session.currency f ≡ true → addressed rules.reader rules.session.roster f ≡ destination rules f
    unfolding destination entity_field need ◌also◌
    of_the_currency h = rw (d, either rules.session.currency f h, h)

-- ---- the amount: nothing is one that is not ten digits, or zero

pub some_amount : (r : List ℕ) → (digits (field r 30 39) && ltb 0 (amount_of r)) ≡ ltb 0 (amount_of r)
unfolding amount_of
some_amount r = some_number (field r 30 39)

-- ---- the flag: 1 is asked for first

module _ (r : List ℕ) where
  pub flag_so : flagged_in r ≡ true → fine ≡ flag_rules r
  unfolding flag_rules flag_good need ◌also◌
  flag_so h = rw (h, or-true (is (field r 79 79) "0"))

  pub no_flag : flagged_in r ≡ false → is (field r 79 79) "0" ≡ false → wrong 17 ≡ flag_rules r
  unfolding flag_rules need ◌also◌
  no_flag h e = rw (e, h)

  pub flag_zero : is (field r 79 79) "0" ≡ true → need (flag_good r) 25 ≡ flag_rules r
  unfolding flag_rules need ◌also◌
  flag_zero e = rw e

-- ---- the whole, in its two parts

also_also : (a b c : Check) → (a also b) also c ≡ a also (b also c)
unfolding ◌also◌
also_also fine b c = refl
also_also (wrong n) b c = refl

module _ (rules : ReadingRules) (header : List ℕ) (previous : ℕ) (r : List ℕ) where
  pub in_parts : individual rules header previous r ≡ transfer rules r also closing_rules header previous r
  unfolding individual closing_rules flag_rules counter_rules
  in_parts = simp also_also

  no_code : known (code_of r) ≡ false → individual rules header previous r ≡ wrong 17
  unfolding individual transfer need ◌also◌
  no_code e = rw e refl

  -- a good one has a code of the paper's
  pub code_known : individual rules header previous r ≡ fine → known (code_of r) ≡ true
  code_known h = go (known (code_of r)) refl
    where
      go : (k : Bool) → known (code_of r) ≡ k → k ≡ true
      go true e = refl
      go false e = absurd (wrong_not_fine (sym (no_code e) ∙ h))

-- ---- positions 80 to 94: digits, then what follows

module _ (header : List ℕ) (previous : ℕ) (r : List ℕ) where
  pub no_sequence : digits (field r 80 94) ≡ false → wrong 17 ≡ counter_rules header previous r
  unfolding counter_rules need ◌also◌
  no_sequence h = rw h

  pub sequence_so : {n : ℕ} {s : Bool} → digits (field r 80 94) ≡ true → number (field r 88 94) ≡ n → s ≡ same (field r 80 87) (field header 80 87)
      → need (s && ltb previous n) 27 ≡ counter_rules header previous r
  unfolding counter_rules counter_good need ◌also◌
  sequence_so d e m = rw (d, e, m)

  -- positions 55 to 94 are good where each part is
  pub closing_good_lem : blank (field r 55 76) ≡ false → information_good r ≡ true → flag_rules r ≡ fine → digits (field r 80 94) ≡ true
      → same (field r 80 87) (field header 80 87) ≡ true → ltb previous (number (field r 88 94)) ≡ true → fine ≡ closing_rules header previous r
  unfolding closing_rules counter_rules counter_good need ◌also◌
  closing_good_lem b i m d s h = rw (b, i, m, d, s, h)
