-- What the program takes from its input.
use Prim.Native.Nat.{ℕ, ◌≤◌}
use mathlib.Core.Bool.{true, false}
use mathlib.Core.List.{List}
use mathlib.Core.Path.{◌≡◌, sym, ap, ◌∙◌}
use native.Mathlib.Omega.{arith}
use borrow.Author.Tests.{le-leb}
use lib.ListN.{length, drop}
use lib.Seq.{take-take}
use Rattle.paper.specs.declared.rules.Currency.TheVariants.{Pesos, Dollars}
use Rattle.paper.specs.Fields.{field, within, number}
use Rattle.paper.specs.Entities.{entity_value, of_currency}
use Rattle.paper.specs.Listing.{has_header, currency_in}

module _ (file : List ℕ) where
  -- the four digits of an entity field are 15-18
  in_15_18 : of_currency Dollars (field file 15 22) ≡ within 501 999 (number (field file 15 18))
  unfolding of_currency entity_value
  in_15_18 = ap (λ (f : List ℕ). within 501 999 (number f)) (take-take 4 8 (drop 14 file) (omega arith))

  pub in_dollars : 94 ≤ length file → of_currency Dollars (field file 15 22) ≡ true → Dollars ≡ currency_in file
  unfolding currency_in has_header
  in_dollars h d = rw (le-leb 94 (length file) h, sym in_15_18 ∙ d)

  pub in_pesos : 94 ≤ length file → of_currency Dollars (field file 15 22) ≡ false → Pesos ≡ currency_in file
  unfolding currency_in has_header
  in_pesos h d = rw (le-leb 94 (length file) h, sym in_15_18 ∙ d)
