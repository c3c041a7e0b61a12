-- The number in the four digits for the entity, by its currency.
use Rattle.std.specs.Prelude.{ℕ, Bool}
use Rattle.paper.specs.Fields.{within}
use Rattle.paper.specs.declared.rules.Currency.{Currency}
use Rattle.paper.specs.declared.rules.Currency.TheVariants.{Pesos, Dollars}

abbrev pub in_currency : Currency → ℕ → Bool
in_currency Pesos n = within 1 499 n
in_currency Dollars n = within 501 999 n
