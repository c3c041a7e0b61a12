-- The number in the four digits for the entity, by its currency.
use Rattle.std.proofs.Common.{◌≡◌, ℕ, List, refl}
use Rattle.paper.specs.Entities.{entity_value, of_currency}
use Rattle.paper.specs.declared.rules.Currency.{Currency}
use Rattle.paper.specs.declared.rules.Currency.TheVariants.{Pesos, Dollars}
use Rattle.field.specs.Currencies.{in_currency}

-- of a field
pub of_field : (currency : Currency) (f : List ℕ) → in_currency currency (entity_value f) ≡ of_currency currency f
unfolding of_currency
of_field Pesos f = refl
of_field Dollars f = refl
