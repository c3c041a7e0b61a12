-- Entity fields: eight digits, four for the entity and four for a branch that is not judged.
use Rattle.std.specs.Prelude.{ℕ, ◌%◌, Bool, false, ◌&&◌, ◌||◌, List, get_or}
use Rattle.paper.specs.declared.rules.Currency.{Currency}
use Rattle.paper.specs.declared.rules.Currency.TheVariants.{Pesos, Dollars}
use Rattle.paper.specs.Fields.{field, within, digits, number}

-- the number in the four digits for the entity
unfoldable pub entity_value : List ℕ → ℕ
entity_value f = number (field f 1 4)

-- 0001 to 0499 means pesos; dollars add 500, so 0501 to 0999
unfoldable pub of_currency : Currency → List ℕ → Bool
of_currency Pesos f = within 1 499 (entity_value f)
of_currency Dollars f = within 501 999 (entity_value f)

-- what the currency adds to an entity's number
abbrev pub currency_adds : Currency → ℕ
currency_adds Pesos = 0
currency_adds Dollars = 500

-- other values are no entity
unfoldable pub entity_field : List ℕ → Bool
entity_field f = digits f && (of_currency Pesos f || of_currency Dollars f)

-- the entity's number, 1 to 499, in either currency
unfoldable pub entity : List ℕ → ℕ
entity f = entity_value f % 500

-- the roster says for each entity number whether it is on it
unfoldable pub on_roster : List Bool → List ℕ → Bool
on_roster roster f = get_or roster (entity f) false
