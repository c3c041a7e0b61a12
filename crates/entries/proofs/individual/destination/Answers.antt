use Rattle.std.proofs.Common.{Bool, List, ap, sym, ℕ, ◌∙◌, ◌≡◌}
use Rattle.paper.specs.declared.rules.Currency.{Currency}
use Rattle.paper.specs.declared.rules.Currency.TheVariants.{Pesos, Dollars}
use Rattle.paper.specs.Entities.{entity_value, of_currency, entity}
use Rattle.field.specs.Currencies.{in_currency}
use Rattle.field.proofs.Currencies.{of_field}
use Rattle.verdicts.specs.Verdicts.{check_of}
use Rattle.entries.proofs.Chains.{no_entity, other_currency, of_the_currency}
use Rattle.entries.proofs.individual.destination.Goals as goal

-- what is asked of the number is asked of the field
of : (currency : Currency) (f : List ℕ) {n : ℕ} {r : Bool} → entity_value f ≡ n → r ≡ in_currency currency n → r ≡ of_currency currency f
of currency f e h = h ∙ ap (in_currency currency) (sym e) ∙ of_field currency f

pub returns-then-in_currency : goal.returns-then-in_currency
unfolding entity
returns-then-in_currency c f d e =
    c.addressed.ensures f (rw e (sym c.own.ensures.0)) ∙ of_the_currency _ f d (sym (of _ f e c.in_currency.ensures) ∙ c.if-in_currency.true)

pub returns-then-in_currency-2 : goal.returns-then-in_currency-2
unfolding check_of
returns-then-in_currency-2 c f d e =
    other_currency _ f d (sym (of _ f e c.in_currency.ensures) ∙ c.if-in_currency.false)
    (rw (of Pesos f e c.in_currency-2.ensures, of Dollars f e c.in_currency-3.ensures) at c.if-in_currency-2.true)

pub returns : goal.returns
unfolding check_of
returns c f d e =
    no_entity _ f d (rw (of Pesos f e c.in_currency-2.ensures, of Dollars f e c.in_currency-3.ensures) at c.if-in_currency-2.false)

pub own-requires : goal.own-requires
own-requires c = sym c.in_currency.ensures ∙ c.if-in_currency.true

pub addressed-requires : goal.addressed-requires
addressed-requires c = c.own.ensures.1
