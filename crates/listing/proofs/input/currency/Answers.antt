use Rattle.std.proofs.Common.{sym, ◌∙◌}
use Rattle.listing.proofs.Taking.{in_dollars, in_pesos}
use Rattle.listing.proofs.input.currency.Goals as goal

pub returns-then-of_currency : goal.returns-then-of_currency
returns-then-of_currency c =
    in_dollars c.args.file.now c.if-file-lt-RECORD.false (sym c.of_currency.ensures ∙ c.if-of_currency.true)

pub returns : goal.returns
returns c =
    in_pesos c.args.file.now c.if-file-lt-RECORD.false (sym c.of_currency.ensures ∙ c.if-of_currency.false)
