use Rattle.std.proofs.Common.{refl, sym, ◌∙◌}
use Rattle.state.proofs.columns.batch.Goals as goal

pub returns-then-opens_batch : goal.returns-then-opens_batch
returns-then-opens_batch c =
    rw (sym c.opens_batch.ensures ∙ c.if-opens_batch.true) refl

pub returns-then-is_individual : goal.returns-then-is_individual
returns-then-is_individual c =
    rw (sym c.opens_batch.ensures ∙ c.if-opens_batch.false, sym c.is_individual.ensures ∙ c.if-is_individual.true)
    (rw c.collects.ensures at c.with_entry.ensures)

pub returns-then-is_additional : goal.returns-then-is_additional
returns-then-is_additional c =
    rw (sym c.opens_batch.ensures ∙ c.if-opens_batch.false, sym c.is_individual.ensures ∙ c.if-is_individual.false, sym c.is_additional.ensures ∙ c.if-is_additional.true) c.with_additional.ensures

pub returns : goal.returns
returns c =
    rw (sym c.opens_batch.ensures ∙ c.if-opens_batch.false, sym c.is_individual.ensures ∙ c.if-is_individual.false, sym c.is_additional.ensures ∙ c.if-is_additional.false) refl
