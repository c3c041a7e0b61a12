use Rattle.std.proofs.Common.{Bool, ap, ltb, refl, sym, ◌&&◌, ◌∙◌}
use Rattle.state.proofs.columns.highest.Goals as goal

pub returns-then-opens_batch-counter : goal.returns-then-opens_batch-counter
returns-then-opens_batch-counter c =
    rw (sym (ap (λ (b : Bool). b && ltb c.args.highest c.args.counter) c.opens_batch.ensures) ∙ c.if-opens_batch-counter.true) refl

pub returns : goal.returns
returns c =
    rw (sym (ap (λ (b : Bool). b && ltb c.args.highest c.args.counter) c.opens_batch.ensures) ∙ c.if-opens_batch-counter.false) refl
