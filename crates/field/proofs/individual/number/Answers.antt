use Rattle.std.proofs.Common.{rules}
use Rattle.field.proofs.Words.{number_told}
use Rattle.field.proofs.individual.number.Goals as goal

pub returns : goal.returns
returns c = number_told c.args.rec.now c.told-rec c.counter.ensures c.unwrap_or_else.ensures (λ p. search rules)
