use Rattle.std.proofs.Common.{ap₂, ◌||◌}
use Rattle.reading.proofs.is_entry.Goals as goal

pub returns : goal.returns
returns c = ap₂ ◌||◌ c.is_individual.ensures c.is_additional.ensures
