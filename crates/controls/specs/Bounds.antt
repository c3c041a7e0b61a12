-- Room in what is counted.
use Rattle.std.specs.Prelude.{ℕ, ◌≤◌}
use Rattle.paper.specs.declared.record.Tally.{Tally}

-- nothing counted exceeds this
pub record Below (most : ℕ) (t : Tally) : Type 0 where
  pub records : t.records ≤ most
  pub destinations : t.destinations ≤ most
  pub debits : t.debits ≤ most
  pub credits : t.credits ≤ most
