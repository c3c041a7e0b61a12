-- What the controls of a batch and of a file share.
use Rattle.std.specs.Prelude.{ℕ, List, ◌++◌}
use Rattle.paper.specs.declared.record.Tally.{Tally}
use Rattle.paper.specs.Writing.{spelled}

-- the sum of destinations, then the amounts of both sides
abbrev pub sums_of : Tally → List ℕ
sums_of t = spelled 10 t.destinations ++ spelled 12 t.debits ++ spelled 12 t.credits
