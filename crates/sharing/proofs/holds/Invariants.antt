use Rattle.std.proofs.Common.{◌≡◌}
use Rattle.sharing.specs.Shares.{holds_to}
use Rattle.sharing.proofs.Looking.{from}
use Rattle.sharing.proofs.holds.Given as goal

-- no record before this place was found
abbrev pub invariant-loop-place : goal.invariant-loop-place
invariant-loop-place l = holds_to l.entity l.file ≡ from l.inside l.entity l.file l.place
