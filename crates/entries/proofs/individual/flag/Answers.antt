use Rattle.std.proofs.Common.{sym, ◌∙◌}
use Rattle.verdicts.specs.Verdicts.{check_of}
use Rattle.entries.proofs.Chains.{flag_so}
use Rattle.entries.proofs.individual.flag.Goals as goal

pub returns-then-flagged : goal.returns-then-flagged
unfolding check_of
returns-then-flagged c =
    flag_so _ (sym c.flagged.ensures ∙ c.if-flagged.true)
