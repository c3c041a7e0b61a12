use Rattle.std.proofs.Common.{[], refl, ◌∷◌}
use Rattle.paper.specs.declared.record.Before.{Before}
use Rattle.paper.specs.Answers.{refused}
use Rattle.paper.specs.Reading.{finish}
use Rattle.field.proofs.Arms.{in_befores}
use Rattle.reading.specs.Said.{Carries}
use borrow.Enum.Refused.{opened}
use Rattle.reading.proofs.finish.Goals as goal

pub returns-in-Ended : goal.returns-in-Ended
unfolding Carries finish
returns-in-Ended c = (rw c.in-Ended.is, refl)

pub returns-in_default : goal.returns-in_default
unfolding Carries finish
returns-in_default c =
    let a = c.args in rw c.at.ensures (
      in_befores (refused 17 a.records) (λ (b : Before). finish b a.records) (0 ∷ 1 ∷ 2 ∷ 3 ∷ 4 ∷ []) (refl, (refl, (refl, (refl, (refl, tt)))))
          a.before (opened c.in_default.in_default-own.keys2),
      tt,
    )
