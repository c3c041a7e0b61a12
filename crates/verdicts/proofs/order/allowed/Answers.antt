use Rattle.std.proofs.Common.{[], refl, ◌∷◌}
use Rattle.paper.specs.Checks.{fine, wrong}
use Rattle.paper.specs.Kinds.{allowed}
use Rattle.paper.specs.declared.record.Before.TheVariants.{Nothing, Between, Opened, Flagged, Inside}
use Rattle.verdicts.specs.Verdicts.{check_of}
use Rattle.field.proofs.Arms.{in_kinds}
use borrow.Enum.Refused.{opened}
use Rattle.verdicts.proofs.order.allowed.Goals as goal

pub returns-in-FileHeader : goal.returns-in-FileHeader
unfolding check_of allowed
returns-in-FileHeader c = simp (c.in-Nothing.is, c.in-FileHeader.is)

pub returns-in_default : goal.returns-in_default
unfolding check_of allowed
returns-in_default c =
    rw c.in-Nothing.is
    (in_kinds (wrong 17) (allowed Nothing) (1 ∷ 2 ∷ 3 ∷ 4 ∷ 5 ∷ 6 ∷ []) (refl, (refl, (refl, (refl, (refl, (refl, tt)))))) c.args.kind (opened c.in_default.in_default-own.keys2))

pub returns-in-BatchHeader : goal.returns-in-BatchHeader
unfolding check_of allowed
returns-in-BatchHeader c = rw c.in-Between.is (in_kinds fine (allowed Between) (1 ∷ 5 ∷ []) (refl, (refl, tt)) c.args.kind c.in-BatchHeader.in-BatchHeader-own.keys1)

pub returns-in_default-kind : goal.returns-in_default-kind
unfolding check_of allowed
returns-in_default-kind c =
    rw c.in-Between.is
    (in_kinds (wrong 17) (allowed Between) (0 ∷ 2 ∷ 3 ∷ 4 ∷ 6 ∷ []) (refl, (refl, (refl, (refl, (refl, tt))))) c.args.kind (opened c.in_default-kind.in_default-kind-own.keys2))

pub returns-in-Individual : goal.returns-in-Individual
unfolding check_of allowed
returns-in-Individual c = simp (c.in-Opened.is, c.in-Individual.is)

pub returns-in_default-kind-2 : goal.returns-in_default-kind-2
unfolding check_of allowed
returns-in_default-kind-2 c =
    rw c.in-Opened.is
    (in_kinds (wrong 17) (allowed Opened) (0 ∷ 1 ∷ 3 ∷ 4 ∷ 5 ∷ 6 ∷ []) (refl, (refl, (refl, (refl, (refl, (refl, tt)))))) c.args.kind (opened c.in_default-kind-2.in_default-kind-2-own.keys2))

pub returns-in-Additional : goal.returns-in-Additional
unfolding check_of allowed
returns-in-Additional c = simp (c.in-Flagged.is, c.in-Additional.is)

pub returns-in_default-kind-3 : goal.returns-in_default-kind-3
unfolding check_of allowed
returns-in_default-kind-3 c =
    rw c.in-Flagged.is
    (in_kinds (wrong 25) (allowed Flagged) (0 ∷ 1 ∷ 2 ∷ 4 ∷ 5 ∷ 6 ∷ []) (refl, (refl, (refl, (refl, (refl, (refl, tt)))))) c.args.kind (opened c.in_default-kind-3.in_default-kind-3-own.keys2))

pub returns-in-Individual-kind : goal.returns-in-Individual-kind
unfolding check_of allowed
returns-in-Individual-kind c = rw c.in-Inside.is (in_kinds fine (allowed Inside) (2 ∷ 4 ∷ []) (refl, (refl, tt)) c.args.kind c.in-Individual-kind.in-Individual-kind-own.keys1)

pub returns-in-Additional-kind : goal.returns-in-Additional-kind
unfolding check_of allowed
returns-in-Additional-kind c = simp (c.in-Inside.is, c.in-Additional-kind.is)

pub returns-in_default-kind-4 : goal.returns-in_default-kind-4
unfolding check_of allowed
returns-in_default-kind-4 c =
    rw c.in-Inside.is
    (in_kinds (wrong 17) (allowed Inside) (0 ∷ 1 ∷ 5 ∷ 6 ∷ []) (refl, (refl, (refl, (refl, tt)))) c.args.kind (opened c.in_default-kind-4.in_default-kind-4-own.keys3))

pub returns-in-Ended : goal.returns-in-Ended
unfolding check_of allowed
returns-in-Ended c = simp c.in-Ended.is
