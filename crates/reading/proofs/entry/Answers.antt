use Rattle.std.proofs.Common.{[], false, refl, sym, ◌∙◌, ◌∷◌, ◌≡◌}
use Rattle.std.proofs.lemmas.Result.{err_from_is_err_and}
use Rattle.paper.specs.Checks.{fine, need}
use Rattle.paper.specs.Fields.{every, good}
use Rattle.paper.specs.Kinds.{kind_of, allowed}
use Rattle.paper.specs.Reading.{record_at}
use Rattle.paper.specs.declared.record.Kind.TheVariants.{Individual, Additional}
use Rattle.paper.proofs.Tests.{not_both}
use Rattle.paper.proofs.Exactly.{also_r}
use Rattle.state.specs.States.{step_says, Kept}
use Rattle.verdicts.specs.Verdicts.{check_of, under}
use Rattle.field.proofs.Arms.{in_kinds}
use Rattle.reading.specs.Taken.{is_entry}
use Rattle.reading.proofs.Records.{ready, first, stands, falls}
use borrow.Enum.Refused.{opened}
use Rattle.reading.proofs.entry.Goals as goal
use Rattle.reading.proofs.entry.Goals.{In-Additional, In-Individual, In_ok-stands-in-Additional, In_ok-stands-in-Individual}

-- its kind
individual_so : (c : In-Individual) → kind_of (record_at c.args.file.now c.args.place) ≡ Individual
individual_so c = c.requires.place_value_2.0 ∙ c.in-Individual.is

additional_so : (c : In-Additional) → kind_of (record_at c.args.file.now c.args.place) ≡ Additional
additional_so c = c.requires.place_value_2.0 ∙ c.in-Additional.is

pub stands-requires : goal.stands-requires
stands-requires c =
    λ h. rw c.record_at-rec.ensures.0 (c.requires.place_value h)

pub stands-requires-in-Additional : goal.stands-requires-in-Additional
stands-requires-in-Additional c =
    λ h. rw c.record_at-rec.ensures.0 (c.requires.place_value h)

-- characters and order were right
stood : (c : In_ok-stands-in-Individual) → first c.args.file.now c.args.place c.args.state ≡ fine
unfolding check_of
stood c =
    let k : kind_of (record_at c.args.file.now c.args.place) ≡ Individual = c.requires.place_value_2.0 ∙ c.in-Individual.is in
    rw k (sym (rw c.record_at-rec.ensures.0 at c.in_ok-stands-in-Individual.ensures))

stood_2 : (c : In_ok-stands-in-Additional) → first c.args.file.now c.args.place c.args.state ≡ fine
unfolding check_of
stood_2 c =
    let k : kind_of (record_at c.args.file.now c.args.place) ≡ Additional = c.requires.place_value_2.0 ∙ c.in-Additional.is in
    rw k (sym (rw c.record_at-rec.ensures.0 at c.in_ok-stands-in-Additional.ensures))

pub step-requires : goal.step-requires
step-requires c =
    ready c.requires.arrived (individual_so (goal.at.step-requires c).In-Individual)
    (rw (individual_so (goal.at.step-requires c).In-Individual) at (also_r (need (every good (record_at _ _)) 17) (allowed _ _) (stood c)))

pub step-requires-in-Additional : goal.step-requires-in-Additional
step-requires-in-Additional c =
    ready c.requires.arrived (additional_so (goal.at.step-requires-in-Additional c).In-Additional)
    (rw (additional_so (goal.at.step-requires-in-Additional c).In-Additional) at (also_r (need (every good (record_at _ _)) 17) (allowed _ _) (stood_2 c)))

pub returns-in_ok-stands-in-Individual : goal.returns-in_ok-stands-in-Individual
returns-in_ok-stands-in-Individual c =
    record { says = c.step.ensures.says ∙ stands _ _ _ _ (stood (goal.at.returns-in_ok-stands-in-Individual c).In_ok-stands-in-Individual); kept = c.step.ensures.kept }

pub returns-in_err-stands-in-Individual : goal.returns-in_err-stands-in-Individual
unfolding check_of step_says Kept
returns-in_err-stands-in-Individual c =
    let p = err_from_is_err_and c.from_residual.result c.from_residual.ensures.1 in
    let k : kind_of (record_at c.args.file.now c.args.place) ≡ Individual = c.requires.place_value_2.0 ∙ c.in-Individual.is in
    rw (p.1, p.2) (record { says = falls _ _ _ _ (rw k (sym (rw c.record_at-rec.ensures.0 at c.in_err-stands-in-Individual.ensures))); kept = tt })

pub returns-in_ok-stands-in-Additional : goal.returns-in_ok-stands-in-Additional
returns-in_ok-stands-in-Additional c =
    let done = c.step-in-Additional.ensures (under c.args.terms) in
    record { says = done.says ∙ stands _ _ _ _ (stood_2 (goal.at.returns-in_ok-stands-in-Additional c).In_ok-stands-in-Additional); kept = done.kept }

pub returns-in_err-stands-in-Additional : goal.returns-in_err-stands-in-Additional
unfolding check_of step_says Kept
returns-in_err-stands-in-Additional c =
    let p = err_from_is_err_and c.from_residual-in_err-stands-in-Additional.result c.from_residual-in_err-stands-in-Additional.ensures.1 in
    let k : kind_of (record_at c.args.file.now c.args.place) ≡ Additional = c.requires.place_value_2.0 ∙ c.in-Additional.is in
    rw (p.1, p.2) (record { says = falls _ _ _ _ (rw k (sym (rw c.record_at-rec.ensures.0 at c.in_err-stands-in-Additional.ensures))); kept = tt })

pub returns-in_default : goal.returns-in_default
returns-in_default c =
    let none : false ≡ is_entry c.args.kind = in_kinds false is_entry (0 ∷ 1 ∷ 4 ∷ 5 ∷ 6 ∷ []) (refl, (refl, (refl, (refl, (refl, tt))))) c.args.kind (opened c.in_default.in_default-own.keys3) in
    absurd (not_both (none ∙ c.requires.place_value_2.1) refl)
