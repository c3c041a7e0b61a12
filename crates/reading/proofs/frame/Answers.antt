use Rattle.std.proofs.lemmas.Result.{err_from_is_err_and}
use Rattle.std.proofs.Common.{ap, refl, sym, true, ◌∙◌, ◌≡◌}
use Rattle.paper.specs.Checks.{fine, need}
use Rattle.paper.specs.Fields.{every, good}
use Rattle.paper.specs.Kinds.{kind_of, allowed}
use Rattle.paper.specs.Reading.{record_at, fields}
use Rattle.paper.proofs.Exactly.{also_r}
use Rattle.state.specs.States.{step_says, Kept, Ready}
use Rattle.state.proofs.Steps.{stops_at}
use Rattle.verdicts.specs.Verdicts.{check_of, under}
use Rattle.reading.specs.Taken.{is_entry}
use Rattle.reading.proofs.Records.{ready, comes, first, stands, falls, no_first}
use Rattle.reading.proofs.frame.Goals as goal
use Rattle.reading.proofs.frame.Goals.{After-kind-kind, In_ok-stands}

pub stands-requires : goal.stands-requires
stands-requires c =
    λ h. rw c.record_at-rec.ensures.0 (c.requires.place_value h)

-- its kind
kind_so : (c : After-kind-kind) → kind_of (record_at c.args.file.now c.args.place) ≡ c.kind-kind.result
kind_so c = sym (c.kind-kind.ensures ∙ ap kind_of c.record_at-rec.ensures.0)

-- characters and order were right
stood : (c : In_ok-stands) → first c.args.file.now c.args.place c.args.state ≡ fine
unfolding check_of
stood c =
    let k : kind_of (record_at c.args.file.now c.args.place) ≡ c.kind-kind.result = sym (c.kind-kind.ensures ∙ ap kind_of c.record_at-rec.ensures.0) in
    rw k (sym (rw c.record_at-rec.ensures.0 at c.in_ok-stands.ensures))

pub returns-in_err-stands : goal.returns-in_err-stands
unfolding check_of step_says Kept
returns-in_err-stands c =
    let p = err_from_is_err_and c.from_residual.result c.from_residual.ensures.1 in
    let k : kind_of (record_at c.args.file.now c.args.place) ≡ c.kind-kind.result = sym (c.kind-kind.ensures ∙ ap kind_of c.record_at-rec.ensures.0) in
    rw (p.1, p.2) (record { says = falls _ _ _ _ (rw k (sym (rw c.record_at-rec.ensures.0 at c.in_err-stands.ensures))); kept = tt })

-- so that the record can be read
ready_so : (c : In_ok-stands) → Ready c.kind-kind.result c.args.file.now c.args.place c.args.state
ready_so c =
    ready c.requires.arrived ((let h : kind_of (record_at c.args.file.now c.args.place) ≡ c.kind-kind.result = sym (c.kind-kind.ensures ∙ ap kind_of c.record_at-rec.ensures.0) in h)) (rw ((let h : kind_of (record_at c.args.file.now c.args.place) ≡ c.kind-kind.result = sym (c.kind-kind.ensures ∙ ap kind_of c.record_at-rec.ensures.0) in h)) at (also_r (need (every good (record_at _ _)) 17) (allowed _ _) (stood c)))

pub step-requires : goal.step-requires
step-requires c = rw c.in-FileHeader.is at (ready_so (goal.at.step-requires c).In_ok-stands)

pub step-requires-in-BatchHeader : goal.step-requires-in-BatchHeader
step-requires-in-BatchHeader c = rw c.in-BatchHeader.is at (ready_so (goal.at.step-requires-in-BatchHeader c).In_ok-stands)

pub step-requires-in-BatchControl : goal.step-requires-in-BatchControl
step-requires-in-BatchControl c = rw c.in-BatchControl.is at (ready_so (goal.at.step-requires-in-BatchControl c).In_ok-stands)

pub step-requires-in-FileControl : goal.step-requires-in-FileControl
step-requires-in-FileControl c = rw c.in-FileControl.is at (ready_so (goal.at.step-requires-in-FileControl c).In_ok-stands)

pub returns-in-FileHeader : goal.returns-in-FileHeader
returns-in-FileHeader c = record { says = c.step.ensures.says ∙ stands _ _ _ _ (stood (goal.at.returns-in-FileHeader c).In_ok-stands); kept = c.step.ensures.kept }

pub returns-in-BatchHeader : goal.returns-in-BatchHeader
returns-in-BatchHeader c = record { says = c.step-in-BatchHeader.ensures.says ∙ stands _ _ _ _ (stood (goal.at.returns-in-BatchHeader c).In_ok-stands); kept = c.step-in-BatchHeader.ensures.kept }

pub returns-in-BatchControl : goal.returns-in-BatchControl
returns-in-BatchControl c =
    let done = c.step-in-BatchControl.ensures (under c.args.terms) in
    record { says = done.says ∙ stands _ _ _ _ (stood (goal.at.returns-in-BatchControl c).In_ok-stands); kept = done.kept }

pub returns-in-FileControl : goal.returns-in-FileControl
returns-in-FileControl c =
    let done = c.step-in-FileControl.ensures (under c.args.terms) in
    record { says = done.says ∙ stands _ _ _ _ (stood (goal.at.returns-in-FileControl c).In_ok-stands); kept = done.kept }

-- no entry stands here
none_here : (c : In_ok-stands) → is_entry c.kind-kind.result ≡ true → ⊥
none_here c i =
    no_first _ _ (c.requires.framed (ap is_entry ((let h : kind_of (record_at c.args.file.now c.args.place) ≡ c.kind-kind.result = sym (c.kind-kind.ensures ∙ ap kind_of c.record_at-rec.ensures.0) in h)) ∙ i)) (ap is_entry ((let h : kind_of (record_at c.args.file.now c.args.place) ≡ c.kind-kind.result = sym (c.kind-kind.ensures ∙ ap kind_of c.record_at-rec.ensures.0) in h)) ∙ i)
    (also_r (need (every good (record_at _ _)) 17) (allowed _ _) (stood c))

pub returns-in-Individual : goal.returns-in-Individual
returns-in-Individual c = absurd (none_here (goal.at.returns-in-Individual c).In_ok-stands (ap is_entry c.in-Individual.is))

pub returns-in-Additional : goal.returns-in-Additional
returns-in-Additional c = absurd (none_here (goal.at.returns-in-Additional c).In_ok-stands (ap is_entry c.in-Additional.is))

pub returns-in-Other : goal.returns-in-Other
unfolding fields
returns-in-Other c =
    let s = comes (stops_at _ (rw c.in-Other.is at (ready_so (goal.at.returns-in-Other c).In_ok-stands)) refl) in
    record { says = s.says ∙ stands _ _ _ _ (stood (goal.at.returns-in-Other c).In_ok-stands); kept = s.kept }
