use Rattle.std.proofs.Common.{ap, arith, refl, sym, ◌∙◌, ◌≡◌}
use Rattle.std.proofs.lemmas.Result.{err_from_is_err_and}
use Rattle.paper.specs.Kinds.{kind_of}
use Rattle.paper.specs.Reading.{record_at}
use Rattle.verdicts.proofs.Chain.{placed_ok, placed_err}
use Rattle.state.specs.States.{meant, step_says, Kept}
use Rattle.reading.specs.Taken.{Runs}
use Rattle.reading.proofs.Records.{front_record}
use Rattle.reading.proofs.Walk.{go_on, stop_here}
use Rattle.reading.proofs.entries.Goals as goal
use Rattle.reading.proofs.entries.Goals.{After-kind-kind}

pub loop-place-init : goal.loop-place-init
loop-place-init c = record { underway = c.requires; further = omega arith; left = refl }

pub record_at-requires : goal.record_at-requires
record_at-requires c =
    let u = c.loop-place.invariant.underway in
    (u.short, omega (arith, u.all))

-- what kind of record stands here
kind_so : (c : After-kind-kind) → kind_of (record_at c.args.file.now c.loop-place.place) ≡ c.kind-kind.result
kind_so c =
    sym (c.kind-kind.ensures ∙ ap kind_of c.record_at.ensures.0)

pub returns-then-not-is_entry : goal.returns-then-not-is_entry
unfolding Runs
returns-then-not-is_entry c =
    let p = c.loop-place.invariant in
    let none = sym c.is_entry.ensures ∙ c.if-not-is_entry.true in
    record {
      further = p.further;
      within = p.underway.within;
      standing = p.underway.standing;
      framed = λ h. rw (kind_so (goal.at.returns-then-not-is_entry c).After-kind-kind) none;
      left = p.left;
    }

pub entry-requires-clause-place_value : goal.entry-requires-clause-place_value
entry-requires-clause-place_value c = λ h. front_record _ _ _ c.loop-place.invariant.underway.clean (sym c.in_front-clean.ensures ∙ h)

pub entry-requires-clause-place_value_2 : goal.entry-requires-clause-place_value_2
entry-requires-clause-place_value_2 c = (kind_so (goal.at.entry-requires-clause-place_value_2 c).After-kind-kind, sym c.is_entry.ensures ∙ c.if-not-is_entry.false)

pub returns-in_err-now : goal.returns-in_err-now
unfolding Runs step_says meant
returns-in_err-now c =
    let p = err_from_is_err_and c.from_residual.result c.from_residual.ensures.1 in
    let e = placed_err _ _ (c.in_err-now.ensures) in
    let h = rw e.0 at c.entry.ensures.says in
    rw (p.1, p.2, e.1) (c.loop-place.invariant.left ∙ stop_here _ _ _ _ _ c.loop-place-test.true (sym h))

pub loop-place-preserved : goal.loop-place-preserved
unfolding step_says Kept
loop-place-preserved c =
    let p = c.loop-place.invariant in
    let u = p.underway in
    let o = placed_ok _ _ c.in_ok-now.ensures in
    let h = rw o at c.entry.ensures.says in
    let k = rw o at c.entry.ensures.kept in
    record {
      underway = record { all = u.all; within = omega arith; short = u.short; standing = k; clean = u.clean };
      further = omega (arith, p.further);
      left = p.left ∙ go_on _ _ _ _ _ c.loop-place-test.true (sym h);
    }

pub returns : goal.returns
unfolding Runs
returns c =
    let p = c.loop-place.invariant in
    let last : c.loop-place.place ≡ c.args.records = omega (arith, p.underway.within, c.loop-place-test.false) in
    record {
      further = omega (arith, p.further, p.underway.within);
      within = omega arith;
      standing = rw last at p.underway.standing;
      framed = λ h. absurd (omega (arith, h));
      left = rw last at p.left;
    }
