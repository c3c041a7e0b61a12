use Rattle.std.proofs.lemmas.Result.{err_from_is_err_and}
use Rattle.std.proofs.Common.{ap, arith, length, refl, sym, true, ◌/◌, ◌<◌, ◌∙◌, ◌≡◌}
use Rattle.paper.specs.Reading.{length_good, finish}
use Rattle.paper.proofs.Tests.{not_both}
use Rattle.state.proofs.Numbering.{none_known}
use Rattle.state.specs.States.{meant, Preceded}
use Rattle.verdicts.specs.Verdicts.{under}
use Rattle.controls.proofs.Bounds.{below_zeros}
use Rattle.reading.specs.Said.{Carries}
use Rattle.reading.specs.Taken.{Reaches, Runs, Further}
use Rattle.reading.proofs.Walk.{done, at_start, short, too_long, read_through}
use Rattle.reading.proofs.read.Goals as goal
use Rattle.reading.proofs.read.Goals.{Else-not-length_good, In_ok-at}

pub returns-then-not-length_good : goal.returns-then-not-length_good
unfolding Carries
returns-then-not-length_good c =
    rw c.at.ensures (too_long _ _ (sym c.length_good.ensures ∙ c.if-not-length_good.true), tt)

-- the length was good
fit : (c : Else-not-length_good) → length_good (length c.args.file.now) ≡ true
fit c =
    sym c.length_good.ensures ∙ c.if-not-length_good.false

pub loop-place-init : goal.loop-place-init
unfolding Preceded
loop-place-init c =
    let a = c.args in
    let l = short _ (fit (goal.at.loop-place-init c).Else-not-length_good) in
    record {
      fit = fit (goal.at.loop-place-init c).Else-not-length_good;
      underway = record {
        all = refl;
        within = omega arith;
        short = l;
        standing = record { room = record { batches = omega arith; batch = below_zeros _; closed = below_zeros _ }; preceded = tt; known = none_known _ _ refl };
        clean = c.clean_front-front.ensures;
      };
      framed = λ h i. refl;
      left = at_start (under a.terms) a.file.now _ l;
    }

pub onward-requires : goal.onward-requires
onward-requires c =
    let p = c.loop-place.invariant in
    record { underway = p.underway; place_lt_records = (c.loop-place-test.true, p.framed c.loop-place-test.true) }

pub returns-in_err-at : goal.returns-in_err-at
unfolding Carries Runs
returns-in_err-at c =
    let p = err_from_is_err_and c.from_residual.result c.from_residual.ensures.1 in
    rw (p.1, p.2) (read_through _ _ c.loop-place.invariant.fit (c.loop-place.invariant.left ∙ c.in_err-at.ensures.0), tt)

-- a run of records that reached a place
module _ (c : In_ok-at) where
  reached : Reaches (under c.args.terms) c.args.file.now (length c.args.file.now / 94)
      c.loop-place.place c.loop-place.state c.in_ok-at.at c.in_ok-at.after
  unfolding Runs
  reached = c.in_ok-at.ensures.0

  gone : c.loop-place.place < c.in_ok-at.at
  unfolding Further
  gone = c.in_ok-at.ensures.1

pub loop-place-smaller : goal.loop-place-smaller
loop-place-smaller c =
    let r = reached (goal.at.loop-place-smaller c).In_ok-at in
    omega (arith, gone (goal.at.loop-place-smaller c).In_ok-at, r.within)

pub loop-place-preserved : goal.loop-place-preserved
loop-place-preserved c =
    let p = c.loop-place.invariant in
    let r = reached (goal.at.loop-place-preserved c).In_ok-at in
    record {
      fit = p.fit;
      underway = record { all = refl; within = r.within; short = p.underway.short; standing = r.standing; clean = p.underway.clean };
      framed = λ h i. absurd (not_both i (r.framed h));
      left = p.left ∙ r.left;
    }

pub returns : goal.returns
unfolding meant
returns c =
    let last : c.loop-place.place ≡ length c.args.file.now / 94 = omega (arith, c.loop-place.invariant.underway.within, c.loop-place-test.false) in (
      read_through _ _ c.loop-place.invariant.fit
          (c.loop-place.invariant.left ∙ done _ _ _ _ _ c.loop-place-test.false ∙ ap (finish c.loop-place.state.before) last ∙ sym c.finish.ensures.0),
      c.finish.ensures.1,
    )

pub clean_front-front-requires : goal.clean_front-front-requires
clean_front-front-requires c = short _ (fit c)
