use Rattle.std.proofs.Common.{arith, sym, ◌∙◌}
use Rattle.state.specs.States.{meant, step_says, Kept}
use Rattle.reading.specs.Taken.{Runs, Further}
use Rattle.reading.proofs.Records.{front_record}
use Rattle.reading.proofs.Walk.{go_on, stop_here}
use Rattle.reading.proofs.Running.{runs_after, further_after}
use Rattle.reading.proofs.onward.Goals as goal

pub frame-requires-clause-place_value : goal.frame-requires-clause-place_value
frame-requires-clause-place_value c = λ h. front_record _ _ _ c.requires.underway.clean (sym c.in_front-clean.ensures ∙ h)

pub entries-requires : goal.entries-requires
unfolding Kept
entries-requires c =
    let u = c.requires.underway in
    let k = rw c.in-Ok.is at c.frame.ensures.kept in
    record { all = u.all; within = omega (arith, c.requires.place_lt_records.0); short = u.short; standing = k; clean = u.clean }

pub returns-in-Ok : goal.returns-in-Ok
unfolding step_says
returns-in-Ok c =
    let h = rw c.in-Ok.is at c.frame.ensures.says in (
      runs_after _ _ _ _ _ _ c.entries.result (go_on _ _ _ _ _ c.requires.place_lt_records.0 (sym h)) c.entries.ensures,
      further_after _ _ _ _ _ c.entries.result c.entries.ensures,
    )

pub returns-in-Err : goal.returns-in-Err
unfolding Runs Further step_says meant
returns-in-Err c =
    let h = rw c.in-Err.is at c.frame.ensures.says in
    rw c.at.ensures (stop_here _ _ _ _ _ c.requires.place_lt_records.0 (sym h), tt)
