use Rattle.std.proofs.Common.{refl, sym}
use Rattle.paper.specs.Reading.{fields}
use Rattle.verdicts.specs.Verdicts.{check_of}
use Rattle.state.specs.States.{meant}
use Rattle.state.proofs.Steps.{goes_on, stops_as, past_advances}
use Rattle.state.proofs.file_header.step.Goals as goal

pub returns : goal.returns
unfolding check_of meant fields
returns c =
    goes_on _ c.requires (simp (sym c.record_at-rec.ensures.0, sym c.in_ok-judge.ensures))
    (rw c.past.ensures (past_advances c.requires refl))

pub returns-in_err-judge : goal.returns-in_err-judge
unfolding check_of meant fields
returns-in_err-judge c =
    stops_as _ c.requires _ _ c.from_residual.ensures (simp (sym c.record_at-rec.ensures.0, sym c.in_err-judge.ensures))
