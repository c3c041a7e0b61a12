use Rattle.std.proofs.Common.{refl, Ok, Err, ◌∙◌}
use Rattle.paper.proofs.Chained.{stopped_told}
use Rattle.desk.proofs.Traying.{not_built, built_part, was_built, not_read}
use Rattle.desk.proofs.Session.build.Goals as goal

pub returns-in_err-size : goal.returns-in_err-size
returns-in_err-size c = stopped_told _ _ _ c.from_residual.ensures ∙ not_built _ _ _ (Err _) _ c.in_err-size.ensures _ refl

pub returns-in-Err : goal.returns-in-Err
returns-in-Err c = not_read _ _ _ (Ok _) _ c.in_ok-size.ensures refl _ c.in-Err.ensures refl c.blanks.ensures refl

pub returns : goal.returns
returns c = was_built _ _ _ (Ok _) _ c.in_ok-size.ensures refl _ c.read.ensures c.in_default.is

pub slice_bounds-read-end : goal.slice_bounds-read-end
slice_bounds-read-end c = (built_part _ _ _ (Ok _) _ c.in_ok-size.ensures refl).2
