use Rattle.std.proofs.Common.{arith, refl, sym, ◌∙◌}
use Rattle.paper.proofs.Refusals.{both_accept}
use Rattle.paper.specs.Answers.{said}
use Rattle.company.specs.Sums.{sum_in}
use Rattle.company.proofs.OnePiece.{all_judged, all_added, last_closes}
use Rattle.company.proofs.pieces.Pieces.further.Goals as goal

pub returns : goal.returns
returns c =
    let p = c.args.self in
    let h = c.requires.1 in
    let r = c.record_at-rec.ensures.0 in
    let inner = c.judge_on-inner.ensures in
    let end = rw r at c.judge_on.ensures.first_fault in
    let total = rw r at c.judge_on.ensures.total in
    record {
      money = refl;
      going = end ∙ rw inner.first_fault (all_judged c.args.piece.now h p.currency c.args.lo.now p.records (sum_in p.going) (said p.going));
      sum = λ e. all_added c.args.piece.now h p.currency c.args.lo.now p.records (sum_in p.going) (inner.total (both_accept (said c.judge_on-inner.result) _ (sym end ∙ e)).0) (total e);
      ending = last_closes c.args.piece.now h p.currency c.args.lo.now p.records (sum_in p.going) (said p.going) inner.first_fault inner.total (rw r at c.close_on.ensures);
      records = omega (arith, h);
      left = refl;
    }
