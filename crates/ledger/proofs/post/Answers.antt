use Rattle.std.proofs.Common.{arith, sym, ◌∙◌}
use Rattle.ledger.proofs.Touches.{more, touched_at, touched_both}
use Rattle.ledger.proofs.Walk.{none_left, passes, posts}
use Rattle.ledger.proofs.post.Goals as goal
use Rattle.ledger.proofs.post.Goals.{in-Individual, in_default}

pub side-requires-in-Individual-clause-touched : goal.side-requires-in-Individual-clause-touched
side-requires-in-Individual-clause-touched c =
    let a = c.amount-amount in
    let t = touched_at c.loop-place.cells c.sender-sender.result _ a.result 1 0 a.ensures.1 (omega arith) (omega arith) c.side.ensures c.loop-place.invariant.touched in
    more (omega arith) (t c.destination-destination.result)

pub loop-place-preserved : goal.loop-place-preserved
loop-place-preserved c =
    let i = c.loop-place.invariant in
    elim c.match-kind.branch [
      -- an individual record is posted
      | in-Individual w ↦
          let s = w.sender-sender in
          let d = w.destination-destination in
          let b = w.collects-collects in
          let a = w.amount-amount in
          let x = w.side.ensures in
          let y = w.side-in-Individual.ensures in
          let t = touched_both c.loop-place.cells s.result d.result b.result a.result a.ensures.1 x y i.touched in
          rw w.cells-is record {
            touched = λ j. more (omega arith) (t j);
            left = i.left ∙ posts _ _ _ _ c.record_at-rec.ensures.0 (omega arith) (sym w.in-Individual.is ∙ c.kind.ensures) s.ensures.0 d.ensures.0 b.ensures a.ensures.0 x y;
          }
      -- another one is passed over
      | in_default w ↦
          rw w.cells-is record {
            touched = λ j. more (omega arith) (i.touched j);
            left = i.left ∙ passes _ _ _ _ c.record_at-rec.ensures.0 (omega arith) c.kind.ensures w.in_default.not-Individual;
          }
    ]

pub returns : goal.returns
returns c = sym (c.loop-place.invariant.left ∙ none_left c.args.file.now c.loop-place.place c.loop-place.cells (omega arith))
