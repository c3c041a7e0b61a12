use Rattle.std.proofs.Common.{append-nil, arith, drop_of_length-le, length-set, take_all, ◌∙◌}
use Rattle.writing.proofs.Stores.{copy_turn}
use Rattle.listing.specs.Answers.{shown}
use Rattle.listing.proofs.Showing.{length_shown, shown_at}
use Rattle.listing.proofs.shown.copy.Goals as goal

pub loop-i-preserved : goal.loop-i-preserved
loop-i-preserved c =
    let text = c.args.text.now in
    let long = length_shown text in (
      simp length-set c.loop-i.invariant.0,
      rw (c.loop-i.invariant.1, c.byte.ensures, ← shown_at text c.loop-i.i (omega arith))
          (copy_turn c.args.part.now (shown text) c.loop-i.i (omega arith) (omega arith)),
    )

pub returns : goal.returns
returns c =
    let text = c.args.text.now in
    c.loop-i.invariant.1
    ∙ rw (take_all c.loop-i.i (shown text) (omega (arith, length_shown text)), drop_of_length-le c.args.part.now {i = c.loop-i.i} (omega arith), append-nil)
