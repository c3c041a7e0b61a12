use Rattle.std.proofs.Common.{add-one, drop-cons, sym}
use lib.ListN.{drop_of_length-le}
use Rattle.typed.specs.Rosters.{read_on}
use Rattle.typed.proofs.roster.Roster.read.Goals as goal

pub loop-b-preserved : goal.loop-b-preserved
unfolding read_on
loop-b-preserved c =
    let next = drop-cons c.args.piece.now c.loop-b.b-index 0 c.loop-b-test.true in
    rw (add-one, c.with-progress.ensures) (rw next at c.loop-b.invariant)

pub returns : goal.returns
unfolding read_on
returns c =
    let done = drop_of_length-le c.args.piece.now c.loop-b-test.false in
    sym (rw done at c.loop-b.invariant)
