use Rattle.std.proofs.Common.{arith}
use Rattle.paper.specs.Listing.{decimal}
use Rattle.paper.specs.Writing.{spelled}
use Rattle.paper.proofs.Lists.{length_spelled}
use Rattle.writing.proofs.Decimals.{length_decimal}
use Rattle.writing.proofs.Laying.{part_filled}
use Rattle.writing.proofs.number.Goals as goal

pub slice_bounds-digits-end : goal.slice_bounds-digits-end
slice_bounds-digits-end c = omega (arith, length_decimal c.args.n)

pub returns : goal.returns
unfolding decimal
returns c =
    let a = c.args in
    rw (← c.width.ensures.0)
    (part_filled (λ w. spelled w a.n) (λ w. length_spelled w a.n) a.at c.width.result c.digits.new.part a.out.now (omega (arith, length_decimal a.n)) c.digits.ensures)
