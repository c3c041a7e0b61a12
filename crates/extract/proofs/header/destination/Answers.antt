use Rattle.std.proofs.Common.{arith, ◌+◌}
use Rattle.paper.specs.Fields.{bytes}
use Rattle.paper.specs.Entities.{currency_adds}
use Rattle.paper.specs.Writing.{spelled}
use Rattle.writing.proofs.Laying.{start, on}
use Rattle.extract.proofs.header.destination.Goals as goal

pub text-requires : goal.text-requires
unfolding spelled
text-requires c = omega arith

pub returns : goal.returns
returns c =
    let blank = on (start (omega arith)) (bytes " ") c.text-number.ensures in
    let number = on blank (spelled 4 (c.args.entity + currency_adds c.args.currency)) (rw c.adds.ensures.0 at c.field-branch.ensures) in
    let all = on number (bytes "00000") c.text.ensures in
    (all.next, all.held)
