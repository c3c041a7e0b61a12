use Rattle.paper.specs.Writing.{spelled}
use Rattle.paper.proofs.Lists.{length_spelled}
use Rattle.writing.proofs.Laying.{part_filled}
use Rattle.writing.proofs.field.Goals as goal

pub returns : goal.returns
returns c =
    let a = c.args in
    part_filled (λ w. spelled w a.n) (λ w. length_spelled w a.n) a.at a.width c.digits.new.part a.out.now c.requires c.digits.ensures
