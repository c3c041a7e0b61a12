use Rattle.paper.specs.Writing.{blanks}
use Rattle.writing.proofs.Laying.{part_filled}
use Rattle.writing.proofs.Stores.{length_blanks}
use Rattle.writing.proofs.spaces.Goals as goal

pub returns : goal.returns
returns c =
    part_filled blanks length_blanks c.args.at c.args.width c.blanks.new.part c.args.out.now c.requires c.blanks.ensures
