use Rattle.std.proofs.Common.{◌∙◌, arith, take_all}
use Rattle.field.proofs.place.whole.Goals as goal

pub returns : goal.returns
returns c =
    let h = rw c.unwrap.ensures at c.first_chunk.ensures.cases in
    h.same ∙ take_all 94 c.args.part.now (omega arith)
