use Rattle.std.proofs.Common.{length, refl, ◌+◌}
use Rattle.writing.proofs.Laying.{part_laid}
use Rattle.writing.proofs.text.Goals as goal

pub returns : goal.returns
returns c =
    let a = c.args in
    (refl, rw c.copy.ensures (part_laid a.at (a.at + length a.text.now) a.text.now a.out.now refl))
