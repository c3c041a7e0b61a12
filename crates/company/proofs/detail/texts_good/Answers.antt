use Rattle.std.proofs.Common.{ap, ap₂, arith, not, sym, ◌&&◌, ◌∙◌}
use Rattle.paper.specs.Fields.{every, good}
use Rattle.company.specs.Details.{text_good}
use Rattle.company.proofs.Texts.{part_holds}
use Rattle.company.proofs.detail.texts_good.Goals as goal

pub returns-then-all_good : goal.returns-then-all_good
unfolding text_good
returns-then-all_good c =
    let r = c.args.rec.now in
    let all = sym (c.all_good.ensures ∙ ap (every good) c.part.ensures.0) ∙ c.if-all_good.true in
    let reference = part_holds good r 57 89 103 104 (omega arith) (omega arith) (omega arith) (omega arith) all in
    let client = part_holds good r 57 59 80 104 (omega arith) (omega arith) (omega arith) (omega arith) all in
    ap₂ ◌&&◌ (ap not c.blank.ensures) (ap not c.blank-then-all_good.ensures) ∙ rw (reference, client)

pub returns : goal.returns
returns c = ap₂ ◌&&◌ c.text_good.ensures c.text_good-2.ensures
