use Rattle.std.proofs.Common.{ap, arith, length, ◌+◌, ◌∙◌, ◌≡◌}
use Rattle.paper.specs.Entities.{currency_adds}
use Rattle.paper.specs.Fields.{bytes, field}
use Rattle.paper.specs.Writing.{spelled}
use Rattle.writing.proofs.Laying.{start, on}
use Rattle.company.specs.Details.{payer_entity}
use Rattle.company.proofs.order.write_to.Goals as goal
use Rattle.company.proofs.order.write_to.Goals.{After-field-branch}

-- the mark, the code and the entity are written
begun : (c : After-field-branch) → (c.field-branch.result ≡ 9) × (length c.field-branch.new.out ≡ 96)
unfolding spelled
begun c = (omega arith, omega arith)

pub text-reserved-requires : goal.text-reserved-requires
text-reserved-requires c = omega (arith, begun (goal.at.text-reserved-requires c).After-field-branch)

pub text-account-requires : goal.text-account-requires
text-account-requires c = omega (arith, begun (goal.at.text-account-requires c).After-field-branch)

pub text-block-requires : goal.text-block-requires
text-block-requires c = omega (arith, begun (goal.at.text-block-requires c).After-field-branch)

pub part-requires-2 : goal.part-requires-2
part-requires-2 c = omega (arith, c.requires)

pub text-requires : goal.text-requires
text-requires c = omega (arith, begun (goal.at.text-requires c).After-field-branch)

pub shape_of-dst : goal.shape_of-dst
shape_of-dst c = omega (arith, begun (goal.at.shape_of-dst c).After-field-branch, c.requires)

pub returns : goal.returns
unfolding spelled
returns c =
    let r = c.args.rec.now in
    let e = c.in_field.ensures ∙ ap (λ n. currency_adds c.args.currency + n) c.entity.ensures.0 in
    let mark = on (start (omega arith)) (bytes "IN637") c.text-whom.ensures in
    let whom = on mark (spelled 4 (currency_adds c.args.currency + payer_entity r)) (rw e at c.field-branch.ensures) in
    let at = on whom (field r 37 40) (rw c.part.ensures.0 at c.text-reserved.ensures) in
    let account = on (on at (bytes "0") c.text-account.ensures) (bytes "000") c.text-block.ensures in
    let all = on account (field r 45 58) (rw c.part-2.ensures.0 at c.text.ensures) in
    (all.next ∙ omega arith, omega (arith, begun (goal.at.returns c).After-field-branch), all.held)
