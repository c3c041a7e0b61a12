use Rattle.std.proofs.Common.{arith, length, ◌++◌, ◌∙◌, ◌≡◌}
use Rattle.paper.specs.Fields.{bytes, field}
use Rattle.writing.proofs.Laying.{Wrote, start, on, filled}
use Rattle.company.specs.Details.{order_to, order_of}
use Rattle.company.proofs.order.write.Goals as goal
use Rattle.company.proofs.order.write.Goals.{After-text-client}

-- positions 1 to 54 are written
half : (c : After-text-client) → (c.text-client.result ≡ 56) × (length c.text-client.new.out ≡ 96)
half c = (omega arith, omega arith)

pub part-requires-4 : goal.part-requires-4
part-requires-4 c = omega (arith, c.requires)

pub text-tail-requires : goal.text-tail-requires
text-tail-requires c = omega (arith, half (goal.at.text-tail-requires c).After-text-client)

pub text-requires : goal.text-requires
text-requires c = omega (arith, half (goal.at.text-requires c).After-text-client)

pub shape_of-dst : goal.shape_of-dst
shape_of-dst c = omega (arith, half (goal.at.shape_of-dst c).After-text-client, c.requires)

half_wrote : (c : After-text-client) → let a = c.args in
    Wrote 0 (bytes "IN" ++ order_to a.currency a.rec.now ++ field a.rec.now 104 113 ++ field a.rec.now 89 103) a.dst.now c.text-client.new.out c.text-client.result
half_wrote c =
    let a = c.args in
    let r = a.rec.now in
    let e = c.write_to-amount.ensures in
    let to = on (start (omega arith)) (bytes "IN" ++ order_to a.currency r) (e.0 ∙ omega arith, e.2) in
    let cents = on to (field r 104 113) (rw c.part.ensures.0 at c.text-reference.ensures) in
    on cents (field r 89 103) (rw c.part-2.ensures.0 at c.text-client.ensures)

pub returns : goal.returns
unfolding order_of
returns c =
    let a = c.args in
    let whose = on (half_wrote (goal.at.returns c).After-text-client) (field a.rec.now 59 80) (rw c.part-3.ensures.0 at c.text-alone.ensures) in
    let flag = on whose (bytes "000") c.text-prefix.ensures in
    let sender = on flag (field a.lo.now 80 87) (rw c.part-4.ensures.0 at c.text-tail.ensures) in
    filled (on sender (bytes "0000000") c.text.ensures) (omega (arith, half (goal.at.returns c).After-text-client, c.requires))
