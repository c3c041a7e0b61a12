use Rattle.std.proofs.Common.{append-nil, arith, drop_of_length-le, length, rules, sym, ◌∙◌, ◌≡◌}
use Rattle.paper.specs.Writing.{spelled}
use Rattle.writing.proofs.Stores.{digit_back}
use Rattle.writing.proofs.digits.Goals as goal

pub loop-i-init : goal.loop-i-init
loop-i-init c = rw (drop_of_length-le c.args.part.now {i = length c.args.part.now} (search rules), append-nil)

pub loop-i-preserved : goal.loop-i-preserved
loop-i-preserved c = c.loop-i.invariant ∙ digit_back c.loop-i.i c.loop-i.rest c.loop-i.part (omega arith) (omega arith)

pub returns : goal.returns
unfolding spelled
returns c =
    let e : c.loop-i.i ≡ 0 = omega arith in
    sym (c.loop-i.invariant ∙ rw e)
