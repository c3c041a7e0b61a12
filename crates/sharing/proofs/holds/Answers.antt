use Rattle.std.proofs.Common.{sym, ◌∙◌}
use borrow.Enum.Refused.{opened}
use Rattle.sharing.proofs.Looking.{opens, finds, passes, others}
use Rattle.sharing.proofs.holds.Goals as goal
use Rattle.sharing.proofs.holds.Goals.{in-BatchHeader, in-Individual+else-inside-destination, in_default}

pub returns-then-inside-destination : goal.returns-then-inside-destination
returns-then-inside-destination c =
    sym (c.loop-place.invariant ∙ finds _ _ _ _ c.loop-place-test.true (rw c.whole-rec.ensures at c.kind.ensures) c.in-Individual.is (rw c.whole-rec.ensures at c.destination.ensures.0) c.if-inside-destination.true)

pub loop-place-preserved : goal.loop-place-preserved
loop-place-preserved c =
    let here = c.loop-place-test.true in
    let k = rw c.whole-rec.ensures at c.kind.ensures in
    elim c.match-kind.branch [
      | in-BatchHeader w ↦ rw w.inside-is (c.loop-place.invariant ∙ opens _ _ _ _ here k w.in-BatchHeader.is)
      | in-Individual+else-inside-destination w ↦ rw w.inside-is (c.loop-place.invariant ∙ passes _ _ _ _ here k w.in-Individual.is (rw c.whole-rec.ensures at w.destination.ensures.0) w.if-inside-destination.false)
      | in_default w ↦ rw w.inside-is (c.loop-place.invariant ∙ others _ _ _ _ here k (opened w.in_default.in_default-own.keys3))
    ]
