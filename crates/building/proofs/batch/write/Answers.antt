use Rattle.std.proofs.Common.{arith, ◌≤◌}
use Rattle.building.proofs.Headed.{tail_asked, tail_few, control_fits, batch_whole, numbering_whole}
use Rattle.building.proofs.batch.write.Goals as goal
use Rattle.building.proofs.batch.write.Goals.{After-own-run}

few : (c : After-own-run) → c.own-run.result.records ≤ 10000
few c = search tail_few

pub slice_bounds-batch_control-end : goal.slice_bounds-batch_control-end
slice_bounds-batch_control-end c =
    control_fits c.requires.to_number c.requires.in_bounds.0 c.requires.in_bounds.1 c.body_at-header.ensures.0 c.body_at-header.ensures.1 c.write-numbering.ensures.0 c.write-numbering.ensures.1 c.own-run.ensures.0

pub returns : goal.returns
returns c =
    (batch_whole c.requires.to_number c.requires.in_bounds.0 c.requires.in_bounds.1 c.body_at-header.ensures.0 c.body_at-header.ensures.1 c.write-numbering.ensures.0 c.write-numbering.ensures.1 c.own-run.ensures.0 c.batch_control.ensures, numbering_whole c.requires.to_number c.requires.in_bounds.0 c.requires.in_bounds.1 c.body_at-header.ensures.0 c.body_at-header.ensures.1 c.write-numbering.ensures.0 c.write-numbering.ensures.1 c.own-run.ensures.0 c.own-run.ensures.1)

pub own-run-requires : goal.own-run-requires
own-run-requires c = search tail_asked

pub overflow_add-at : goal.overflow_add-at
overflow_add-at c = omega (arith, few (goal.at.overflow_add-at c).After-own-run)

pub overflow_mul-at : goal.overflow_mul-at
overflow_mul-at c = omega (arith, few (goal.at.overflow_mul-at c).After-own-run)

pub overflow_add-at-2 : goal.overflow_add-at-2
overflow_add-at-2 c = omega (arith, few (goal.at.overflow_add-at-2 c).After-own-run)
