use Rattle.std.proofs.Common.{sym}
use Rattle.paper.proofs.Rosters.{listed_none}
use Rattle.desk.proofs.Rosters.{entity_at, mark_turn}
use Rattle.desk.proofs.rules.marks.Goals as goal

pub loop-entity-init : goal.loop-entity-init
loop-entity-init c = sym listed_none

pub bounds-roster-entity : goal.bounds-roster-entity
bounds-roster-entity c =
    entity_at c.args.entities.now c.loop-entity.entity-index c.requires c.loop-entity-test.true

pub loop-entity-preserved : goal.loop-entity-preserved
loop-entity-preserved c =
    mark_turn c.args.entities.now c.loop-entity.entity-index c.loop-entity.roster c.requires c.loop-entity-test.true c.loop-entity.invariant
