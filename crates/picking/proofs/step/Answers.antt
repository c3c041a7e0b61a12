use Rattle.picking.proofs.Moving.{header_noted, individual_noted, other_noted, additional_noted, additional_left, nothing_noted_lem}
use Rattle.picking.proofs.step.Goals as goal

pub returns-then-is_to : goal.returns-then-is_to
returns-then-is_to c =
    individual_noted _ _ _ _ _ c.record_at-rec.ensures.0 c.kind.ensures c.in-Individual.is c.is_to.ensures c.if-is_to.true c.goes.ensures

pub returns-then-picking : goal.returns-then-picking
returns-then-picking c =
    additional_noted _ _ _ _ _ c.record_at-rec.ensures.0 c.kind.ensures c.in-Additional.is c.if-picking.true c.goes-then-picking.ensures

pub returns-in-BatchHeader : goal.returns-in-BatchHeader
returns-in-BatchHeader c =
    header_noted _ _ _ _ _ c.record_at-rec.ensures.0 c.kind.ensures c.in-BatchHeader.is c.waits.ensures

pub returns-else-is_to : goal.returns-else-is_to
returns-else-is_to c =
    other_noted _ _ _ _ _ c.record_at-rec.ensures.0 c.kind.ensures c.in-Individual.is c.is_to.ensures c.if-is_to.false (c.passes.ensures _)

pub returns-else-picking : goal.returns-else-picking
returns-else-picking c =
    additional_left _ _ _ _ _ c.record_at-rec.ensures.0 c.kind.ensures c.in-Additional.is c.if-picking.false

pub returns-in_default : goal.returns-in_default
returns-in_default c =
    nothing_noted_lem _ _ _ _ _ c.record_at-rec.ensures.0 c.kind.ensures c.in_default.not-BatchHeader c.in_default.not-Individual c.in_default.not-Additional
