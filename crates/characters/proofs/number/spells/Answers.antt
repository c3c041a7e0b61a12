use Rattle.characters.proofs.Value.{spelled}
use Rattle.characters.proofs.number.spells.Goals as goal

pub returns : goal.returns
returns c =
    let p = c.part-s in
    rw (← p.ensures.0)
    (spelled p.result.now c.all_digits.result _ _ c.all_digits.ensures c.low_value.ensures)
