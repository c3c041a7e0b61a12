use Rattle.std.proofs.Common.{ap, arith, sym, ◌+◌, ◌∙◌}
use Rattle.paper.specs.Fields.{number}
use Rattle.paper.specs.Entities.{entity_value}
use Rattle.characters.proofs.Part.{first_of}
use Rattle.field.proofs.entity.entity_value.Goals as goal

pub returns : goal.returns
unfolding entity_value
returns c =
    c.number.ensures.0 ∙ ap number (sym (first_of c.args.rec.now c.args.first c.args.last 4 (c.args.first + 3) (omega arith) (omega arith) (omega arith)))
