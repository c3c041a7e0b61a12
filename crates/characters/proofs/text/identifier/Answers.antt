use Rattle.std.proofs.Common.{sym}
use mathlib.Core.Bool.{and-true}
use Rattle.paper.specs.Fields.{every, identifier_field}
use Rattle.characters.proofs.Part.{one_position}
use Rattle.characters.proofs.text.identifier.Goals as goal

pub returns : goal.returns
unfolding every identifier_field
returns c =
    rw (one_position c.args.rec.now c.args.at c.requires, c.digit.ensures, c.capital.ensures) (sym (and-true _))
