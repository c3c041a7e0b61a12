use Rattle.std.proofs.Common.{◌∙◌}
use Rattle.typed.proofs.Steps.{same_is}
use Rattle.typed.proofs.words.is.Goals as goal

pub returns : goal.returns
returns c = c.eq.ensures ∙ same_is _ _
