use Rattle.characters.proofs.Shared.{in_two}
use Rattle.characters.proofs.word.wide_digits.Goals as goal

pub returns : goal.returns
returns c =
    in_two _ _ _ c.requires.has_field c.requires.first_bound.0 c.requires.first_bound.1 c.digits.ensures c.digits-2.ensures
