use Rattle.characters.proofs.Words.{three_lowest}
use Rattle.characters.proofs.word.three_zeros.Goals as goal

pub returns : goal.returns
returns c f p = three_lowest p
