use Rattle.characters.proofs.Words.{packs_same}
use Rattle.characters.proofs.word.same.Goals as goal

pub returns : goal.returns
returns c = packs_same c.word.ensures c.word-2.ensures
