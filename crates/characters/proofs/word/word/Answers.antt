use Rattle.std.proofs.Common.{arith, rules}
use Rattle.characters.specs.Words.{packed}
use Rattle.characters.proofs.Words.{packs_field}
use Rattle.characters.proofs.word.word.Goals as goal

pub returns : goal.returns
unfolding packed
returns c =
    packs_field c.args.rec.now c.args.first c.args.last _ c.requires.has_field c.requires.last_value (search rules) (omega (arith, c.from_le_bytes.ensures))
