use Rattle.characters.proofs.Words.{text_at_end}
use Rattle.characters.proofs.word.blank.Goals as goal

pub returns-then-front-back-ne-BLANKS : goal.returns-then-front-back-ne-BLANKS
returns-then-front-back-ne-BLANKS c =
    text_at_end _ _ _ c.requires.has_field c.requires.first_bound c.word-front.ensures c.word-back.ensures c.if-front-back-ne-BLANKS.true
