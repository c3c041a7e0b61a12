use Rattle.std.proofs.Common.{rules}
use Rattle.std.proofs.lemmas.Iterator.{YieldsList-from_slice}
use Rattle.paper.specs.Fields.{good}
use Rattle.characters.proofs.Scan.{all_tested}
use Rattle.characters.proofs.text.all_good.Goals as goal

pub returns : goal.returns
returns c = all_tested good _ _ c.fold.ensures.ran (YieldsList-from_slice c.args.s.now cc) (λ a x b q k. search rules)
