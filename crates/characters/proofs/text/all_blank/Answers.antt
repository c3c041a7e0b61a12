use Rattle.std.proofs.Common.{rules, eqb}
use Rattle.std.proofs.lemmas.Iterator.{YieldsList-from_slice}
use Rattle.characters.proofs.Scan.{all_tested}
use Rattle.characters.proofs.text.all_blank.Goals as goal

pub returns : goal.returns
returns c = all_tested (eqb 32) _ _ c.fold.ensures.ran (YieldsList-from_slice c.args.s.now cc) (λ a x b q k. search rules)
