use Rattle.std.proofs.Common.{rules, ◌≡◌, ◌∙◌}
use Rattle.std.specs.Prelude.{fold}
use Rattle.typed.specs.Words.{grown}
use Rattle.typed.proofs.Steps.{folded}
use Rattle.typed.proofs.words.grown_by.Goals as goal

pub returns : goal.returns
returns c =
    let e : c.fold.result ≡ fold (grown c.args.most) 0 c.args.word.now = search rules in e ∙ folded _ _ _
