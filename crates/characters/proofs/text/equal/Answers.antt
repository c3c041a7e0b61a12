use Rattle.std.proofs.Common.{◌∙◌}
use Rattle.characters.proofs.Scan.{begun_same, other_length}
use Rattle.characters.proofs.text.equal.Goals as goal

pub returns-then-a-b : goal.returns-then-a-b
returns-then-a-b c = other_length c.args.a.now c.args.b.now c.if-a-b.true

pub returns : goal.returns
returns c = c.starts_with.ensures.value ∙ begun_same c.args.a.now c.args.b.now c.if-a-b.false
