use Rattle.std.proofs.Common.{length, rules, sym, ◌∙◌, ◌≡◌}
use Rattle.intake.proofs.Looking.{nothing_looked, is_whole, is_long, answered, refuses}
use Rattle.intake.proofs.long.take_from.Goals as goal

pub returns-then-has_ended : goal.returns-then-has_ended
returns-then-has_ended c =
    is_whole c.in_ok-after.ensures (nothing_looked c.args.form _ _ _ _ c.requires c.watch.ensures c.begun-begun.ensures) (sym c.has_ended.ensures ∙ c.if-has_ended.true)

pub look_through-requires : goal.look_through-requires
look_through-requires c =
    let full : length c.look_on.new.buffer ≡ 2508000 = search rules in
    is_long c.in_ok-after.ensures (sym c.has_ended.ensures ∙ c.if-has_ended.false) full (nothing_looked c.args.form _ _ _ _ c.requires c.watch.ensures c.begun-begun.ensures)

pub unwrap-requires : goal.unwrap-requires
unwrap-requires c = answered c.args.form _ _ _ c.in_ok-last.seen _ c.in_ok-last.ensures c.answer.ensures

pub returns : goal.returns
returns c = refuses c.args.form _ _ _ c.in_ok-last.seen _ _ c.in_ok-last.ensures c.answer.ensures c.unwrap.ensures
