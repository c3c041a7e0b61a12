use Rattle.std.proofs.Common.{length, rules, sym, ◌∙◌, ◌≡◌}
use Rattle.files.proofs.Parts.{same_name}
use Rattle.intake.specs.Looking.{LongSoFar}
use Rattle.intake.proofs.Looking.{goes_on, ends}
use Rattle.intake.proofs.long.look_through.Goals as goal

pub returns-in_err-after : goal.returns-in_err-after
returns-in_err-after c =
    let so : LongSoFar c.args.form c.args.path.now c.args.body.now c.loop-after.before c.loop-after.seen = c.loop-after.invariant c.args.form c.requires in
    search (rules, same_name _ c.in_err-after.ensures so.looked.name)

pub returns-then-has_ended : goal.returns-then-has_ended
returns-then-has_ended c =
    ends c.in_ok-after.ensures (c.loop-after.invariant c.args.form c.requires) (sym c.has_ended.ensures ∙ c.if-has_ended.true)

pub loop-after-preserved : goal.loop-after-preserved
loop-after-preserved c =
    let full : length c.look_on.new.buffer ≡ 2508000 = search rules in
    λ form so. goes_on c.in_ok-after.ensures (sym c.has_ended.ensures ∙ c.if-has_ended.false) full (c.loop-after.invariant form so)
