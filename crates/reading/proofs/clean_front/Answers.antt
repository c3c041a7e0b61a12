use Rattle.std.proofs.Common.{arith, drop, length, length-drop, sym, take, take_all, ℕ, ◌*◌, ◌+◌, ◌-◌, ◌/◌, ◌≤◌, ◌∙◌, ◌≡◌}
use Rattle.reading.proofs.Records.{nothing_tested, block_tested, all_tested}
use Rattle.reading.proofs.clean_front.Goals as goal

pub loop-block-init : goal.loop-block-init
loop-block-init c = nothing_tested _

pub loop-block-preserved : goal.loop-block-preserved
loop-block-preserved c =
    let front : ℕ = c.loop-block.block * 1504 in
    let size : front + 1504 - front ≡ 1504 = omega arith in
    let next : front + 1504 ≡ (c.loop-block.block + 1) * 1504 = omega arith in
    rw (sym next) (block_tested _ _ 1504 (omega arith) c.loop-block.invariant (rw size at (sym c.all_good.ensures ∙ c.if-not-all_good.false)))

pub returns-then-all_good : goal.returns-then-all_good
returns-then-all_good c =
    let file = c.args.file.now in
    let front = length file / 1504 * 1504 in
    let rest = drop front file in
    let whole : take (length file - front) rest ≡ rest = take_all (length file - front) rest (simp length-drop (omega arith)) in
    let last : c.loop-block.block ≡ length file / 1504 = omega (arith, c.loop-block-test.false) in
    all_tested _ _ (rw last at c.loop-block.invariant) (rw whole at (sym c.all_good-2.ensures ∙ c.if-all_good.true))
