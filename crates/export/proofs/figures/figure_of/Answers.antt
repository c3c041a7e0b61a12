use Rattle.std.proofs.Common.{arith, ◌≡◌}
use mir.Syntax.{w64}
use mir.Facts.{to_z_pos}
use Rattle.export.specs.Day.{named_figures, figure_of}
use Rattle.export.proofs.figures.figure_of.Goals as goal

pub returns-in_default : goal.returns-in_default
unfolding figure_of named_figures
returns-in_default c =
    let last : c.args.f ≡ 2 = omega arith in
    rw last (to_z_pos w64 (omega arith))
