use Rattle.std.proofs.Common.{arith, get_or, length, length-set, pos, rules, sym, ◌<◌, ◌∙◌, ◌≡◌}
use mir.Syntax.{w64}
use mir.Facts.{to_z-of_z}
use Rattle.export.specs.Day.{figures_of}
use Rattle.export.proofs.FigureLaws.{how_many_lem, figures_length, at_index, write_next, all_written}
use Rattle.export.proofs.figures.hand_figures.Goals as goal

pub loop-i-preserved : goal.loop-i-preserved
loop-i-preserved c =
    let a = c.args in
    let cells = a.cells.now in
    let i = c.loop-i.i in
    let many : length cells ≡ 500 = search rules in
    let room : i < length a.figures.now = omega arith in
    let known : i < length (figures_of cells) = omega (arith, rw how_many_lem at (figures_length cells)) in
    let right : c.figure_of.result ≡ get_or (figures_of cells) i (pos 0) = c.figure_of.ensures ∙ sym (at_index cells i many (omega arith)) in
    record {
      long = simp length-set (omega arith);
      through = rw (to_z-of_z {w = w64} record { sfits = c.figure_of.type_inv }, right)
          (write_next (figures_of cells) a.figures.now i c.loop-i.figures known room c.loop-i.invariant.through);
    }

pub returns : goal.returns
returns c =
    let cells = c.args.cells.now in
    let many : length cells ≡ 500 = search rules in
    all_written (figures_of cells) c.args.figures.now c.loop-i.i c.loop-i.figures (omega (arith, rw how_many_lem at (figures_length cells)))
    c.loop-i.invariant.through
