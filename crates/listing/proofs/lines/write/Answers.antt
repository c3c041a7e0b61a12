use Rattle.std.proofs.Common.{[], arith, get_or, refl, rules, sym, ◌+◌, ◌∙◌, ◌≡◌}
use Rattle.paper.specs.Fields.{bytes}
use Rattle.paper.specs.Listing.{entity_line, entity_lines, figures_line, cell_sums}
use Rattle.paper.specs.Sessions.{zero_cell}
use Rattle.writing.proofs.Laying.{Wrote, on, again, whole}
use Rattle.listing.proofs.Parts.{entity_most, listing_parts, lines_next, sums_next}
use Rattle.listing.proofs.lines.write.Goals as goal
use Rattle.listing.proofs.lines.write.Invariants.{heading}

pub loop-n-init : goal.loop-n-init
unfolding entity_lines cell_sums
loop-n-init c =
    record {
      passed = 0;
      next = refl;
      short = search rules;
      summed = refl;
      lines = again (heading c.args.out.now c.text-at.new.out c.text-at.result c.text-at.ensures);
    }

pub entity-at-requires : goal.entity-at-requires
entity-at-requires c =
    let i = c.loop-n.invariant in
    record { e_bound = omega arith; position_bound = omega (arith, (c.requires.by_index c.loop-n.n).position); has_room = omega (arith, i.next, i.short) }

pub plus-sums-requires : goal.plus-sums-requires
plus-sums-requires c =
    let i = c.loop-n.invariant in
    let e : c.loop-n.n ≡ i.passed + 1 = i.next in
    rw (i.summed, e, ← sums_next i.passed c.args.cells.now) (c.requires.by_index_2 (i.passed + 1) (omega arith))

pub loop-n-preserved : goal.loop-n-preserved
loop-n-preserved c =
    let i = c.loop-n.invariant in
    let e = i.passed + 1 in
    let d = get_or c.args.cells.now e zero_cell in
    let m = entity_most e d (omega (arith, i.next)) (omega (arith, (c.requires.by_index e).position)) in
    record {
      passed = e;
      next = omega (arith, i.next);
      short = omega (arith, (rw i.next at c.entity-at.ensures).0, m, i.short);
      summed = c.plus-sums.ensures ∙ rw (i.summed, i.next) (sym (sums_next i.passed c.args.cells.now));
      lines = rw lines_next (on i.lines (entity_line e d) (rw i.next at c.entity-at.ensures));
    }

pub figures-requires : goal.figures-requires
figures-requires c =
    let i = c.loop-n.invariant in
    record { position_bound = rw i.summed (omega (arith, (c.requires.by_index_2 i.passed (omega (arith, i.next))).position)); has_room = omega (arith, i.next, i.short) }

pub returns : goal.returns
returns c =
    let cells = c.args.cells.now in
    let t = c.text-at in
    let i = c.loop-n.invariant in
    let all : i.passed ≡ 499 = omega (arith, i.next) in
    let w : Wrote t.result (entity_lines 499 cells) t.new.out c.loop-n.out c.loop-n.at = rw all at i.lines in
    let listed = on (heading c.args.out.now t.new.out t.result t.ensures) (entity_lines 499 cells) (w.next, w.held) in
    let sums = rw (i.summed, all) at c.figures.ensures in
    whole (rw (listing_parts cells) at (on (on listed (bytes "SUM") c.text-at-2.ensures) (figures_line [] (cell_sums 499 cells)) sums))
