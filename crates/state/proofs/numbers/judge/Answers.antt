use Rattle.std.proofs.Common.{eq-eqb, le-ltb, lt-ltb, ne_eqb, refl, ◌∙◌}
use Rattle.state.specs.States.{NumberSays}
use Rattle.state.proofs.Numbering.{new_above, by_above, by_look}
use Rattle.state.proofs.numbers.judge.Goals as goal

pub returns-then-number-highest : goal.returns-then-number-highest
unfolding NumberSays
returns-then-number-highest c =
    (new_above _ _ _ _ c.requires.place_value.0 c.requires.place_value.1 c.requires.by_index c.if-number-highest.true, by_above (lt-ltb _ _ c.if-number-highest.true))

pub returns-then-fresh-place : goal.returns-then-fresh-place
unfolding NumberSays
returns-then-fresh-place c =
    (c.fresh-fresh.ensures.here ∙ eq-eqb _ _ c.if-fresh-place.true, refl)

pub returns : goal.returns
unfolding NumberSays
returns c =
    (c.fresh-fresh.ensures.here ∙ ne_eqb _ _ c.if-fresh-place.false, by_look (le-ltb _ _ c.if-number-highest.false) c.fresh-fresh.ensures)
