-- The lines of a listing: how long they are, and what they are made of.
use Prim.Native.Nat.{ℕ, ◌+◌, ◌*◌, ◌^◌, ◌≤◌, ◌<◌}
use mathlib.Core.Bool.{Bool, true, false, ◌&&◌, cond}
use mathlib.Core.List.{List, [], ◌++◌, append_assoc}
use mathlib.Core.Path.{◌≡◌}
use native.Mathlib.Numerals.{add-one}
use native.Mathlib.Omega.{arith}
use lib.Dec.{eqb}
use lib.IntN.{ℤ, nat_abs}
use lib.ListN.{length, get_or, length-append}
use Rattle.paper.specs.declared.ledger.Cell.{Cell}
use Rattle.paper.specs.Fields.{bytes}
use Rattle.paper.specs.Listing.{decimal, signed_decimal, line_feed, figures_line, entity_line, entity_lines, plus_cell, cell_sums, listing}
use Rattle.paper.specs.Sessions.{zero_cell}
use Rattle.writing.proofs.Decimals.{length_decimal, width_most, decimal_most, signed_most}
use Rattle.writing.proofs.Laying.{nothing_laid}
use Rattle.writing.proofs.Signs.{there}

-- a name goes before the figures
pub named : (name : List ℕ) (c : Cell) → figures_line name c ≡ name ++ figures_line [] c
unfolding figures_line
named name c = simp append_assoc

-- with a blank, a position and the line feed
pub figures_most : (c : Cell) → nat_abs c.position ≤ 4 * 10 ^ 18 → length (figures_line [] c) ≤ 64
unfolding figures_line
figures_most c h = simp (length-append) (omega (arith, decimal_most c.sent, decimal_most c.received, signed_most 19 c.position (omega arith) (omega arith)))

pub position_most : (n : ℤ) → nat_abs n ≤ 4 * 10 ^ 18 → length (signed_decimal n) ≤ 20
position_most n h = signed_most 19 n (omega arith) (omega arith)

-- what the check needs of figures
pub ruleset figured = (there, position_most, figures_most)

pub name_most : (e : ℕ) → e < 1000 → length (decimal e) ≤ 3
name_most e h = omega (arith, length_decimal e, width_most 3 e (omega arith) (omega arith))

module _ (e : ℕ) (c : Cell) where
  pub no_line : eqb c.sent 0 && eqb c.received 0 ≡ true → entity_line e c ≡ []
  unfolding entity_line
  no_line h = rw h

  pub a_line : eqb c.sent 0 && eqb c.received 0 ≡ false → entity_line e c ≡ decimal e ++ figures_line [] c
  unfolding entity_line
  a_line h = rw h (named (decimal e) c)

  pub entity_most : e < 1000 → nat_abs c.position ≤ 4 * 10 ^ 18 → length (entity_line e c) ≤ 67
  unfolding entity_line
  entity_most h k = go (eqb c.sent 0 && eqb c.received 0)
    where
      go : (b : Bool) → length (cond b [] (figures_line (decimal e) c)) ≤ 67
      go true = omega arith
      go false = rw (named (decimal e) c, length-append) (omega (arith, name_most e h, figures_most c k))

-- what the check needs of an entity's line
pub ruleset lined = (name_most, figures_most, no_line, a_line, nothing_laid)

-- ---- all lines

pub lines_next : (n : ℕ) (cells : List Cell) → entity_lines (n + 1) cells ≡ entity_lines n cells ++ entity_line (n + 1) (get_or cells (n + 1) zero_cell)
unfolding entity_lines
lines_next n cells = rw add-one

pub sums_next : (n : ℕ) (cells : List Cell) → cell_sums (n + 1) cells ≡ plus_cell (cell_sums n cells) (get_or cells (n + 1) zero_cell)
unfolding cell_sums
sums_next n cells = rw add-one

pub listing_parts : (cells : List Cell)
    → bytes "ENTITY SENT RECEIVED NET" ++ line_feed ++ entity_lines 499 cells ++ bytes "SUM" ++ figures_line [] (cell_sums 499 cells) ≡ listing cells
unfolding listing
listing_parts cells = rw (named (bytes "SUM") (cell_sums 499 cells)) (simp append_assoc)
