-- The buffer of figures.
use Prim.Native.Nat.{ℕ, zero, suc, ◌+◌, ◌*◌, ◌/◌, ◌%◌, ◌≤◌, ◌<◌, min}
use mathlib.Core.List.{List, [], ◌∷◌, ◌++◌, map, flat_map}
use mathlib.Core.Path.{◌≡◌, refl}
use native.Mathlib.Nat.{div-add-mod', min_comm, mul-le-mul_right, suc-mul}
use native.Mathlib.Numerals.{add-one}
use native.Mathlib.Omega.{arith}
use lib.IntN.{ℤ, pos}
use lib.ListN.{length, take, drop, get_or, set, length-append, length-map, length-take, drop_of_length-le, get_or-append}
use lib.Seq.{get_or-append-add, set_at, drop-cons, take-suc, append_snoc, length-take-le, take_all, take-append-le, drop-append_seam, get_or-take}
use Rattle.paper.specs.declared.ledger.Cell.{Cell}
use Rattle.paper.specs.Sessions.{zero_cell}
use Rattle.export.specs.Day.{named_figures, figure_of, figures_of, figures_written}
use Rattle.export.proofs.Days.{take_within, drop_within}

-- ---- where a figure stands

pub how_many_lem : length named_figures ≡ 3
unfolding named_figures
how_many_lem = refl

one_figure : (figure : Cell → ℤ) (cells : List Cell) (e : ℕ) (d : ℤ) → e < length cells → get_or (map figure cells) e d ≡ figure (get_or cells e zero_cell)
one_figure figure [] e d h = absurd (omega arith)
one_figure figure (c ∷ cells) zero d h = refl
one_figure figure (c ∷ cells) (suc e) d h = one_figure figure cells e d (omega arith)

module _ (cells : List Cell) where
  abbrev flat : List (Cell → ℤ) → List ℤ
  flat = flat_map (λ (figure : Cell → ℤ). map figure cells)

  flat_length : (named : List (Cell → ℤ)) → length (flat named) ≡ length named * length cells
  unfolding flat_map
  flat_length [] = omega arith
  flat_length (figure ∷ named) = simp (length-append, length-map, flat_length named) (omega arith)

  flat_at : (named : List (Cell → ℤ)) (f e : ℕ) → f < length named → e < length cells
      → get_or (flat named) (f * length cells + e) (pos 0) ≡ get_or named f (λ (c : Cell). pos 0) (get_or cells e zero_cell)
  unfolding flat_map
  flat_at [] f e h l = absurd (omega arith)
  flat_at (figure ∷ named) zero e h l =
      let first : 0 * length cells + e ≡ e = omega arith in
      rw (first, get_or-append (map figure cells) (flat named) (pos 0) e (rw length-map l)) (one_figure figure cells e (pos 0) l)
  flat_at (figure ∷ named) (suc f) e h l =
      let further : suc f * length cells + e ≡ length (map figure cells) + (f * length cells + e) = rw length-map (omega arith) in
      rw (further, get_or-append-add) (flat_at named f e (omega arith) l)

  pub figures_length : length (figures_of cells) ≡ length named_figures * length cells
  unfolding figures_of
  figures_length = flat_length named_figures

  -- figure f of entity e stands at f * 500 + e
  pub figure_at : (f e : ℕ) → f < length named_figures → e < length cells → get_or (figures_of cells) (f * length cells + e) (pos 0) ≡ figure_of f (get_or cells e zero_cell)
  unfolding figures_of figure_of
  figure_at f e h l = flat_at named_figures f e h l

  pub at_index : (i : ℕ) → length cells ≡ 500 → i < 1500 → get_or (figures_of cells) i (pos 0) ≡ figure_of (i / 500) (get_or cells (i % 500) zero_cell)
  at_index i e l =
      let whole : i / 500 * length cells + i % 500 ≡ i = rw e (div-add-mod' i 500) in
      rw whole at (figure_at (i / 500) (i % 500) (omega (arith, how_many_lem)) (omega arith))

-- ---- the buffer

module _ (new buffer : List ℤ) where
  -- the first i are written
  abbrev pub Through : ℕ → List ℤ → Type 0
  Through i now = now ≡ take i new ++ drop i buffer

  pub write_next : (i : ℕ) (now : List ℤ) → i < length new → i < length buffer → Through i now → Through (i + 1) (set now i (get_or new i (pos 0)))
  write_next i now l m w =
      rw (add-one, w, drop-cons buffer i (pos 0) m, set_at (take i new) (get_or buffer i (pos 0)) (drop (suc i) buffer) (get_or new i (pos 0)) i (length-take-le i new (omega arith)), take-suc new i (pos 0) l, append_snoc)

  pub all_written : (i : ℕ) (now : List ℤ) → i ≡ min (length buffer) (length new) → Through i now → now ≡ figures_written new buffer
  unfolding figures_written
  all_written i now e w = rw (w, e, take_within (length buffer) new, min_comm, drop_within (length new) buffer)

  -- a buffer for these figures and no more holds what it would hold if others were appended
  pub later_unseen : (later : List ℤ) → length buffer ≤ length new → figures_written (new ++ later) buffer ≡ figures_written new buffer
  unfolding figures_written
  later_unseen later h =
      rw (take-append-le (length buffer) new later h, drop_of_length-le buffer h, drop_of_length-le buffer {i = length (new ++ later)} (simp length-append (omega arith)))

  -- a longer buffer keeps what stands behind them
  pub rest_stays : length new ≤ length buffer → drop (length new) (figures_written new buffer) ≡ drop (length new) buffer
  unfolding figures_written
  rest_stays h = rw (take_all (length buffer) new h, drop-append_seam)

module _ (cells : List Cell) (buffer : List ℤ) where
  -- figure f of entity e, where there is room for it
  pub figure_stands : (f e : ℕ) → f < length named_figures → e < length cells → f * length cells + e < length buffer
      → get_or (figures_written (figures_of cells) buffer) (f * length cells + e) (pos 0) ≡ figure_of f (get_or cells e zero_cell)
  unfolding figures_written
  figure_stands f e h l room =
      let new = figures_of cells in
      let i = f * length cells + e in
      let known : i < length new = omega (arith, figures_length cells, mul-le-mul_right (length cells) h, suc-mul f (length cells)) in
      let among : i < length (take (length buffer) new) = simp length-take (omega arith) in
      rw (get_or-append (take (length buffer) new) (drop (length new) buffer) (pos 0) i among, get_or-take (length buffer) new i (pos 0) room) (figure_at cells f e h l)
