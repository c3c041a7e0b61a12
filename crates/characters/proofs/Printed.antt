-- The characters of the paper, bytes 32 to 95 but for seven: four before the last of them, and three further down.
use Rattle.std.proofs.Common.{◌≡◌, ℕ, ◌<◌, ◌≤◌, Bool, true, false, not, ◌&&◌, ◌||◌, eqb, leb, [], ◌∷◌, refl, arith, ne_eqb, leb-false, leb-true}
use Rattle.paper.specs.Fields.{within, among, good}
use Rattle.paper.proofs.Runs.{Run, in_run}
use Rattle.characters.proofs.Ranges.{inside, under, over}

abbrev in_print : ℕ → Bool
in_print b = within 32 90 b || eqb b 95

-- the code's two tests are the paper's
abbrev Alike : ℕ → Type 0
Alike b = (in_print b && not (among (34 ∷ 38 ∷ 39 ∷ []) b)) ≡ good b

the_end : Run Alike 91 5
unfolding good among
the_end = (refl, (refl, (refl, (refl, (refl, tt)))))

module _ (b : ℕ) where
  printed_low : b < 32 → false ≡ in_print b
  printed_low h = rw (← under 32 90 b h, ne_eqb b 95 (omega arith))

  printed_high : 90 < b → (b ≡ 95 → ⊥) → false ≡ in_print b
  printed_high h k = rw (← over 32 90 b (omega arith) h, ne_eqb b 95 k)

  printed_in : 32 ≤ b → b ≤ 90 → true ≡ in_print b
  printed_in h k = rw (← inside 32 90 b h k)

  low : b < 32 → Alike b
  unfolding good
  low h = rw (← printed_low h, ← under 32 95 b h)

  middle : 32 ≤ b → b ≤ 90 → Alike b
  unfolding good among
  middle h k =
      rw (
        ← printed_in h k,
        ← inside 32 95 b h (omega arith),
        ne_eqb b 91 (omega arith),
        ne_eqb b 92 (omega arith),
        ne_eqb b 93 (omega arith),
        ne_eqb b 94 (omega arith),
      )

  high : 95 < b → Alike b
  unfolding good
  high h = rw (← printed_high (omega arith) (omega arith), ← over 32 95 b (omega arith) h)

  above : (t : Bool) → leb b 95 ≡ t → 90 < b → Alike b
  above true e h = in_run Alike 91 5 the_end b h (omega (arith, leb-true b 95 e))
  above false e h = high (leb-false b 95 e)

  from : (t : Bool) → leb b 90 ≡ t → 32 ≤ b → Alike b
  from true e h = middle h (leb-true b 90 e)
  from false e h = above (leb b 95) refl (leb-false b 90 e)

  split : (t : Bool) → leb 32 b ≡ t → Alike b
  split true e = from (leb b 90) refl (leb-true 32 b e)
  split false e = low (leb-false 32 b e)

  pub as_printed : Alike b
  as_printed = split (leb 32 b) refl
