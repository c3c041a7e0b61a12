use Rattle.std.proofs.Common.{eq-eqb, ne_eqb, List, [], eqb, false, get_or, refl, suc, true, zero, ℕ, ◌%◌, ◌∷◌, ◌≡◌, ◌≤◌}
use lib.ListN.{get_or-eq_default}
use Rattle.paper.specs.Dates.{month_days}
use Rattle.field.proofs.date.month_days.Goals as goal
use Rattle.field.proofs.date.month_days.Goals.{else-month-eq-FEBRUARY-via-then-month-eq-FEBRUARY+else-year-eq0, else-month-eq-FEBRUARY-via-else-month-eq-FEBRUARY}

abbrev common : List ℕ
common = 0 ∷ 31 ∷ 28 ∷ 31 ∷ 30 ∷ 31 ∷ 30 ∷ 31 ∷ 31 ∷ 30 ∷ 31 ∷ 30 ∷ 31 ∷ []

module _ (year : ℕ) where
  none : (month : ℕ) → 13 ≤ month → 0 ≡ month_days year month
  unfolding month_days
  none month h = rw get_or-eq_default

  leap : (month : ℕ) → month ≡ 2 → eqb (year % 4) 0 ≡ true → 29 ≡ month_days year month
  unfolding month_days
  leap month e h = rw (e, h)

  no_leap : eqb (year % 4) 0 ≡ false → (month : ℕ) → get_or common month 0 ≡ month_days year month
  unfolding month_days
  no_leap h month = rw h

  other : (month : ℕ) → (month ≡ 2 → ⊥) → get_or common month 0 ≡ month_days year month
  unfolding month_days
  other zero h = refl
  other (suc zero) h = refl
  other (suc (suc zero)) h = absurd (h refl)
  other (suc (suc (suc m))) h = refl

pub returns : goal.returns
returns c =
    elim c.else-month-eq-FEBRUARY.branch [
      | else-month-eq-FEBRUARY-via-then-month-eq-FEBRUARY+else-year-eq0 w ↦ no_leap _ (ne_eqb _ _ w.if-year-eq0.false) _
      | else-month-eq-FEBRUARY-via-else-month-eq-FEBRUARY w ↦ other _ _ w.if-month-eq-FEBRUARY.false
    ]

pub returns-then-month-gt12 : goal.returns-then-month-gt12
returns-then-month-gt12 c = none _ _ c.if-month-gt12.true

pub returns-then-year-eq0 : goal.returns-then-year-eq0
returns-then-year-eq0 c = leap _ _ c.if-month-eq-FEBRUARY.true (eq-eqb _ _ c.if-year-eq0.true)
