-- Runs of records, one after another.
use Prim.Native.Nat.{ℕ, ◌+◌}
use mathlib.Core.List.{List}
use mathlib.Core.Path.{◌≡◌, ◌∙◌}
use native.Mathlib.Omega.{arith}
use Rattle.paper.specs.Records.{ReadingRules}
use Rattle.state.specs.declared.State.{State}
use Rattle.std.proofs.Common.{Ok, Err}
use Rattle.reading.specs.Taken.{Reached, on_from, Runs, Further}

module _ (rules : ReadingRules) (file : List ℕ) (records place : ℕ) (next : State) where
  -- a record, and a run behind it
  pub runs_after : (st : State) (r : Reached) → on_from rules file records place st ≡ on_from rules file records (place + 1) next
      → Runs rules file records (place + 1) next r → Runs rules file records place st r
  unfolding Runs
  runs_after st (Ok reached) e h =
      record { further = omega (arith, h.further); within = h.within; standing = h.standing; framed = h.framed; left = e ∙ h.left }
  runs_after st (Err r) e h = e ∙ h

  pub further_after : (r : Reached) → Runs rules file records (place + 1) next r → Further place r
  unfolding Runs Further
  further_after (Ok reached) h = omega (arith, h.further)
  further_after (Err r) h = tt
