use Rattle.std.proofs.Common.{List, drop, length, ℕ, ◌≡◌}
use Rattle.desk.specs.declared.Session.{Session}
use Rattle.desk.specs.Standing.{standing}
use Rattle.desk.specs.Calls.{Reachable}
use Rattle.export.specs.Day.{turns_from}
use Rattle.export.proofs.Days.{turns}
use Rattle.export.proofs.day.present_all.Given as goal

-- the files before this one were presented, and the rest leads to the same end
pub record Progress (ends files answers₀ : List ℕ) (after₀ : Session) (answers : List ℕ) (after : Session) (from i : ℕ) : Type 0 where
  pub long : length answers ≡ length answers₀
  pub reached : Reachable after
  pub left : turns_from 0 0 ends files (turns (standing after₀) answers₀) ≡ turns_from i from (drop i ends) files (turns (standing after) answers)

abbrev pub invariant-loop-i : goal.invariant-loop-i
invariant-loop-i l = Progress l.ends l.files l.initial.answers l.initial.session l.answers l.session l.from l.i
