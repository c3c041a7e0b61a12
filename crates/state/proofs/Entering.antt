-- What a batch counts of an individual record, by the numbers that its judge hands on.
use Prim.Native.Nat.{ℕ, ◌^◌, ◌<◌}
use mathlib.Core.Bool.{true, cond}
use mathlib.Core.List.{List}
use mathlib.Core.Path.{◌≡◌}
use native.Mathlib.Omega.{arith}
use lib.ListN.{length, length-take, length-drop}
use Rattle.paper.specs.declared.record.Tally.{Tally}
use Rattle.paper.specs.Controls.{with_individual}
use Rattle.paper.specs.Fields.{field}
use Rattle.paper.specs.Kinds.{known, collects, pays}
use Rattle.paper.specs.Records.{amount_of}
use Rattle.paper.proofs.Digits.{number_bound}
use Rattle.controls.proofs.Sides.{sides}
use Rattle.entries.specs.declared.individual.Entry.{Entry}
use Rattle.entries.specs.Judging.{entry_of}
use Rattle.state.specs.States.{with_entry}

module _ (r : List ℕ) (entry : Entry) (is : entry ≡ entry_of r) where
  pub entry_small : length r ≡ 94 → (entry.destination < 10 ^ 8) × (entry.amount < 10 ^ 10)
  unfolding entry_of amount_of
  entry_small l =
      rw is (
        number_bound 8 (field r 4 11) (simp (length-take, length-drop) (omega arith)),
        number_bound 10 (field r 30 39) (simp (length-take, length-drop) (omega arith)),
      )

  pub entered : known entry.code ≡ true → (tally : Tally) → with_entry tally entry ≡ with_individual tally r
  unfolding entry_of with_individual
  entered k tally =
      let side : cond (collects entry.code) 0 entry.amount ≡ cond (pays entry.code) entry.amount 0 = rw k at (sides entry.code entry.amount).1 in
      rw side (rw is)
