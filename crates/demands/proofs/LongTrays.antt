-- A tray of more than 10,000 records: the answer is 207's, else 201, and the buffer stays. Neither the file, nor the reading, nor the buffer is looked
-- at, and 207's first bad record is found piece by piece: so a program that cannot hold such a tray may still answer it exactly as the desk does.
use Prim.Native.Nat.{ℕ, ◌%◌, ◌<◌}
use native.Mathlib.Omega.{arith}
use mathlib.Core.Bool.{◌&&◌}
use mathlib.Core.List.{List}
use mathlib.Core.Path.{◌≡◌, refl, ap, ◌∙◌}
use lib.Dec.{eqb}
use lib.ListN.{length}
use Rattle.std.specs.Prelude.{Ok, Err}
use Rattle.paper.specs.Answers.{Output, Said, accepted, refused, and_then, require}
use Rattle.paper.specs.Trays.{tray_records, tray_fault}
use Rattle.paper.specs.Buffers.{Outcome, told, tray_answer, buildable, building}
use Rattle.paper.proofs.Refusals.{and_then_assoc}
use Rattle.paper.proofs.Lent.{building_stays}
use Rattle.tray.proofs.Places.{sound_of}
use Rattle.building.proofs.Sizes.{build_length}
use Rattle.desk.specs.declared.Session.{Session}
use Rattle.desk.specs.Standing.{rules_of}
use Rattle.desk.specs.Calls.{Builds}
use Rattle.demands.proofs.TrayFaults.{too_long}

module _ (s : Session) (header tray before : List ℕ) (long : 960000 < length tray) where
  abbrev refusal : Said → Outcome
  refusal a = record { answer = and_then a (refused 201 0); size = 0; buffer = before }

  outcome : building (rules_of s) header tray before ≡ refusal (tray_answer header tray)
  unfolding buildable and_then
  outcome = go (tray_answer header tray) refl
    where
      go : (a : Said) → tray_answer header tray ≡ a → building (rules_of s) header tray before ≡ refusal a
      go (refused n place) e = building_stays (rules_of s) header tray before (rw e refl)
      go accepted e =
          let t = sound_of header tray e in
          building_stays (rules_of s) header tray before (too_long header tray before e (omega (arith, build_length header tray t.0 t.1.whole, t.1.whole)))

  -- 207's answer, else 201, whatever the session and the buffer: so it is that told by what is known after its pieces (`ByPieces.seen_told` of tray)
  pub long_built : (building (rules_of s) header tray before).answer ≡ and_then (tray_answer header tray) (refused 201 0)
  long_built = ap (λ (o : Outcome). o.answer) outcome

  module _ (r : Output) (after : List ℕ) (h : Builds s header tray before r after) where
    -- the lengths at 0, then the first bad record, else 201
    -- (not so with 201 for a long tray whatever is in it, or with 206 for want of room)
    pub long_answer_lem : (told r after).answer
        ≡ and_then (require (eqb (length header) 94 && eqb (length tray % 96) 0) 207 0) (and_then (tray_fault 0 (tray_records tray)) (refused 201 0))
    unfolding tray_answer
    long_answer_lem =
        ap (λ (o : Outcome). o.answer) h
        ∙ long_built
        ∙ and_then_assoc (require (eqb (length header) 94 && eqb (length tray % 96) 0) 207 0) (tray_fault 0 (tray_records tray)) (refused 201 0)

    -- (not so with a desk that writes the records as they come, or one that blanks the buffer)
    pub long_stays : after ≡ before
    long_stays = go r (h ∙ outcome)
      where
        go : (x : Output) → told x after ≡ refusal (tray_answer header tray) → after ≡ before
        go (Ok n) e = ap (λ (o : Outcome). o.buffer) e
        go (Err r) e = ap (λ (o : Outcome). o.buffer) e
