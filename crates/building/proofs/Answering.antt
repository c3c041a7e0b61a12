-- The answers of building, put together from how many records are counted.
use Prim.Native.Nat.{ℕ, ◌+◌, ◌*◌, ◌/◌}
use mathlib.Core.List.{List}
use mathlib.Core.Path.{◌≡◌, refl, sym}
use lib.Dec.{leb}
use lib.ListN.{length}
use Rattle.paper.specs.Answers.{accepted, and_then, require}
use Rattle.paper.specs.Trays.{build}
use Rattle.paper.specs.Buffers.{over, written, tray_answer, buildable}
use Rattle.tray.specs.Trays.{bodies, batches_in}
use Rattle.building.specs.Numbering.{ToBuild}
use Rattle.building.proofs.Sizes.{buildable_as, built_fits}

module _ (header tray buffer : List ℕ) where
  -- 207, 201, 206
  pub counted : buildable header tray buffer
      ≡ and_then (tray_answer header tray)
      (and_then (require (leb (length tray / 96 + batches_in 0 (bodies tray) + 2) 10000) 201 0)
      (require (leb ((length tray / 96 + batches_in 0 (bodies tray) + 2) * 94) (length buffer)) 206 0))
  counted = sym (buildable_as header tray buffer)

  -- then there is room, and so much is written
  pub to_build : buildable header tray buffer ≡ accepted → ToBuild header tray buffer
  to_build b = let f = built_fits header tray buffer b in record { long = f.0; sound = f.1; short = f.2; room = f.3 }

  pub built_written : buildable header tray buffer ≡ accepted → written (buildable header tray buffer) (build header tray) buffer
      ≡ record { answer = accepted; size = (length tray / 96 + batches_in 0 (bodies tray) + 2) * 94; buffer = over (build header tray) buffer }
  unfolding written
  built_written b = rw (b, (built_fits header tray buffer b).4) refl

-- what the check needs of building
pub ruleset answering = (counted, built_written)
