use Rattle.std.proofs.Common.{drop, ◌≡◌}
use Rattle.paper.specs.Trays.{tray_records, tray_fault}
use Rattle.tray.proofs.fault.Given as goal

abbrev pub invariant-loop-place : goal.invariant-loop-place
invariant-loop-place l = tray_fault 0 (tray_records l.tray) ≡ tray_fault l.place (drop l.place (tray_records l.tray))
