use Rattle.std.proofs.Common.{arith, ◌≡◌}
use Rattle.paper.specs.Answers.{accepted}
use Rattle.paper.specs.Buffers.{buildable}
use Rattle.paper.proofs.Chained.{chained}
use Rattle.building.proofs.Answering.{counted, to_build}
use Rattle.building.proofs.build.Goals as goal

pub write-requires : goal.write-requires
write-requires c =
    let a = c.args in
    let b : buildable a.header.now a.tray.now a.out.now ≡ accepted = grind (arith, chained, counted) in
    to_build a.header.now a.tray.now a.out.now b
