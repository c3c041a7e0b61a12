use Rattle.std.proofs.Common.{[], refl, ◌∷◌}
use Rattle.paper.specs.Fields.{bytes}
use Rattle.paper.specs.Writing.{joined}
use Rattle.paper.specs.Trays.{marked}
use Rattle.paper.specs.Buffers.{over}
use Rattle.field.proofs.Arms.{in_kinds}
use Rattle.strip.specs.Tray.{on_tray}
use Rattle.strip.proofs.Becoming.{mark_asked, mark_put}
use borrow.Enum.Refused.{opened}
use Rattle.strip.proofs.marks.marked.Goals as goal

pub put-requires : goal.put-requires
unfolding marked
put-requires c =
    mark_asked (bytes "LO") _ c.kind.ensures c.in-BatchHeader.is refl c.told-rec refl _ c.requires

pub put-requires-in-Individual : goal.put-requires-in-Individual
unfolding marked
put-requires-in-Individual c =
    mark_asked (bytes "IN") _ c.kind.ensures c.in-Individual.is refl c.told-rec refl _ c.requires

pub put-requires-in-Additional : goal.put-requires-in-Additional
unfolding marked
put-requires-in-Additional c =
    mark_asked (bytes "AD") _ c.kind.ensures c.in-Additional.is refl c.told-rec refl _ c.requires

pub returns-in-BatchHeader : goal.returns-in-BatchHeader
unfolding marked
returns-in-BatchHeader c =
    mark_put (bytes "LO") _ c.kind.ensures c.in-BatchHeader.is refl c.told-rec c.args.dst.now c.put.ensures

pub returns-in-Individual : goal.returns-in-Individual
unfolding marked
returns-in-Individual c =
    mark_put (bytes "IN") _ c.kind.ensures c.in-Individual.is refl c.told-rec c.args.dst.now c.put-in-Individual.ensures

pub returns-in-Additional : goal.returns-in-Additional
unfolding marked
returns-in-Additional c =
    mark_put (bytes "AD") _ c.kind.ensures c.in-Additional.is refl c.told-rec c.args.dst.now c.put-in-Additional.ensures

pub returns-in_default : goal.returns-in_default
unfolding marked on_tray joined over
returns-in_default c =
    let none = in_kinds [] (λ k. joined (marked k c.args.rec.now)) (0 ∷ 4 ∷ 5 ∷ 6 ∷ []) (refl, (refl, (refl, (refl, tt)))) c.kind.result (opened c.in_default.in_default-own.keys4) in
    rw (← c.kind.ensures, ← none) (refl, refl)
