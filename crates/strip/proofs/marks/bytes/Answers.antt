use Rattle.std.proofs.Common.{[], arith, length, refl, ◌*◌, ◌∷◌}
use Rattle.paper.specs.Trays.{marked}
use Rattle.field.proofs.Arms.{in_kinds}
use Rattle.strip.proofs.Becoming.{tray_bytes_lem}
use borrow.Enum.Refused.{opened}
use Rattle.strip.proofs.marks.bytes.Goals as goal

pub returns-in-BatchHeader : goal.returns-in-BatchHeader
unfolding marked
returns-in-BatchHeader c =
    let r = c.args.rec.now in
    (rw (tray_bytes_lem r c.told-rec, ← c.kind.ensures) (in_kinds 96 (λ k. length (marked k r) * 96) (1 ∷ 2 ∷ 3 ∷ []) (refl, (refl, (refl, tt))) c.kind.result c.in-BatchHeader.in-BatchHeader-own.keys1), omega arith)

pub returns-in_default : goal.returns-in_default
unfolding marked
returns-in_default c =
    let r = c.args.rec.now in
    (rw (tray_bytes_lem r c.told-rec, ← c.kind.ensures) (in_kinds 0 (λ k. length (marked k r) * 96) (0 ∷ 4 ∷ 5 ∷ 6 ∷ []) (refl, (refl, (refl, (refl, tt)))) c.kind.result (opened c.in_default.in_default-own.keys2)), omega arith)
