use Rattle.std.proofs.Common.{ap, arith, length, refl, ◌-◌, ◌∙◌}
use borrow.Rule.Slice.PartMut.{put_mid}
use Rattle.paper.specs.Fields.{bytes}
use Rattle.paper.specs.Reading.{parts}
use Rattle.writing.proofs.Laying.{start, on, rest_laid, again, whole}
use Rattle.company.specs.Files.{orders_of, tray_of}
use Rattle.company.proofs.write.Goals as goal

pub returns : goal.returns
unfolding tray_of
returns c =
    let a = c.args in
    let first = on (on (start (omega arith)) (bytes "LO") c.text-body.ensures) a.lo.now c.text-first.ensures in
    let orders = orders_of a.currency a.lo.now (parts 250 a.details a.file.now) in
    let at = c.text-first.result in
    let out = c.text-first.new.out in
    (whole (on first orders (refl, ap (put_mid at (length out - at) out) c.orders.ensures ∙ rest_laid at orders out (again first).inside))).1
