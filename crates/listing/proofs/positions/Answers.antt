use Rattle.std.proofs.Common.{◌∙◌}
use Rattle.listing.proofs.Printing.{retold, at_start, as_listing, as_refusal, as_printed}
use Rattle.listing.proofs.positions.Goals as goal

pub returns-in-Ok : goal.returns-in-Ok
returns-in-Ok c =
    let d = c.date.ensures in
    let k = c.currency.ensures in
    let e = c.everybody-everybody.ensures in
    let o = c.open-opened in
    retold c.args.out.now (as_listing _ _ c.in-Ok.is ∙ as_printed _ c.if-input-gt-INPUT.false d k e o.result _ o.ensures.0 c.present.ensures.0) c.print.ensures

pub returns-in-Err : goal.returns-in-Err
returns-in-Err c =
    let d = c.date.ensures in
    let k = c.currency.ensures in
    let e = c.everybody-everybody.ensures in
    let o = c.open-opened in
    at_start c.args.out.now (as_refusal _ _ c.in-Err.is ∙ as_printed _ c.if-input-gt-INPUT.false d k e o.result _ o.ensures.0 c.present.ensures.0)
    c.refusal-in-Err.ensures
