use Rattle.std.proofs.Common.{refl, rules}
use Rattle.watch.proofs.Watching.{fresh}
use Rattle.files.specs.Sources.{Watched}
use Rattle.files.proofs.Parts.{named, metered}
use Rattle.files.proofs.taking.Source.open.Goals as goal

pub returns-in_err-file : goal.returns-in_err-file
returns-in_err-file g c =
    let n : Watched c.on-name.result c.args.path.now = named _ _ _ _ c.at.ensures c.on-name.ensures in search rules

pub returns-in_err-meter : goal.returns-in_err-meter
returns-in_err-meter g c =
    let n : Watched c.on-name.result c.args.path.now = named _ _ _ _ c.at.ensures c.on-name.ensures in search rules

pub returns : goal.returns
returns g c =
    record {
      name = named _ _ _ _ c.at.ensures c.on-name.ensures;
      descriptor = search rules;
      meter = metered c.in_ok-meter.meter _ (search rules) (search rules);
      total = refl;
      watch = fresh c.at-2.result _ c.at-2.ensures;
      ended = refl;
    }
