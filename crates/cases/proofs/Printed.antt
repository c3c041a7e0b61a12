-- What is printed and held is so: each row is computed.
use mathlib.Core.Path.{refl}
use Rattle.paper.specs.Computing.{computing}
use Rattle.paper.specs.Claims.{All, done, ◌and◌}
use Rattle.cases.specs.Printed.{printed_rows}

pub printed_cases : All printed_rows
unfolding computing
printed_cases =
    refl and refl and refl and refl and refl and refl and refl and refl and refl and refl and  -- 36
    refl and  -- 37
    done
