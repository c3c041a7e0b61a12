-- Every type in every place: each row is computed.
use mathlib.Core.Path.{refl}
use Rattle.paper.specs.Computing.{computing}
use Rattle.paper.specs.Claims.{All, done, ◌and◌}
use Rattle.cases.specs.Succession.{succession}

pub succession_cases : All succession
unfolding computing
succession_cases =
    refl and refl and refl and refl and refl and refl and refl and refl and refl and refl and refl and refl and  -- 33
    refl and refl and refl and refl and refl and refl and refl and refl and refl and refl and refl and refl and  -- 33
    refl and refl and refl and refl and refl and refl and refl and refl and refl and refl and refl and refl and  -- 33
    refl and refl and refl and refl and refl and refl and refl and refl and refl and  -- 33
    refl and refl and refl and refl and refl and refl and refl and  -- 34
    refl and refl and refl and  -- 35
    done
