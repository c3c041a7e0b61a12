-- The ends of every field hold: each row is computed.
use mathlib.Core.Path.{refl}
use Rattle.paper.specs.Computing.{computing}
use Rattle.paper.specs.Claims.{All, done, ◌and◌}
use Rattle.cases.specs.Ends.{ends}

pub end_cases : All ends
unfolding computing
end_cases =
    refl and refl and  -- 25
    refl and refl and refl and refl and refl and refl and refl and refl and refl and refl and refl and refl and  -- 26
    refl and refl and refl and refl and refl and refl and refl and refl and refl and refl and refl and refl and  -- 26
    refl and refl and refl and refl and  -- 26
    refl and refl and refl and refl and refl and refl and refl and refl and refl and refl and refl and refl and  -- 27
    refl and refl and refl and refl and refl and refl and refl and refl and refl and refl and refl and refl and  -- 27
    refl and refl and refl and refl and refl and refl and refl and refl and refl and refl and refl and refl and  -- 28
    refl and refl and refl and refl and refl and refl and refl and refl and refl and refl and refl and refl and  -- 28
    refl and refl and refl and refl and refl and  -- 28
    refl and refl and refl and refl and refl and refl and refl and refl and refl and refl and refl and refl and  -- 29
    refl and refl and refl and refl and refl and refl and refl and refl and  -- 29
    refl and refl and refl and refl and refl and refl and refl and refl and refl and refl and  -- 30
    refl and refl and refl and refl and refl and refl and refl and refl and refl and refl and refl and refl and  -- 31
    refl and refl and refl and refl and refl and refl and  -- 31
    refl and refl and refl and refl and refl and refl and refl and refl and refl and refl and refl and refl and  -- 32
    refl and refl and  -- 32
    done
