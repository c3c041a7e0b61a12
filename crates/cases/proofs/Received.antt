-- What a member's desk receives and shows: each row is computed.
use mathlib.Core.Path.{refl}
use Rattle.paper.specs.Computing.{computing}
use Rattle.paper.specs.Claims.{All, done, ◌and◌}
use Rattle.cases.specs.Received.{at_desks}

pub received_cases : All at_desks
unfolding computing
received_cases =
    refl and refl and refl and  -- 38
    refl and refl and refl and refl and refl and  -- 39
    refl and refl and refl and refl and refl and refl and refl and refl and  -- 40
    refl and refl and refl and  -- 41
    refl and refl and refl and refl and refl and refl and  -- 42
    refl and refl and refl and refl and refl and refl and refl and  -- 43
    refl and refl and refl and  -- 44
    refl and refl and refl and refl and refl and refl and refl and refl and refl and refl and refl and  -- 45
    refl and refl and refl and refl and refl and refl and  -- 46
    refl and refl and refl and refl and refl and refl and  -- 47
    refl and refl and refl and refl and refl and refl and refl and refl and  -- 48
    refl and refl and refl and refl and refl and refl and refl and  -- 49
    refl and refl and refl and refl and refl and refl and refl and refl and refl and refl and refl and refl and  -- 50
    refl and  -- 50
    done
