-- The cases beyond the marked ones hold: each row is computed.
use mathlib.Core.Path.{refl}
use Rattle.paper.specs.Computing.{computing}
use Rattle.paper.specs.Claims.{good_from, All, done, ◌and◌}
use Rattle.paper.specs.Beyond.{beyond}

pub beyond_cases : All beyond
unfolding computing good_from
beyond_cases =
    refl and refl and refl and refl and  -- 13
    refl and refl and refl and refl and refl and refl and refl and refl and refl and  -- 14
    refl and refl and refl and refl and refl and  -- 15
    refl and refl and refl and refl and refl and refl and refl and refl and refl and  -- 16
    refl and refl and refl and refl and refl and refl and refl and refl and refl and refl and refl and refl and  -- 17
    refl and refl and refl and refl and refl and refl and  -- 17
    refl and refl and refl and refl and refl and refl and refl and refl and refl and refl and refl and refl and  -- 18
    refl and  -- 18
    refl and refl and refl and refl and refl and refl and refl and refl and refl and refl and refl and refl and  -- 19
    refl and refl and refl and refl and refl and refl and refl and refl and refl and  -- 19
    refl and refl and refl and refl and refl and refl and refl and refl and refl and refl and refl and refl and  -- 20
    refl and refl and refl and refl and refl and  -- 21
    refl and refl and refl and refl and refl and refl and refl and  -- 22
    refl and refl and refl and refl and refl and  -- 23
    refl and refl and refl and refl and refl and refl and refl and refl and refl and refl and refl and refl and  -- 24
    refl and refl and refl and refl and refl and refl and refl and refl and refl and  -- 51
    refl and refl and refl and refl and refl and refl and refl and  -- 51
    done
