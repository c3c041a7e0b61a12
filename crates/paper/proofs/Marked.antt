-- The marked cases hold: each row is computed; case 3 computes the answer, and a refusal leaves the session.
use mathlib.Core.Path.{refl}
use Rattle.paper.specs.Computing.{computing}
use Rattle.paper.specs.Claims.{All, done, ◌and◌}
use Rattle.paper.specs.CaseL.{case_l}
use Rattle.paper.specs.Marked.{after_l, table}
use Rattle.paper.proofs.Lent.{presenting_unchanged}

pub marked_cases : All table
unfolding computing
marked_cases =
    refl and  -- 1
    refl and refl and refl and  -- 2
    presenting_unchanged after_l case_l refl and  -- 3
    refl and  -- 4
    refl and refl and  -- 5
    refl and  -- 6
    refl and refl and refl and refl and refl and refl and refl and  -- 7
    refl and refl and refl and refl and  -- 8
    refl and refl and refl and refl and refl and refl and refl and refl and refl and  -- 9
    refl and  -- 10
    refl and  -- 11
    refl and  -- 12
    done
