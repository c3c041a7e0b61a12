-- How the program ends by an answer.
use Rattle.std.specs.Prelude.{◌≡◌, Result, Ok, Err}
use Rattle.paper.specs.Answers.{Said, accepted, refused}
use Rattle.files.specs.declared.ending.Stopped.{Stopped}
use Rattle.files.specs.declared.ending.Stopped.TheVariants.{Refused, Undone}

abbrev pub Ending : Type 0
Ending = Result (Unit {0}) Stopped

unfoldable pub ended_by : Said → Ending
ended_by accepted = Ok tt
ended_by (refused n place) = Err Refused

-- so, unless it could not be done
abbrev pub Ends : Ending → Ending → Type 0
Ends wanted r = (r ≡ Err Undone → ⊥) → r ≡ wanted
