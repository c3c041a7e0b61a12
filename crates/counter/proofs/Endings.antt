-- How a program ends by an answer.
use mathlib.Core.Path.{◌≡◌, refl}
use Rattle.std.specs.Prelude.{Ok, Err, IsErr}
use Rattle.files.specs.declared.ending.Stopped.TheVariants.{Undone}
use Rattle.paper.specs.declared.answer.Refusal.{Refusal}
use Rattle.paper.specs.Answers.{Said, accepted, refused, refused_by}
use Rattle.counter.specs.Ending.{Ending, ended_by, Ends}

-- it goes on after acceptance alone
pub goes_on : (a : Said) → Ends (ended_by a) (Ok tt) → a ≡ accepted
unfolding ended_by
goes_on accepted h = refl
goes_on (refused n place) h = absurd (cc (h (λ (q : Ok tt ≡ Err Undone). cc)))

-- and not after a refusal
pub stops : (r : Refusal) (ended : Ending) → Ends (ended_by (refused_by r)) ended → IsErr ended
unfolding ended_by
stops r (Ok t) h = absurd (cc (h (λ (q : Ok t ≡ Err Undone). cc)))
stops r (Err stopped) h = refl
