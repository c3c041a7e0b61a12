-- What a verdict says fixes it.
use mathlib.Core.Path.{◌≡◌, refl, sym, ap}
use Rattle.std.proofs.Common.{Result, Ok, Err}
use Rattle.paper.specs.declared.answer.Fault.{Fault}
use Rattle.paper.specs.Answers.{number_of}
use Rattle.paper.proofs.Exactly.{wrong_not_fine}
use Rattle.paper.proofs.Numbers.{own_number}
use Rattle.verdicts.specs.Verdicts.{check_of}

pub verdict_once : (a b : Result (Unit {0}) Fault) → check_of a ≡ check_of b → a ≡ b
unfolding check_of
verdict_once (Ok x) (Ok y) h = refl
verdict_once (Ok x) (Err g) h = absurd (wrong_not_fine (sym h))
verdict_once (Err f) (Ok y) h = absurd (wrong_not_fine h)
verdict_once (Err f) (Err g) h = let e : number_of f ≡ number_of g = cc in ap Err (own_number f g e)
