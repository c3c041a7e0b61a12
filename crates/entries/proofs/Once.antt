-- What is said of an individual record, and the numbers that a good one hands on, fix what its judge answers.
use Prim.Native.Nat.{ℕ}
use mathlib.Core.List.{List}
use mathlib.Core.Path.{◌≡◌, sym, ap, ◌∙◌}
use Rattle.std.proofs.Common.{Result, Ok, Err, IfOk}
use Rattle.paper.specs.declared.answer.Fault.{Fault}
use Rattle.paper.specs.Answers.{number_of}
use Rattle.paper.proofs.Exactly.{wrong_not_fine}
use Rattle.paper.proofs.Numbers.{own_number}
use Rattle.verdicts.specs.Verdicts.{check_of}
use Rattle.entries.specs.declared.individual.Entry.{Entry}
use Rattle.entries.specs.Judging.{entry_of}

pub judged_once : (r : List ℕ) (a b : Result Entry Fault) → check_of a ≡ check_of b → IfOk a (λ e. e ≡ entry_of r) → IfOk b (λ e. e ≡ entry_of r) → a ≡ b
unfolding check_of
judged_once r (Ok x) (Ok y) h p q = ap Ok (p ∙ sym q)
judged_once r (Ok x) (Err g) h p q = absurd (wrong_not_fine (sym h))
judged_once r (Err f) (Ok y) h p q = absurd (wrong_not_fine h)
judged_once r (Err f) (Err g) h p q = let e : number_of f ≡ number_of g = cc in ap Err (own_number f g e)
