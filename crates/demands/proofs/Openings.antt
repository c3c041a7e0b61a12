-- What a refused opening hands back.
use Prim.Native.Nat.{ℕ}
use mathlib.Core.List.{List, []}
use mathlib.Core.Path.{◌≡◌, sym, ap, ◌∙◌}
use Rattle.paper.specs.declared.answer.Fault.{Fault}
use Rattle.paper.specs.declared.rules.Currency.{Currency}
use Rattle.paper.specs.declared.rules.Currency.TheVariants.{Pesos}
use Rattle.paper.specs.Answers.{refusal, said}
use Rattle.paper.specs.Sessions as paper
use Rattle.paper.specs.Sessions.{new_session}
use Rattle.paper.proofs.Lent.{opening_refused}
use Rattle.desk.specs.declared.Reply.{Reply}
use Rattle.desk.specs.Standing.{standing}
use Rattle.desk.specs.Calls.{Opens}

-- "A refused opening returns a session of 000101, pesos, empty roster": new, and the same whatever was asked for
pub refused_opening : (date : ℕ) (currency : Currency) (entities : List ℕ) (r : Reply) → Opens date currency entities r
    → {fault : Fault} {place : ℕ} → r.answer ≡ refusal fault place → standing r.session ≡ new_session 101 Pesos []
refused_opening date currency entities r h e =
    ap (λ (x : paper.Reply). x.session) (h ∙ opening_refused date currency entities (sym (ap (λ (x : paper.Reply). x.answer) h) ∙ ap said e))
