-- What a member's desk may show was read, and is a file.
use Prim.Native.Nat.{ℕ, ◌≤◌}
use mathlib.Core.List.{List}
use mathlib.Core.Path.{sym, ap, ◌∙◌}
use lib.ListN.{length}
use Rattle.std.specs.Prelude.{Result, Ok, Err}
use Rattle.std.specs.Result.{result_and}
use Rattle.paper.specs.declared.answer.Refusal.{Refusal}
use Rattle.paper.specs.Answers.{Answer, said, refused_by, and_then, require}
use Rattle.paper.specs.Receiving.{showable, explains_at, text_at, Showing, showing}
use Rattle.paper.proofs.Refusals.{both_accept}
use Rattle.reasons.specs.declared.Shown.{Shown}
use Rattle.reasons.proofs.Parts.{shown_answer}
use Rattle.desk.specs.declared.Session.{Session}
use Rattle.desk.specs.Standing.{rules_of}
use Rattle.desk.specs.Calls.{Asks, Shows}
use Rattle.desk.proofs.Members.{short}
use Rattle.counter.specs.Ending.{ended_by, Ends}
use Rattle.counter.proofs.Endings.{goes_on}

module _ (s : Session) (e : ℕ) (file motives : List ℕ) where
  pub asked : (a : Answer) → Asks s e file motives a → Ends (ended_by (said a)) (Ok tt) → length file ≤ 940000
  asked a h k = short (rules_of s) e file motives (sym h ∙ goes_on (said a) k)

  pub shown : (place : ℕ) (r : Result Shown Refusal) → Shows s e file motives place r → Ends (ended_by (said {A = Unit {0}} (result_and r (Ok (tt {0}))))) (Ok tt) → length file ≤ 940000
  unfolding showing
  shown place (Err refusal) h k = absurd (cc (goes_on (refused_by refusal) k))
  shown place (Ok text) h k =
      let first = showable (rules_of s) e file motives in
      let then = require (explains_at file place) 214 0 in
      let answer = ap (λ (x : Showing). x.answer) h ∙ shown_answer (and_then first then) (text_at file place) in
      short (rules_of s) e file motives (both_accept first then (sym answer)).0
