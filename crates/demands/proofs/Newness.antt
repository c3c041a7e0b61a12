-- When a presentation is accepted, and why it is refused: the reading's faults, then 209.
use Prim.Native.Nat.{ℕ}
use mathlib.Core.Bool.{Bool, true, false, not}
use mathlib.Core.List.{List}
use mathlib.Core.Logic.{◌↔◌, ◌⊎◌, inl, inr}
use mathlib.Core.Path.{◌≡◌, refl, sym, ap, ◌∙◌}
use Rattle.std.specs.Prelude.{Ok}
use Rattle.paper.specs.declared.answer.Fault.{Fault}
use Rattle.paper.specs.declared.answer.Fault.TheVariants.{Identifier}
use Rattle.paper.specs.Answers.{accepted, refused, refusal, number_of, said, and_then, require}
use Rattle.paper.specs.Fields.{among}
use Rattle.paper.specs.Reading.{reading}
use Rattle.paper.specs.Sessions as paper
use Rattle.paper.specs.Sessions.{origin_of, identifier_of}
use Rattle.paper.specs.Demands.{Accepts, Faulty, identifiers_from}
use Rattle.paper.proofs.Refusals.{both_accept, required, first_refusal, require_refused}
use Rattle.paper.proofs.Numbers.{own_number, said_once}
use Rattle.paper.proofs.Exactly.{accepted_exactly, refused_exactly}
use Rattle.paper.proofs.Identifiers as identifiers
use Rattle.desk.specs.declared.Session.{Session}
use Rattle.desk.specs.declared.Reply.{Reply}
use Rattle.desk.specs.Standing.{rules_of}
use Rattle.desk.specs.Calls.{Presents, Came}
use Rattle.desk.proofs.Calls.{in_paper}

not_not : (b : Bool) → not b ≡ false → b ≡ true
not_not true h = refl
not_not false h = sym h

module _ {s : Session} {files : List (List ℕ)} (came : Came s files) (file : List ℕ) (r : Reply) (h : Presents s file r) where
  abbrev used : Bool
  used = among (identifiers_from (origin_of file) files) (identifier_of file)

  answers : said r.answer ≡ and_then (reading (rules_of s) file) (require (not used) 209 0)
  answers = ap (λ (x : paper.Reply). x.answer) h ∙ identifiers.presenting_exactly (in_paper came) file

  pub taken_when : (r.answer ≡ Ok tt) ↔ (Accepts (rules_of s) file × (used ≡ false))
  unfolding and_then require
  taken_when = (there, λ x. said_once r.answer (Ok tt) (answers ∙ rw ((accepted_exactly (rules_of s) file).1 x.0, x.1) refl))
    where
      new : (b : Bool) → require (not b) 209 0 ≡ accepted → b ≡ false
      new true e = absurd (required false 209 0 e)
      new false e = refl

      there : r.answer ≡ Ok tt → Accepts (rules_of s) file × (used ≡ false)
      there p =
          let x = both_accept (reading (rules_of s) file) (require (not used) 209 0) (sym answers ∙ ap said p) in
          ((accepted_exactly (rules_of s) file).0 x.0, new used x.1)

  pub refused_when : (fault : Fault) (place : ℕ) → (r.answer ≡ refusal fault place)
      ↔ (Faulty (rules_of s) file (number_of fault) place ⊎ (Accepts (rules_of s) file × (used ≡ true) × (fault ≡ Identifier) × (place ≡ 0)))
  unfolding and_then require
  refused_when fault place = (there, back)
    where
      after : (reading (rules_of s) file ≡ refused (number_of fault) place)
          ⊎ ((reading (rules_of s) file ≡ accepted) × (require (not used) 209 0 ≡ refused (number_of fault) place))
          → Faulty (rules_of s) file (number_of fault) place ⊎ (Accepts (rules_of s) file × (used ≡ true) × (fault ≡ Identifier) × (place ≡ 0))
      after (inl x) = inl ((refused_exactly (rules_of s) file).0 x)
      after (inr x) =
          let q = require_refused (not used) 209 0 x.1 in
          inr ((accepted_exactly (rules_of s) file).0 x.0, not_not used q.0, own_number fault Identifier q.1, q.2)

      there : r.answer ≡ refusal fault place
          → Faulty (rules_of s) file (number_of fault) place ⊎ (Accepts (rules_of s) file × (used ≡ true) × (fault ≡ Identifier) × (place ≡ 0))
      there p = after (first_refusal (reading (rules_of s) file) (require (not used) 209 0) (sym answers ∙ ap said p))

      back : Faulty (rules_of s) file (number_of fault) place ⊎ (Accepts (rules_of s) file × (used ≡ true) × (fault ≡ Identifier) × (place ≡ 0))
          → r.answer ≡ refusal fault place
      back (inl x) = said_once r.answer (refusal fault place) (answers ∙ rw ((refused_exactly (rules_of s) file).1 x) refl)
      back (inr x) = said_once r.answer (refusal fault place) (answers ∙ rw ((accepted_exactly (rules_of s) file).1 x.0, x.1, x.2, x.3) refl)
