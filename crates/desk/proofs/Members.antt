-- The answers of a member's desk.
use Prim.Native.Nat.{ℕ, ◌≤◌}
use mathlib.Core.List.{List}
use mathlib.Core.Path.{◌≡◌, refl, ◌∙◌}
use lib.ListN.{length}
use Rattle.std.proofs.Common.{Result, IsErr}
use Rattle.std.specs.Prelude.{IsErrAnd}
use Rattle.std.proofs.lemmas.Result.{err_from_is_err_and}
use Rattle.paper.specs.declared.answer.Refusal.{Refusal}
use Rattle.paper.specs.declared.rules.Rules.{Rules}
use Rattle.paper.specs.Answers.{Said, accepted, refused, number_of, and_then, require}
use Rattle.paper.specs.Records.{at_desk}
use Rattle.paper.specs.Reading.{reading_by}
use Rattle.paper.specs.Buffers.{entity_given}
use Rattle.paper.specs.Receiving.{motives_good, receiving, showable, explains_at, TextPlace, nowhere, text_at, Showing, shown_if, showing}
use Rattle.reasons.specs.declared.Shown.{Shown}
use Rattle.reasons.specs.Shown.{showing_of}
use Rattle.paper.proofs.Refusals.{both_accept}
use Rattle.paper.proofs.Accepted.{facts_by}

module _ (rules : Rules) (e : ℕ) (file : List ℕ) where
  module _ (motives : List ℕ) where
    -- receiving asks for the entity again
    pub asked : and_then (and_then (entity_given rules e) (require (motives_good motives) 207 0)) (receiving rules e file) ≡ showable rules e file motives
    unfolding showable receiving and_then
    asked = once (entity_given rules e) (require (motives_good motives) 207 0) (reading_by (at_desk e rules) file)
      where
        once : (a b c : Said) → and_then (and_then a b) (and_then a c) ≡ and_then a (and_then b c)
        once accepted b c = refl
        once (refused n place) b c = refl

    -- what may be shown was read, and is a file
    pub short : showable rules e file motives ≡ accepted → length file ≤ 940000
    unfolding showable
    short h =
        let later = (both_accept (entity_given rules e) (and_then (require (motives_good motives) 207 0) (reading_by (at_desk e rules) file)) h).1 in
        (facts_by (at_desk e rules) file (both_accept (require (motives_good motives) 207 0) (reading_by (at_desk e rules) file) later).1).short

    pub found : (place : ℕ) {r : Showing} → showable rules e file motives ≡ accepted
        → r ≡ shown_if (require (explains_at file place) 214 0) (text_at file place) → r ≡ showing rules e file motives place
    unfolding showing and_then
    found place h q = q ∙ rw h refl

-- what `?` hands back of a job that shows
pub stopped_shown : (x : Refusal) (r : Result Shown Refusal) → IsErr r × IsErrAnd r (λ y. y ≡ x)
    → showing_of r ≡ record { answer = refused (number_of x.fault) x.place; text = nowhere }
stopped_shown x r h = let p = err_from_is_err_and r h.1 in rw (p.1, p.2) refl

pub refused_shown : (n place : ℕ) (text : TextPlace) → shown_if (refused n place) text ≡ record { answer = refused n place; text = nowhere }
unfolding shown_if
refused_shown n place text = refl

-- what the check needs of it
pub ruleset shows = (short, stopped_shown, refused_shown)
