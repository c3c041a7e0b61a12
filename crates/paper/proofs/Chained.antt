-- Answers one after the other: the first refusal is what `?` hands back.
use Rattle.std.proofs.Common.{ℕ, true, false, List, length, IsErr, ◌≡◌, refl}
use Rattle.std.specs.Prelude.{IsErrAnd}
use Rattle.std.proofs.lemmas.Result.{err_from_is_err_and}
use Rattle.paper.specs.declared.answer.Refusal.{Refusal}
use Rattle.paper.specs.Answers.{Answer, Output, Said, accepted, refused, number_of, said, and_then, require}
use Rattle.paper.specs.Buffers.{told, over, written}

pub accepted_then : (next : Said) → and_then accepted next ≡ next
unfolding and_then
accepted_then next = refl

pub refused_then : (n place : ℕ) (next : Said) → and_then (refused n place) next ≡ refused n place
unfolding and_then
refused_then n place next = refl

pub require_true : (n place : ℕ) → require true n place ≡ accepted
unfolding require
require_true n place = refl

pub require_false : (n place : ℕ) → require false n place ≡ refused n place
unfolding require
require_false n place = refl

-- what `?` hands back at a refusal, of a job that answers nothing, and of one that writes
pub stopped_said : (e : Refusal) (r : Answer) → IsErr r × IsErrAnd r (λ y. y ≡ e) → said r ≡ refused (number_of e.fault) e.place
stopped_said e r h = let p = err_from_is_err_and r h.1 in rw (p.1, p.2) refl

pub stopped_told : (e : Refusal) (r : Output) (buffer : List ℕ) → IsErr r × IsErrAnd r (λ y. y ≡ e)
    → told r buffer ≡ record { answer = refused (number_of e.fault) e.place; size = 0; buffer = buffer }
stopped_told e r buffer h = let p = err_from_is_err_and r h.1 in rw (p.1, p.2) refl

pub written_refused : (n place : ℕ) (new buffer : List ℕ) → written (refused n place) new buffer ≡ record { answer = refused n place; size = 0; buffer = buffer }
unfolding written
written_refused n place new buffer = refl

pub written_accepted : (new buffer : List ℕ) → written accepted new buffer ≡ record { answer = accepted; size = length new; buffer = over new buffer }
unfolding written
written_accepted new buffer = refl

-- what the check needs of such answers
pub ruleset chained = (accepted_then, refused_then, require_true, require_false, stopped_said, stopped_told, written_refused, written_accepted)
