-- What holds of receiving an extract at a member's desk: each hypothesis is what a call of receive, or of extract, says.
use Prim.Native.Nat.{ℕ}
use mathlib.Core.Bool.{false, ◌&&◌}
use mathlib.Core.List.{List}
use mathlib.Core.Logic.{◌↔◌}
use mathlib.Core.Path.{◌≡◌, refl, sym, ap, ap₂, ◌∙◌}
use lib.Dec.{T}
use lib.ListN.{get_or, take}
use Rattle.std.specs.Prelude.{Ok}
use Rattle.paper.specs.declared.answer.Fault.{Fault}
use Rattle.paper.specs.declared.rules.Rules.{Rules}
use Rattle.paper.specs.Answers.{Answer, Output, Said, accepted, refusal, number_of, said, and_then, require}
use Rattle.paper.specs.Fields.{within}
use Rattle.paper.specs.Records.{at_desk}
use Rattle.paper.specs.Reading.{reading_by}
use Rattle.paper.specs.Buffers.{entity_given}
use Rattle.paper.specs.Receiving.{receiving}
use Rattle.paper.specs.Demands.{StandsAt, Answered, FaultyBy}
use Rattle.paper.proofs.Tests.{and_l, and_r, of_T}
use Rattle.paper.proofs.Refusals.{both_accept, required}
use Rattle.paper.proofs.Numbers.{said_once, answered}
use Rattle.paper.proofs.Exactly.{accepted_by, refused_by}
use Rattle.received.proofs.Received.{extract_accepted}
use Rattle.desk.specs.declared.Session.{Session}
use Rattle.desk.specs.declared.Reply.{Reply}
use Rattle.desk.specs.Standing.{rules_of}
use Rattle.desk.specs.Lent.{handed}
use Rattle.desk.specs.Calls.{Presents, Receives, Extracts}
use Rattle.demands.specs.Receiving.{Receivable, ReceiveFaulty}
use Rattle.demands.proofs.RefusalPlaces.{receiving_stands}
use Rattle.demands.proofs.Extracts.{extract_exactly, extract_held}
use Rattle.demands.proofs.RoundTrips.{presented_rules}
use Rattle.demands.proofs.Naming.{unless}

-- an answer is this one exactly where what it says is what that says
pub said_as : (a b : Answer) {x : Said} → said a ≡ x → {P : Type 0} → (x ≡ said b) ↔ P → (a ≡ b) ↔ P
said_as a b h exactly = ((λ p. exactly.0 (sym h ∙ ap said p)), λ x. said_once a b (h ∙ exactly.1 x))

pub given : (s : Session) (e : ℕ) → T (within 1 499 e) → T (get_or s.rules.roster e false) → entity_given (rules_of s) e ≡ accepted
unfolding entity_given require
given s e w l = rw (of_T (within 1 499 e) w, of_T (get_or s.rules.roster e false) l) refl

module _ (s : Session) (e : ℕ) (file : List ℕ) where
  -- no 208, and the reading at the desk accepts
  pub receivable : ((entity_given (rules_of s) e ≡ accepted) × (reading_by (at_desk e (rules_of s)) file ≡ accepted)) ↔ Receivable s e file
  unfolding entity_given
  receivable = (
    λ x. let g = required (within 1 499 e && get_or s.rules.roster e false) 208 0 x.0 in
        record {
          entity = and_l (within 1 499 e) (get_or s.rules.roster e false) g;
          listed = and_r (within 1 499 e) (get_or s.rules.roster e false) g;
          accepts = (accepted_by (at_desk e (rules_of s)) file).0 x.1;
        },
    λ x. (given s e x.entity x.listed, (accepted_by (at_desk e (rules_of s)) file).1 x.accepts),
  )

  module _ (a : Answer) (h : Receives s e file a) where
    -- accepted exactly when E is 1 to 499 and on the roster, and the file is accepted at its desk
    -- (not so with a desk that takes another desk's extract, or one that takes what the house would)
    pub receive_exactly : (a ≡ Ok tt) ↔ Receivable s e file
    unfolding receiving and_then
    receive_exactly = said_as a (Ok tt) h (
      (λ p. receivable.0 (both_accept (entity_given (rules_of s) e) (reading_by (at_desk e (rules_of s)) file) p)),
      λ x. let y = receivable.1 x in rw y.0 y.1,
    )

    -- "208 as in extracting, first"; else the first fault that is found at the desk, by its number and its record
    -- (not so with a reading before 208, or with 204 for a foreign destination)
    pub receive_named : (fault : Fault) (place : ℕ) → (a ≡ refusal fault place) ↔ ReceiveFaulty s e file (number_of fault) place
    unfolding receiving entity_given
    receive_named fault place =
        said_as a (refusal fault place) h
        (unless (within 1 499 e && get_or s.rules.roster e false) 208 (FaultyBy (at_desk e (rules_of s)) file) _ (refused_by (at_desk e (rules_of s)) file))

    -- any input ends with acceptance, or a number of the table at its place
    pub receive_ends : Answered (StandsAt file) (said a)
    receive_ends = answered (StandsAt file) a h (receiving_stands s e file)

-- the answer depends on the extract, the entity and the session's date, currency and roster
-- (not so with a desk that asks which files were presented, or one that goes by a cell)
pub receive_depends : (s t : Session) → rules_of s ≡ rules_of t → (e : ℕ) (file : List ℕ) (a b : Answer) → Receives s e file a → Receives t e file b → a ≡ b
receive_depends s t same e file a b h k = said_once a b (h ∙ ap (λ (rules : Rules). receiving rules e file) same ∙ sym k)

-- one outcome only
pub receive_once : (s : Session) (e : ℕ) (file : List ℕ) (a b : Answer) → Receives s e file a → Receives s e file b → a ≡ b
receive_once s = receive_depends s s refl

-- ---- "Every extract must read as accepted in the session it was made in"

module _ (s : Session) (e : ℕ) (file before : List ℕ) (r : Output) (after : List ℕ) (h : Extracts s e file before r after) {n : ℕ} (p : r ≡ Ok n) where
  -- in that session, or in one of the same date, currency and roster
  -- (not so with the sender's batch numbers kept, or with a header that still names who presented the file)
  module _ (t : Session) (same : rules_of t ≡ rules_of s) where
    pub extract_received : (a : Answer) → Receives t e (handed r after) a → a ≡ Ok tt
    extract_received a k =
        let x = (extract_exactly s e file before r after h).1 n p in
        said_once a (Ok tt)
        (k
        ∙ ap₂ (λ (rules : Rules) (f : List ℕ). receiving rules e f) same (extract_held s e file before r after h p).0
        ∙ extract_accepted (rules_of s) e file (given s e x.entity x.listed) x.reads)

    -- out of the buffer too
    pub extract_received_there : (a : Answer) → Receives t e (take n after) a → a ≡ Ok tt
    unfolding handed
    extract_received_there a k = extract_received a (k ∙ ap (λ (x : Output). receiving (rules_of t) e (handed x after)) (sym p))

  -- such is the session that a presentation hands back
  pub extract_received_later : (other : List ℕ) (reply : Reply) → Presents s other reply → (a : Answer) → Receives reply.session e (handed r after) a → a ≡ Ok tt
  extract_received_later other reply q = extract_received reply.session (presented_rules s other reply q)
