-- What holds of showing why a debit came back: each hypothesis is what a call of ask, of show or of `reasons::find` says.
use Prim.Native.Nat.{ℕ, ◌≤◌, ◌<◌, ◌/◌}
use mathlib.Core.Bool.{true, false, ◌&&◌}
use mathlib.Core.List.{List, []}
use mathlib.Core.Logic.{◌↔◌}
use mathlib.Core.Path.{◌≡◌, refl, sym, ap, ap₂, ◌∙◌, subst}
use lib.Dec.{T, eqb→eq}
use lib.ListN.{length, get_or}
use borrow.Author.Tests.{eq-eqb}
use Rattle.std.specs.Prelude.{Result, Ok, Err}
use Rattle.paper.specs.declared.answer.Fault.{Fault}
use Rattle.paper.specs.declared.answer.Fault.TheVariants.{Length}
use Rattle.paper.specs.declared.answer.Refusal.{Refusal}
use Rattle.paper.specs.declared.record.Kind.TheVariants.{Additional}
use Rattle.paper.specs.declared.rules.Rules.{Rules}
use Rattle.paper.specs.Answers.{Answer, Said, accepted, refusal, number_of, said, and_then, require}
use Rattle.paper.specs.Fields.{field, within, is}
use Rattle.paper.specs.Kinds.{kind_of}
use Rattle.paper.specs.Records.{at_desk}
use Rattle.paper.specs.Reading.{record_at, reading_by}
use Rattle.paper.specs.Buffers.{entity_given}
use Rattle.paper.specs.Receiving.{motives_good, showable, explains_at, TextPlace, nowhere, in_file, in_motives, text_at, text_in, Showing, shown_if, showing}
use Rattle.paper.specs.Demands.{Answered, FaultyBy}
use Rattle.paper.proofs.Tests.{of_T}
use Rattle.paper.proofs.Refusals.{both_accept, required, and_then_assoc}
use Rattle.paper.proofs.Numbers.{said_once, answered}
use Rattle.paper.proofs.Exactly.{refused_by}
use Rattle.received.proofs.Reasons.{explains_exactly, explains_number, line_number, text_own, text_listed, text_length}
use Rattle.reasons.specs.declared.Shown.{Shown}
use Rattle.reasons.specs.declared.Shown.TheVariants.{File, Motives}
use Rattle.reasons.specs.Shown.{showing_of}
use Rattle.reasons.proofs.Parts.{shown_answer}
use Rattle.desk.specs.declared.Session.{Session}
use Rattle.desk.specs.Standing.{rules_of}
use Rattle.desk.specs.Calls.{Receives, Asks, Shows}
use Rattle.desk.proofs.Members.{short, found}
use Rattle.demands.specs.Faults.{Unless}
use Rattle.demands.specs.Receiving.{Receivable, AskFaulty, FaultyOrNoReason, ShowFaulty, ShowStandsAt, ReasonGiven}
use Rattle.demands.proofs.RefusalPlaces.{asking_stands, showing_stands}
use Rattle.demands.proofs.Naming.{unless, read_then}
use Rattle.demands.proofs.Receiving.{said_as, receivable, receive_exactly}

-- ---- an answer of showing, and where its text stands

answer_of : Result Shown Refusal → Answer
answer_of (Ok shown) = Ok tt
answer_of (Err r) = Err r

answer_said : (r : Result Shown Refusal) → said (answer_of r) ≡ (showing_of r).answer
unfolding answer_of
answer_said (Ok shown) = refl
answer_said (Err r) = refl

-- acceptance with no text is none of them
telling : Answer → TextPlace → Result Shown Refusal
telling (Ok done) nowhere = refusal Length 0
telling (Ok done) (in_file at) = Ok (File at)
telling (Ok done) (in_motives at) = Ok (Motives at)
telling (Err r) text = Err r

telling_back : (r : Result Shown Refusal) → telling (answer_of r) (showing_of r).text ≡ r
unfolding answer_of telling
telling_back (Ok (File at)) = refl
telling_back (Ok (Motives at)) = refl
telling_back (Err r) = refl

-- what an answer says, with where the text stands, fixes it
pub shown_once : (r q : Result Shown Refusal) → showing_of r ≡ showing_of q → r ≡ q
shown_once r q h =
    sym (telling_back r)
    ∙ ap₂ telling (said_once (answer_of r) (answer_of q) (answer_said r ∙ ap (λ (x : Showing). x.answer) h ∙ sym (answer_said q))) (ap (λ (x : Showing). x.text) h)
    ∙ telling_back q

shown_refused : (r : Result Shown Refusal) (fault : Fault) (place : ℕ) → (r ≡ refusal fault place) ↔ (answer_of r ≡ refusal fault place)
unfolding answer_of telling
shown_refused r fault place = (ap answer_of, λ p. sym (telling_back r) ∙ ap (λ (a : Answer). telling a (showing_of r).text) p)

shown_text : (a : Said) (text : TextPlace) → a ≡ accepted → (shown_if a text).text ≡ text
unfolding shown_if
shown_text a text p = rw p refl

-- ---- before a record is asked for

module _ (s : Session) (e : ℕ) (file motives : List ℕ) where
  askable : (showable (rules_of s) e file motives ≡ accepted) ↔ (Receivable s e file × (length motives ≡ 4400))
  unfolding showable and_then require motives_good
  askable = (
    λ h. let x = both_accept (entity_given (rules_of s) e) _ h in
        let y = both_accept (require (motives_good motives) 207 0) (reading_by (at_desk e (rules_of s)) file) x.1 in
        ((receivable s e file).0 (x.0, y.1), eqb→eq (length motives) 4400 (required (motives_good motives) 207 0 y.0)),
    λ x. let y = (receivable s e file).1 x.0 in rw (y.0, eq-eqb (length motives) 4400 x.1) y.1,
  )

  module _ (a : Answer) (h : Asks s e file motives a) where
    -- accepted exactly when the file is received and the list has 4,400 bytes
    pub ask_exactly : (a ≡ Ok tt) ↔ (Receivable s e file × (length motives ≡ 4400))
    ask_exactly = said_as a (Ok tt) h askable

    -- else the first of 208, 207 and the reading's
    -- (not so with the list asked about after the reading, or before the entity)
    pub ask_named : (fault : Fault) (place : ℕ) → (a ≡ refusal fault place) ↔ AskFaulty s e file motives (number_of fault) place
    unfolding showable entity_given
    ask_named fault place =
        let faults : ℕ → ℕ → Type 0 = FaultyBy (at_desk e (rules_of s)) file in
        said_as a (refusal fault place) h
        (unless (within 1 499 e && get_or s.rules.roster e false) 208 (Unless (motives_good motives) 207 faults) _
        (unless (motives_good motives) 207 faults _ (refused_by (at_desk e (rules_of s)) file)))

    pub ask_ends : Answered (ShowStandsAt file) (said a)
    ask_ends = answered (ShowStandsAt file) a h (asking_stands file s e motives)

    pub ask_once : (b : Answer) → Asks s e file motives b → a ≡ b
    ask_once b k = said_once a b (h ∙ sym k)

  -- who has asked once may go over the records by `reasons::find`: its one premise is met, and what it finds is what showing says
  module _ (h : Asks s e file motives (Ok tt)) where
    pub asked_short : length file ≤ 940000
    asked_short = short (rules_of s) e file motives (sym h)

    pub asked_then_found : (place : ℕ) (r : Result Shown Refusal) → showing_of r ≡ shown_if (require (explains_at file place) 214 0) (text_at file place) → Shows s e file motives place r
    asked_then_found place r q = found (rules_of s) e file motives place (sym h) q

-- ---- the reason in the record at a place

module _ (s : Session) (e : ℕ) (file motives : List ℕ) (place : ℕ) where
  abbrev answer_to : Said
  answer_to = and_then (showable (rules_of s) e file motives) (require (explains_at file place) 214 0)

  in_turn : answer_to
      ≡ and_then (entity_given (rules_of s) e) (and_then (require (motives_good motives) 207 0) (and_then (reading_by (at_desk e (rules_of s)) file) (require (explains_at file place) 214 0)))
  unfolding showable
  in_turn = and_then_assoc (entity_given (rules_of s) e) _ _ ∙ ap (and_then (entity_given (rules_of s) e)) (and_then_assoc (require (motives_good motives) 207 0) _ _)

  all_asked : (answer_to ≡ accepted) ↔ (Receivable s e file × (length motives ≡ 4400) × (explains_at file place ≡ true))
  unfolding and_then require
  all_asked = (
    λ h. let x = both_accept (showable (rules_of s) e file motives) _ h in
        let y = (askable s e file motives).0 x.0 in
        (y.0, y.1, of_T (explains_at file place) (required (explains_at file place) 214 0 x.1)),
    λ x. rw ((askable s e file motives).1 (x.0, x.1), x.2) refl,
  )

  module _ (r : Result Shown Refusal) (h : Shows s e file motives place r) where
    says : showing_of r ≡ shown_if answer_to (text_at file place)
    unfolding showing
    says = h

    answers : (showing_of r).answer ≡ answer_to
    answers = ap (λ (x : Showing). x.answer) says ∙ shown_answer answer_to (text_at file place)

    -- a reason is shown exactly when the file is received, the list has 4,400 bytes and the record asked for explains a rejection
    -- (not so with a desk that shows what stands in 36-79 of any record, or one that takes a longer list)
    pub show_exactly : ((showing_of r).answer ≡ accepted) ↔ (Receivable s e file × (length motives ≡ 4400) × (explains_at file place ≡ true))
    show_exactly = ((λ p. all_asked.0 (sym answers ∙ p)), λ x. answers ∙ all_asked.1 x)

    -- else the first of 208, 207, the reading's and 214, by its number and its record
    -- (not so with 214 before the reading, or with 214 at the place asked for)
    pub show_named : (fault : Fault) (at : ℕ) → (r ≡ refusal fault at) ↔ ShowFaulty s e file motives place (number_of fault) at
    unfolding entity_given
    show_named fault at =
        let faults : ℕ → ℕ → Type 0 = FaultyOrNoReason (at_desk e (rules_of s)) file place in
        let exactly = unless (within 1 499 e && get_or s.rules.roster e false) 208 (Unless (motives_good motives) 207 faults) _
        (unless (motives_good motives) 207 faults _ (read_then (at_desk e (rules_of s)) file (explains_at file place) 214)) in
        let x = said_as (answer_of r) (refusal fault at) (answer_said r ∙ answers ∙ in_turn) exactly in
        let y = shown_refused r fault at in
        ((λ p. x.0 (y.0 p)), λ f. y.1 (x.1 f))

    -- any input ends with a text, or a number of the table at its place
    pub show_ends : Answered (ShowStandsAt file) (showing_of r).answer
    show_ends =
        subst (Answered (ShowStandsAt file)) (answer_said r) (answered (ShowStandsAt file) (answer_of r) (answer_said r ∙ answers) (showing_stands file s e motives place))

    -- "shows no bytes if refused"
    pub refused_shows_nothing : {fault : Fault} {at : ℕ} → r ≡ refusal fault at → text_in (showing_of r).text file motives ≡ []
    unfolding text_in
    refused_shows_nothing p = ap (λ (q : Result Shown Refusal). text_in (showing_of q).text file motives) p

    -- "the text in positions 36-79 of the additional record if it is not all blank, otherwise the 44-byte line for that R number": what Shown::text hands out
    -- (not so with the line of the next number, or with the trailing blanks cut off)
    pub reason_text : (showing_of r).answer ≡ accepted → ReasonGiven file motives place (text_in (showing_of r).text file motives)
    reason_text p =
        let x = show_exactly.0 p in
        let reads = ((receivable s e file).1 x.0).1 in
        let inside = ((explains_exactly (at_desk e (rules_of s)) file reads place).0 x.2).0 in
        let text : (showing_of r).text ≡ text_at file place = ap (λ (q : Showing). q.text) says ∙ shown_text answer_to (text_at file place) (sym answers ∙ p) in
        rw text (record {
          long = text_length file motives place inside x.1;
          own = text_own file motives place inside;
          numbered = ((explains_number (at_desk e (rules_of s)) file reads place x.2).1, line_number file motives place inside);
          listed = text_listed file motives place;
        })

  -- one outcome only
  pub show_once : (r q : Result Shown Refusal) → Shows s e file motives place r → Shows s e file motives place q → r ≡ q
  show_once r q h k = shown_once r q (h ∙ sym k)

  -- in what was received, each 7 with 99 in 2-3 has its reason, of 44 bytes
  -- (not so with 214 for the last record of a batch, or with a list that ends before R99)
  pub each_reason : Receives s e file (Ok tt) → length motives ≡ 4400
      → place < length file / 94 → kind_of (record_at file place) ≡ Additional → T (is (field (record_at file place) 2 3) "99")
      → (r : Result Shown Refusal) → Shows s e file motives place r
      → ((showing_of r).answer ≡ accepted) × ReasonGiven file motives place (text_in (showing_of r).text file motives)
  each_reason received lines inside seven form r h =
      let x = (receive_exactly s e file (Ok tt) received).0 refl in
      let reads = ((receivable s e file).1 x).1 in
      let shown = (show_exactly r h).1 (x, lines, (explains_exactly (at_desk e (rules_of s)) file reads place).1 (inside, seven, form)) in
      (shown, reason_text r h shown)

-- what is shown depends on the extract, the list, the place, the entity and the session's date, currency and roster
pub show_depends : (s t : Session) → rules_of s ≡ rules_of t → (e : ℕ) (file motives : List ℕ) (place : ℕ) (r q : Result Shown Refusal)
    → Shows s e file motives place r → Shows t e file motives place q → r ≡ q
show_depends s t same e file motives place r q h k = shown_once r q (h ∙ ap (λ (rules : Rules). showing rules e file motives place) same ∙ sym k)
