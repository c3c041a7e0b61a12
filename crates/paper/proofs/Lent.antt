-- Lent buffers and sessions: a refusal leaves them as 01 states; where building succeeds, stripping returns the tray.
use Prim.Native.Nat.{ℕ, ◌≤◌, ◌%◌}
use native.Mathlib.Omega.{arith}
use mathlib.Core.Bool.{false, ◌&&◌}
use mathlib.Core.List.{[], List}
use mathlib.Core.Path.{◌≡◌, refl, sym, ap, ◌∙◌}
use lib.Dec.{eqb, leb, leb→le, le→leb, eqb→eq}
use lib.ListN.{length, take, drop, length-append, length-drop, length-replicate}
use lib.Seq.{take_at, drop_at}
use Rattle.paper.specs.declared.rules.Currency.{Currency}
use Rattle.paper.specs.declared.rules.Currency.TheVariants.{Pesos}
use Rattle.paper.specs.declared.rules.Rules.{Rules}
use Rattle.paper.specs.Answers.{Said, accepted, refused, and_then, require}
use Rattle.paper.specs.Reading.{length_good, reading}
use Rattle.paper.specs.Sessions.{Session, Reply, new_session, opening_answer, opened_with, opening, answer_to, session_after, presenting}
use Rattle.paper.specs.Writing.{blanks}
use Rattle.paper.specs.Extract.{extract}
use Rattle.paper.specs.Trays.{tray_records, tray_fault, build, strip}
use Rattle.paper.specs.Buffers.{Outcome, over, written, room_for, entity_given, extracting, stripping, tray_answer, built_as, built_if, buildable, building}
use Rattle.paper.proofs.Tests.{and_l, and_r}
use Rattle.paper.proofs.Refusals.{refused_not, both_accept, required, require_met}
use Rattle.paper.proofs.Round.{round_trip}

-- ---- refusals

written_refused : (a : Said) (new buffer : List ℕ) {n place : ℕ} → (written a new buffer).answer ≡ refused n place
    → (written a new buffer).buffer ≡ buffer
unfolding written
written_refused (refused m q) new buffer h = refl
written_refused accepted new buffer h = absurd (refused_not (sym h))

-- extracting and stripping: a refusal leaves the buffer
pub extracting_refused : (rules : Rules) (e : ℕ) (file buffer : List ℕ) {n place : ℕ} → (extracting rules e file buffer).answer ≡ refused n place
    → (extracting rules e file buffer).buffer ≡ buffer
unfolding extracting
extracting_refused rules e file buffer h = written_refused _ (extract rules.currency e file) buffer h

pub stripping_refused : (rules : Rules) (file buffer : List ℕ) {n place : ℕ} → (stripping rules file buffer).answer ≡ refused n place
    → (stripping rules file buffer).buffer ≡ buffer
unfolding stripping
stripping_refused rules file buffer h = written_refused _ (strip file) buffer h

-- opening: a refusal returns the session of 000101, pesos, empty roster
pub opening_refused : (date : ℕ) (currency : Currency) (entities : List ℕ) {n place : ℕ} → (opening date currency entities).answer ≡ refused n place
    → opening date currency entities ≡ record { answer = refused n place; session = new_session 101 Pesos [] }
unfolding opening opened_with
opening_refused date currency entities {n} {place} h = go (opening_answer date entities) h
  where
    go : (a : Said) → a ≡ refused n place
        → ◌≡◌ {A = Reply} (record { answer = a; session = opened_with a date currency entities }) (record { answer = refused n place; session = new_session 101 Pesos [] })
    go accepted e = absurd (refused_not (sym e))
    go (refused m q) e = λ i. record { answer = e i; session = new_session 101 Pesos [] }

-- presenting: a refusal leaves the session
pub presenting_refused : (s : Session) (file : List ℕ) {n place : ℕ} → (presenting s file).answer ≡ refused n place → (presenting s file).session ≡ s
unfolding presenting session_after
presenting_refused s file h = go (answer_to s file) h
  where
    go : (a : Said) {n place : ℕ} → a ≡ refused n place → session_after a s file ≡ s
    go (refused m q) e = refl
    go accepted e = absurd (refused_not (sym e))

-- the whole reply then: the refusal, and the session as it was
pub presenting_unchanged : (s : Session) (file : List ℕ) {n place : ℕ} → (presenting s file).answer ≡ refused n place
    → presenting s file ≡ record { answer = refused n place; session = s }
presenting_unchanged s file h = λ i. record { answer = h i; session = presenting_refused s file h i }

-- ---- the buffer keeps its length, and its rest stays

over_length : (new buffer : List ℕ) → length new ≤ length buffer → length (over new buffer) ≡ length buffer
unfolding over
over_length new buffer l = length-append new (drop (length new) buffer) ∙ omega (arith, length-drop (length new) buffer)

pub over_rest : (new buffer : List ℕ) → drop (length new) (over new buffer) ≡ drop (length new) buffer
unfolding over
over_rest new buffer = drop_at new (drop (length new) buffer) (length new) refl

room : (new buffer : List ℕ) → room_for new buffer ≡ accepted → length new ≤ length buffer
unfolding room_for
room new buffer h = leb→le (length new) (length buffer) (required (leb (length new) (length buffer)) 206 0 h)

written_length : (a : Said) (new buffer : List ℕ) → (a ≡ accepted → length new ≤ length buffer)
    → length (written a new buffer).buffer ≡ length buffer
unfolding written
written_length (refused n place) new buffer h = refl
written_length accepted new buffer h = over_length new buffer (h refl)

pub extracting_length : (rules : Rules) (e : ℕ) (file buffer : List ℕ) → length (extracting rules e file buffer).buffer ≡ length buffer
unfolding extracting
extracting_length rules e file buffer =
    let new : List ℕ = extract rules.currency e file in
    written_length _ new buffer (λ h. room new buffer (both_accept (reading rules file) (room_for new buffer) (both_accept (entity_given rules e) (and_then (reading rules file) (room_for new buffer)) h).1).1)

pub stripping_length : (rules : Rules) (file buffer : List ℕ) → length (stripping rules file buffer).buffer ≡ length buffer
unfolding stripping
stripping_length rules file buffer = written_length _ (strip file) buffer (λ h. room (strip file) buffer (both_accept (reading rules file) (room_for (strip file) buffer) h).1)

pub building_length : (rules : Rules) (header tray buffer : List ℕ) → length (building rules header tray buffer).buffer ≡ length buffer
unfolding building buildable built_if built_as written blanks
building_length rules header tray buffer = go (buildable header tray buffer) (reading rules file) refl
  where
    file : List ℕ
    file = build header tray

    fits : buildable header tray buffer ≡ accepted → length file ≤ length buffer
    fits e =
        let later : Said = and_then (require (length_good (length file)) 201 0) (room_for file buffer) in
        room file buffer (both_accept (require (length_good (length file)) 201 0) (room_for file buffer) (both_accept (tray_answer header tray) later e).1).1

    by_reading : (b : Said) → length file ≤ length buffer → length (built_as b file buffer).buffer ≡ length buffer
    by_reading accepted l = over_length file buffer l
    by_reading (refused n place) l = over_length (blanks (length file)) buffer (omega (arith, length-replicate {A = ℕ} (length file) 32))

    go : (a b : Said) → buildable header tray buffer ≡ a → length (built_if a rules file buffer).buffer ≡ length buffer
    go (refused n place) b e = refl
    go accepted b e = by_reading (reading rules file) (fits e)

-- ---- building

-- refused by them, the buffer stays
pub building_stays : (rules : Rules) (header tray buffer : List ℕ) {n place : ℕ} → buildable header tray buffer ≡ refused n place
    → building rules header tray buffer ≡ record { answer = refused n place; size = 0; buffer = buffer }
unfolding building built_if written
building_stays rules header tray buffer h = rw h refl

-- a file that would be too long is 201, also where there is no room for it: 201 goes before 206
pub building_too_long : (rules : Rules) (header tray buffer : List ℕ) → tray_answer header tray ≡ accepted → length_good (length (build header tray)) ≡ false
    → building rules header tray buffer ≡ record { answer = refused 201 0; size = 0; buffer = buffer }
unfolding buildable and_then require
building_too_long rules header tray buffer t l = building_stays rules header tray buffer (rw (t, l) refl)

-- refused by the reading, the bytes that the built file would have taken are spaces
pub building_spaces : (rules : Rules) (header tray buffer : List ℕ) {n place : ℕ} → buildable header tray buffer ≡ accepted
    → reading rules (build header tray) ≡ refused n place
    → building rules header tray buffer ≡ record { answer = refused n place; size = 0; buffer = over (blanks (length (build header tray))) buffer }
unfolding building built_if built_as
building_spaces rules header tray buffer h r = rw (h, r) refl

pub record Built (rules : Rules) (header tray buffer : List ℕ) : Type 0 where
  pub good : tray_answer header tray ≡ accepted
  pub room : length (build header tray) ≤ length buffer
  pub reads : reading rules (build header tray) ≡ accepted
  pub final : building rules header tray buffer ≡ record { answer = accepted; size = length (build header tray); buffer = over (build header tray) buffer }

-- where building succeeds
pub built : (rules : Rules) (header tray buffer : List ℕ) → (building rules header tray buffer).answer ≡ accepted → Built rules header tray buffer
unfolding building buildable built_if built_as written room_for
built rules header tray buffer h = go (buildable header tray buffer) (reading rules file) refl refl h
  where
    file : List ℕ
    file = build header tray

    go : (a b : Said) → buildable header tray buffer ≡ a → reading rules file ≡ b → (built_if a rules file buffer).answer ≡ accepted
        → Built rules header tray buffer
    go (refused n place) b e r q = absurd (refused_not q)
    go accepted (refused n place) e r q = absurd (refused_not (rw r at q))
    go accepted accepted e r q =
        let x = both_accept (tray_answer header tray) (and_then (require (length_good (length file)) 201 0) (room_for file buffer)) e in
        let y = both_accept (require (length_good (length file)) 201 0) (room_for file buffer) x.1 in
        record {
          good = x.0;
          room = leb→le (length file) (length buffer) (required (leb (length file) (length buffer)) 206 0 y.1);
          reads = r;
          final = rw (e, r) refl;
        }

-- then stripping the file in that session, with room, returns the tray
pub strip_built : (rules : Rules) (header tray buffer other : List ℕ) → (building rules header tray buffer).answer ≡ accepted
    → length tray ≤ length other
    → stripping rules (build header tray) other ≡ record { answer = accepted; size = length tray; buffer = over tray other }
unfolding stripping written tray_answer and_then room_for
strip_built rules header tray buffer other h l =
    let b = built rules header tray buffer h in
    let x = both_accept (require (eqb (length header) 94 && eqb (length tray % 96) 0) 207 0) (tray_fault 0 (tray_records tray)) b.good in
    let t = required (eqb (length header) 94 && eqb (length tray % 96) 0) 207 0 x.0 in
    let e : strip (build header tray) ≡ tray =
    round_trip rules header tray (eqb→eq (length header) 94 (and_l (eqb (length header) 94) (eqb (length tray % 96) 0) t)) (eqb→eq (length tray % 96) 0 (and_r (eqb (length header) 94) (eqb (length tray % 96) 0) t)) x.1 b.reads in
    rw (b.reads, e, require_met (leb (length tray) (length other)) 206 0 (le→leb (length tray) (length other) l), and_then) refl

-- the built file stands at the front of the buffer
pub built_front : (rules : Rules) (header tray buffer : List ℕ) → (building rules header tray buffer).answer ≡ accepted
    → take (length (build header tray)) (building rules header tray buffer).buffer ≡ build header tray
unfolding over
built_front rules header tray buffer h =
    ap (λ (o : Outcome). take (length (build header tray)) o.buffer) (built rules header tray buffer h).final
    ∙ take_at (build header tray) (drop (length (build header tray)) buffer) (length (build header tray)) refl
