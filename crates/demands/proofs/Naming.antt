-- Which number a refused extracting, stripping or building answers, and at which record: exactly the first fault.
use Prim.Native.Nat.{ℕ}
use mathlib.Core.Bool.{Bool, false, ◌&&◌}
use mathlib.Core.List.{List}
use mathlib.Core.Logic.{◌↔◌, ◌⊎◌, inl, inr, ⊎_map}
use mathlib.Core.Path.{◌≡◌, refl, sym, ◌∙◌}
use lib.Dec.{leb}
use lib.ListN.{length, get_or}
use borrow.Author.Tests.{leb-false, lt-leb}
use Rattle.paper.specs.declared.answer.Fault.{Fault}
use Rattle.paper.specs.declared.rules.Rules.{Rules}
use Rattle.paper.specs.Answers.{Output, Said, accepted, refused, refusal, number_of, and_then, require}
use Rattle.paper.specs.Fields.{within}
use Rattle.paper.specs.Records.{ReadingRules, in_house}
use Rattle.paper.specs.Reading.{reading_by, reading}
use Rattle.paper.specs.Extract.{extract}
use Rattle.paper.specs.Trays.{build, strip}
use Rattle.paper.specs.Demands.{AcceptsBy, FaultyBy}
use Rattle.paper.specs.Buffers.{told, room_for, entity_given, tray_answer, buildable}
use Rattle.paper.proofs.Tests.{of_T}
use Rattle.paper.proofs.Refusals.{required, first_refusal, require_refused, both_accept}
use Rattle.paper.proofs.Numbers.{told_refused}
use Rattle.paper.proofs.Exactly.{accepted_by, refused_by, refused_exactly}
use Rattle.building.proofs.Sizes.{built_fits}
use Rattle.desk.specs.declared.Session.{Session}
use Rattle.desk.specs.Standing.{rules_of}
use Rattle.desk.specs.Calls.{Extracts, Builds, Strips}
use Rattle.demands.specs.Faults.{Unless, FaultyOrShort}
use Rattle.demands.specs.Extracts.{answer_for, ExtractFaulty}
use Rattle.demands.specs.Trays.{answer_to_build, NotBuildable, BuildFaulty, StripFaulty}
use Rattle.demands.proofs.TrayFaults.{bad_tray, too_long, no_room, refuses, taken}
use Rattle.demands.proofs.Extracts.{extract_answer}
use Rattle.demands.proofs.Building.{build_answer}
use Rattle.demands.proofs.Stripping.{strip_answer}

-- a job that writes refuses with a fault exactly where its answer, in the paper's words, is that refusal
refused_as : (r : Output) (after : List ℕ) {a : Said} → (told r after).answer ≡ a → (fault : Fault) (place : ℕ)
    → {P : Type 0} → (a ≡ refused (number_of fault) place) ↔ P → (r ≡ refusal fault place) ↔ P
refused_as r after h fault place exactly =
    let t = told_refused r after fault place in
    ((λ p. exactly.0 (sym h ∙ t.0 p)), λ x. t.1 (h ∙ exactly.1 x))

-- ---- answers in turn

-- a test asked first, and the faults that are asked for after it
pub unless : (test : Bool) (number : ℕ) (later : ℕ → ℕ → Type 0) (rest : Said) {n place : ℕ} → (rest ≡ refused n place) ↔ later n place
    → (and_then (require test number 0) rest ≡ refused n place) ↔ Unless test number later n place
unfolding and_then require
unless test number later rest {n} {place} exactly = ((λ h. there (first_refusal (require test number 0) rest h)), back)
  where
    there : (require test number 0 ≡ refused n place) ⊎ ((require test number 0 ≡ accepted) × (rest ≡ refused n place)) → Unless test number later n place
    there (inl x) = inl (require_refused test number 0 x)
    there (inr x) = inr (of_T test (required test number 0 x.0), exactly.0 x.1)

    back : Unless test number later n place → and_then (require test number 0) rest ≡ refused n place
    back (inl x) = rw (x.0, x.1, x.2) refl
    back (inr x) = rw x.0 (exactly.1 x.1)

-- the reading's refusals, by the house or at a desk, then a test's
pub read_then : (rules : ReadingRules) (file : List ℕ) (test : Bool) (number : ℕ) {n place : ℕ}
    → (and_then (reading_by rules file) (require test number 0) ≡ refused n place)
    ↔ (FaultyBy rules file n place ⊎ (AcceptsBy rules file × (test ≡ false) × (n ≡ number) × (place ≡ 0)))
unfolding and_then require
read_then rules file test number {n} {place} = ((λ h. there (first_refusal (reading_by rules file) (require test number 0) h)), back)
  where
    there : (reading_by rules file ≡ refused n place) ⊎ ((reading_by rules file ≡ accepted) × (require test number 0 ≡ refused n place))
        → FaultyBy rules file n place ⊎ (AcceptsBy rules file × (test ≡ false) × (n ≡ number) × (place ≡ 0))
    there (inl x) = inl ((refused_by rules file).0 x)
    there (inr x) = let q = require_refused test number 0 x.1 in inr ((accepted_by rules file).0 x.0, q.0, q.1, q.2)

    back : FaultyBy rules file n place ⊎ (AcceptsBy rules file × (test ≡ false) × (n ≡ number) × (place ≡ 0))
        → and_then (reading_by rules file) (require test number 0) ≡ refused n place
    back (inl x) = rw ((refused_by rules file).1 x) refl
    back (inr x) = rw ((accepted_by rules file).1 x.0, x.1, x.2, x.3) refl

-- the room
read_then_room : (rules : Rules) (file new before : List ℕ) {n place : ℕ}
    → (and_then (reading rules file) (room_for new before) ≡ refused n place) ↔ FaultyOrShort rules file new before n place
unfolding room_for reading
read_then_room rules file new before =
    let x = read_then (in_house rules) file (leb (length new) (length before)) 206 in (
      (λ h. ⊎_map (λ y. y) (λ y. (y.0, leb-false (length new) (length before) y.1, y.2, y.3)) (x.0 h)),
      λ f. x.1 (⊎_map (λ y. y) (λ y. (y.0, lt-leb (length new) (length before) y.1, y.2, y.3)) f),
    )

-- ---- extracting

module _ (s : Session) (e : ℕ) (file before : List ℕ) where
  faulty : {n place : ℕ} → (answer_for s e file before ≡ refused n place) ↔ ExtractFaulty s e file before n place
  unfolding entity_given
  faulty =
      let new : List ℕ = extract s.rules.currency e file in
      unless (within 1 499 e && get_or s.rules.roster e false) 208 (FaultyOrShort (rules_of s) file new before) _ (read_then_room (rules_of s) file new before)

  pub extract_named : (r : Output) (after : List ℕ) → Extracts s e file before r after → (fault : Fault) (place : ℕ)
      → (r ≡ refusal fault place) ↔ ExtractFaulty s e file before (number_of fault) place
  extract_named r after h fault place = refused_as r after (extract_answer s e file before r after h) fault place faulty

-- ---- stripping

pub strip_named : (s : Session) (file before : List ℕ) (r : Output) (after : List ℕ) → Strips s file before r after → (fault : Fault) (place : ℕ)
    → (r ≡ refusal fault place) ↔ StripFaulty s file before (number_of fault) place
strip_named s file before r after h fault place =
    refused_as r after (strip_answer s file before r after h) fault place (read_then_room (rules_of s) file (strip file) before)

-- ---- building

module _ (s : Session) (header tray before : List ℕ) where
  abbrev file : List ℕ
  file = build header tray

  not_built : {n place : ℕ} → NotBuildable header tray before n place → buildable header tray before ≡ refused n place
  not_built (inl x) = rw x.0 (bad_tray header tray before x.1)
  not_built (inr (inl x)) = rw (x.0, x.3) (too_long header tray before x.1 x.2)
  not_built (inr (inr x)) = rw (x.0, x.4) (no_room header tray before x.1 x.2 x.3)

  build_faulty : {n place : ℕ} → (answer_to_build s header tray before ≡ refused n place) ↔ BuildFaulty s header tray before n place
  unfolding buildable and_then
  build_faulty {n} {place} = ((λ h. there (first_refusal (buildable header tray before) (reading (rules_of s) file) h)), back)
    where
      there : (buildable header tray before ≡ refused n place) ⊎ ((buildable header tray before ≡ accepted) × (reading (rules_of s) file ≡ refused n place))
          → BuildFaulty s header tray before n place
      there (inl x) = inl (refuses header tray before x)
      there (inr x) =
          let f = built_fits header tray before x.0 in
          inr (tray_taken x.0, f.2, f.3, (refused_exactly (rules_of s) file).0 x.1)
        where
          tray_taken : buildable header tray before ≡ accepted → tray_answer header tray ≡ accepted
          tray_taken h = (both_accept (tray_answer header tray) _ h).0

      back : BuildFaulty s header tray before n place → answer_to_build s header tray before ≡ refused n place
      back (inl x) = rw (not_built x) refl
      back (inr x) = rw (taken header tray before x.0 x.1 x.2) ((refused_exactly (rules_of s) file).1 x.3)

  pub build_named : (r : Output) (after : List ℕ) → Builds s header tray before r after → (fault : Fault) (place : ℕ)
      → (r ≡ refusal fault place) ↔ BuildFaulty s header tray before (number_of fault) place
  build_named r after h fault place = refused_as r after (build_answer s header tray before r after h) fault place build_faulty
