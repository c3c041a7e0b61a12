-- Where a refusal stands, job by job: at 0 where its number is tied to no record, else at a record of the file, one past the last only where the 9 is
-- missing; when building, 207 at 0 or at a record of the tray; when showing, 207 and 214 at 0.
use Prim.Native.Nat.{ℕ, ◌/◌, ◌<◌}
use native.Mathlib.Omega.{arith}
use mathlib.Core.Bool.{Bool, true, false, not, ◌&&◌}
use mathlib.Core.List.{List, ◌∷◌}
use mathlib.Core.Logic.{◌⊎◌, inl, inr, ⊎_elim}
use mathlib.Core.Path.{◌≡◌, refl, subst}
use lib.Dec.{T, eqb, leb, eqb→eq}
use lib.ListN.{length, get_or}
use Rattle.paper.specs.declared.rules.Currency.{Currency}
use Rattle.paper.specs.Answers.{Said, accepted, refused, and_then, require}
use Rattle.paper.specs.Fields.{among, within, every}
use Rattle.paper.specs.Dates.{is_date}
use Rattle.paper.specs.Records.{ReadingRules, at_desk}
use Rattle.paper.specs.Reading.{length_good, reading_by, reading}
use Rattle.paper.specs.Extract.{extract}
use Rattle.paper.specs.Trays.{build, strip}
use Rattle.paper.specs.Buffers.{room_for, entity_given, tray_answer, buildable}
use Rattle.paper.specs.Receiving.{receiving, motives_good, showable, explains_at}
use Rattle.paper.specs.Sessions as paper
use Rattle.paper.specs.Sessions.{opening, opening_answer, key_of, answer_to, presenting}
use Rattle.paper.specs.Demands.{untied, StandsIf, StandsAt, StandsAtNought, BuildStandsIf, BuildStandsAt}
use Rattle.paper.proofs.Tests.{T_of}
use Rattle.paper.proofs.ReadingNumbers.{record_numbers, number_by, reading_number}
use Rattle.paper.proofs.Stands.{not_in_both, stands_by, reading_stands, both_stand, required_stands}
use Rattle.desk.specs.declared.Session.{Session}
use Rattle.desk.specs.Standing.{rules_of}
use Rattle.demands.specs.Extracts.{answer_for}
use Rattle.demands.specs.Receiving.{ShowStandsAt}
use Rattle.demands.specs.Trays.{TrayBad, answer_to_build, answer_to_strip}
use Rattle.demands.proofs.TrayFaults.{tray_named}

required_at_nought : (b : Bool) (n : ℕ) → StandsAtNought (require b n 0)
unfolding require
required_at_nought true n = tt
required_at_nought false n = refl

pub opening_stands : (date : ℕ) (currency : Currency) (entities : List ℕ) → StandsAtNought (opening date currency entities).answer
unfolding opening opening_answer
opening_stands date currency entities =
    both_stand StandsAtNought (require (is_date date) 75 0) (require (every (within 1 499) entities) 208 0) tt
    (required_at_nought (is_date date) 75) (required_at_nought (every (within 1 499) entities) 208)

module _ (file : List ℕ) where
  pub presenting_stands : (s : paper.Session) → StandsAt file (presenting s file).answer
  unfolding presenting answer_to among
  presenting_stands s =
      both_stand (StandsAt file) (reading s.rules file) _ tt (reading_stands s.rules file) (required_stands file (not (get_or s.used (key_of file) false)) 209 refl)

  -- the reading's refusals, then the room's
  read_then_room : (s : Session) (new before : List ℕ) → StandsAt file (and_then (reading (rules_of s) file) (room_for new before))
  unfolding room_for among
  read_then_room s new before =
      both_stand (StandsAt file) (reading (rules_of s) file) _ tt (reading_stands (rules_of s) file) (required_stands file (leb (length new) (length before)) 206 refl)

-- E's 208, then what stands like the refusals of a file
given_then : (s : Session) (e : ℕ) (file : List ℕ) (rest : Said) → StandsAt file rest → StandsAt file (and_then (entity_given (rules_of s) e) rest)
unfolding entity_given among
given_then s e file rest h =
    both_stand (StandsAt file) (entity_given (rules_of s) e) rest tt (required_stands file (within 1 499 e && get_or s.rules.roster e false) 208 refl) h

pub extracting_stands : (s : Session) (e : ℕ) (file before : List ℕ) → StandsAt file (answer_for s e file before)
extracting_stands s e file before = given_then s e file _ (read_then_room file s (extract s.rules.currency e file) before)

pub receiving_stands : (s : Session) (e : ℕ) (file : List ℕ) → StandsAt file (receiving (rules_of s) e file)
unfolding receiving
receiving_stands s e file = given_then s e file _ (stands_by (at_desk e (rules_of s)) file)

pub stripping_stands : (s : Session) (file before : List ℕ) → StandsAt file (answer_to_strip s file before)
stripping_stands s file before = read_then_room file s (strip file) before

-- ---- showing

module _ (file : List ℕ) where
  -- 207 and 214 are no numbers of the reading
  read_shows : (rules : ReadingRules) → ShowStandsAt file (reading_by rules file)
  unfolding among every
  read_shows rules = go (reading_by rules file) refl (stands_by rules file)
    where
      tied : (n place : ℕ) → T (among record_numbers n) → (b c : Bool) → among untied n ≡ b → among (207 ∷ 214 ∷ untied) n ≡ c → StandsIf b file n place → StandsIf c file n place
      tied n place t b true p q x = absurd (not_in_both record_numbers (207 ∷ 214 ∷ untied) tt n t (T_of q))
      tied n place t true false p q x = absurd (not_in_both record_numbers untied tt n t (T_of p))
      tied n place t false false p q x = x

      go : (a : Said) → reading_by rules file ≡ a → StandsAt file a → ShowStandsAt file a
      go accepted e x = tt
      go (refused n place) e x =
          ⊎_elim (λ y. rw y.1 (subst (λ (m : ℕ). StandsIf (among untied m) file m place) y.1 x))
          (λ t. tied n place t (among untied n) (among (207 ∷ 214 ∷ untied) n) refl refl x)
          (number_by rules file e)

  required_shows : (b : Bool) (n : ℕ) → among (207 ∷ 214 ∷ untied) n ≡ true → ShowStandsAt file (require b n 0)
  unfolding require
  required_shows true n u = tt
  required_shows false n u = rw u refl

  module _ (s : Session) (e : ℕ) (motives : List ℕ) where
    pub asking_stands : ShowStandsAt file (showable (rules_of s) e file motives)
    unfolding showable entity_given among
    asking_stands =
        let stands : Said → Type 0 = ShowStandsAt file in
        both_stand stands (entity_given (rules_of s) e) _ tt
        (required_shows (within 1 499 e && get_or s.rules.roster e false) 208 refl)
        (both_stand stands (require (motives_good motives) 207 0) _ tt (required_shows (motives_good motives) 207 refl) (read_shows (at_desk e (rules_of s))))

    pub showing_stands : (place : ℕ) → ShowStandsAt file (and_then (showable (rules_of s) e file motives) (require (explains_at file place) 214 0))
    unfolding among
    showing_stands place =
        both_stand (ShowStandsAt file) (showable (rules_of s) e file motives) _ tt asking_stands (required_shows (explains_at file place) 214 refl)

-- ---- building

module _ (header tray : List ℕ) where
  tray_stands : BuildStandsAt header tray (tray_answer header tray)
  tray_stands = go (tray_answer header tray) refl
    where
      there : {place : ℕ} → TrayBad header tray place → (place ≡ 0) ⊎ (place < length tray / 96)
      there (inl x) = inl x.1
      there (inr x) = inr x.there

      go : (a : Said) → tray_answer header tray ≡ a → BuildStandsAt header tray a
      go accepted e = tt
      go (refused n place) e = let x = tray_named header tray e in rw x.0 (there x.1)

  -- the file that would be built is read, and no record of a file is 207
  read_stands : (s : Session) → BuildStandsAt header tray (reading (rules_of s) (build header tray))
  unfolding among
  read_stands s = go (reading (rules_of s) (build header tray)) refl
    where
      no-207 : {n : ℕ} → n ≡ 207 → {place : ℕ} → reading (rules_of s) (build header tray) ≡ refused n place → ⊥
      no-207 q h = ⊎_elim (λ x. omega (arith, x.1, q)) (λ t. subst (λ (m : ℕ). T (among record_numbers m)) q t) (reading_number (rules_of s) (build header tray) h)

      there : (n place : ℕ) → reading (rules_of s) (build header tray) ≡ refused n place → (b : Bool) → eqb n 207 ≡ b → BuildStandsIf b header tray n place
      there n place h true e = absurd (no-207 (eqb→eq n 207 (T_of e)) h)
      there n place h false e = subst (StandsAt (build header tray)) h (reading_stands (rules_of s) (build header tray))

      go : (a : Said) → reading (rules_of s) (build header tray) ≡ a → BuildStandsAt header tray a
      go accepted e = tt
      go (refused n place) e = there n place e (eqb n 207) refl

  pub building_stands : (s : Session) (before : List ℕ) → BuildStandsAt header tray (answer_to_build s header tray before)
  unfolding buildable room_for require among
  building_stands s before =
      let stands : Said → Type 0 = BuildStandsAt header tray in
      both_stand stands (buildable header tray before) (reading (rules_of s) (build header tray)) tt
      (both_stand stands (tray_answer header tray) _ tt tray_stands
      (both_stand stands (require (length_good (length (build header tray))) 201 0) _ tt
      (short (length_good (length (build header tray))) 201 refl refl)
      (short (leb (length (build header tray)) (length before)) 206 refl refl)))
      (read_stands s)
    where
      short : (b : Bool) (n : ℕ) → eqb n 207 ≡ false → among untied n ≡ true → BuildStandsAt header tray (require b n 0)
      short true n e u = tt
      short false n e u = rw (e, u) refl
