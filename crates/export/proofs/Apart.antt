-- A refused opening is told apart from every job's own answer, which accepts, or refuses at a record.
use Prim.Native.Nat.{ℕ, suc, ◌+◌, ◌/◌, ◌%◌, ◌≤◌, ◌<◌}
use mathlib.Core.Bool.{Bool, true, false, ◌&&◌}
use mathlib.Core.List.{List, [], ◌∷◌}
use mathlib.Core.Logic.{◌↔◌, inl, inr}
use mathlib.Core.Path.{◌≡◌, refl}
use native.Mathlib.Omega.{arith}
use lib.Dec.{leb, eqb}
use lib.ListN.{length, get_or}
use Rattle.paper.specs.declared.rules.Currency.{Currency}
use Rattle.paper.specs.declared.rules.Rules.{Rules}
use Rattle.paper.specs.Answers.{Said, accepted, refused, and_then, require}
use Rattle.paper.specs.Fields.{within, among, every}
use Rattle.paper.specs.Dates.{is_date}
use Rattle.paper.specs.Checks.{Check, fine, wrong}
use Rattle.paper.specs.Records.{ReadingRules, in_house, at_desk}
use Rattle.paper.specs.Reading.{at, length_good, reading_by, reading}
use Rattle.paper.specs.Extract.{extract}
use Rattle.paper.specs.Trays.{tray_records, tray_record_good, tray_fault, build, strip}
use Rattle.paper.specs.Buffers.{written, room_for, entity_given, extracting, stripping, tray_answer, built_as, built_if, buildable, building}
use Rattle.paper.specs.Receiving.{receiving, motives_good, showable, explains_at, TextPlace, text_at, shown_if, showing}
use Rattle.paper.specs.Listing.{currency_if}
use Rattle.paper.specs.Sessions.{Session, opening_answer, opening}
use Rattle.paper.specs.Demands.{untied, StandsIf, StandsAt}
use Rattle.paper.proofs.Tests.{T_of, and_l, within_range}
use Rattle.paper.proofs.Lists.{length_parts}
use Rattle.paper.proofs.Refusals.{refused_not}
use Rattle.paper.proofs.Stands.{both_stand, stands_by}
use Rattle.company.specs.Details.{detail}
use Rattle.company.specs.Files.{whole_details, details_of, closing_of, lo_good, details_fault, amounts_in, closing_good, closing_fault, company_answer, company_tray, company}
use Rattle.company.proofs.Sizes.{details_count}
use Rattle.export.specs.declared.Spoken.{Spoken}
use Rattle.export.specs.Spoken.{Delivered, OfOpening, opening_place, spoken_of, delivered_of, not_opened, after_opening, in_session, read_of}
use Rattle.export.specs.Day.{Day, day_of, day_listed}
use Rattle.export.specs.Member.{shown_of, receive_of, show_of, reasons_in, reasons_of}

-- ---- how far back a refusal stands

abbrev AtMost : ℕ → Said → Type 0
AtMost m accepted = Unit {0}
AtMost m (refused n place) = place ≤ m

required_at_most : (m : ℕ) (b : Bool) (n place : ℕ) → place ≤ m → AtMost m (require b n place)
unfolding require
required_at_most m true n place l = tt
required_at_most m false n place l = l

further : {m k : ℕ} (a : Said) → m ≤ k → AtMost m a → AtMost k a
further accepted l h = tt
further (refused n place) l h = omega arith

by_at_most : (rules : ReadingRules) (file : List ℕ) → AtMost 10000 (reading_by rules file)
unfolding length_good reading_by and_then require
by_at_most rules file = go (length_good (length file)) refl
  where
    there : (b : Bool) (n place : ℕ) → StandsIf b file n place → place ≤ length file / 94
    there true n place h = omega arith
    there false n place (inl l) = omega arith
    there false n place (inr p) = omega (arith, p.0)

    stands : (a : Said) → StandsAt file a → AtMost (length file / 94) a
    stands accepted h = tt
    stands (refused n place) h = there (among untied n) n place h

    go : (b : Bool) → length_good (length file) ≡ b → AtMost 10000 (reading_by rules file)
    go true e =
        let w = within_range 188 940000 (length file) (and_l (within 188 940000 (length file)) (eqb (length file % 94) 0) (T_of e)) in
        further (reading_by rules file) (omega (arith, w.1)) (stands (reading_by rules file) (stands_by rules file))
    go false e = rw e (omega arith)

reading_at_most : (rules : Rules) (file : List ℕ) → AtMost 10000 (reading rules file)
unfolding reading
reading_at_most rules file = by_at_most (in_house rules) file

written_at_most : (m : ℕ) (a : Said) (new buffer : List ℕ) → AtMost m a → AtMost m (written a new buffer).answer
unfolding written
written_at_most m accepted new buffer h = tt
written_at_most m (refused n place) new buffer h = h

shown_at_most : (m : ℕ) (a : Said) (text : TextPlace) → AtMost m a → AtMost m (shown_if a text).answer
unfolding shown_if
shown_at_most m accepted text h = tt
shown_at_most m (refused n place) text h = h

-- 208 first
given_at_most : (rules : Rules) (e : ℕ) (a : Said) → AtMost 10000 a → AtMost 10000 (and_then (entity_given rules e) a)
unfolding entity_given
given_at_most rules e a h =
    both_stand (AtMost 10000) (entity_given rules e) a tt (required_at_most 10000 (within 1 499 e && get_or rules.roster e false) 208 0 (omega arith)) h

-- then 207 and the reading at the desk
showable_at_most : (rules : Rules) (e : ℕ) (file motives : List ℕ) → AtMost 10000 (showable rules e file motives)
unfolding showable
showable_at_most rules e file motives =
    given_at_most rules e (and_then (require (motives_good motives) 207 0) (reading_by (at_desk e rules) file))
    (both_stand (AtMost 10000) (require (motives_good motives) 207 0) (reading_by (at_desk e rules) file) tt
    (required_at_most 10000 (motives_good motives) 207 0 (omega arith)) (by_at_most (at_desk e rules) file))

-- the reading's refusals, then 206
read_then_room : (rules : Rules) (file new buffer : List ℕ) → AtMost 10000 (and_then (reading rules file) (room_for new buffer))
unfolding room_for
read_then_room rules file new buffer =
    both_stand (AtMost 10000) (reading rules file) _ tt (reading_at_most rules file) (required_at_most 10000 (leb (length new) (length buffer)) 206 0 (omega arith))

tray_at_most : (place : ℕ) (ts : List (List ℕ)) → AtMost (place + length ts) (tray_fault place ts)
unfolding tray_fault
tray_at_most place [] = tt
tray_at_most place (t ∷ ts) =
    both_stand (AtMost (place + suc (length ts))) (require (tray_record_good t) 207 place) (tray_fault (place + 1) ts) tt
    (required_at_most _ (tray_record_good t) 207 place (omega arith))
    (further (tray_fault (place + 1) ts) (omega arith) (tray_at_most (place + 1) ts))

module _ (header tray buffer : List ℕ) where
  abbrev most : ℕ
  most = length tray / 96 + 10000

  buildable_at_most : AtMost most (buildable header tray buffer)
  unfolding buildable tray_answer tray_records room_for
  buildable_at_most =
      let file = build header tray in
      let records : length (tray_records tray) ≡ length tray / 96 = length_parts 96 (length tray / 96) tray in
      let marks = tray_fault 0 (tray_records tray) in
      both_stand (AtMost most) (tray_answer header tray) _ tt
      (both_stand (AtMost most) (require (eqb (length header) 94 && eqb (length tray % 96) 0) 207 0) marks tt
      (required_at_most most (eqb (length header) 94 && eqb (length tray % 96) 0) 207 0 (omega arith))
      (further marks (omega arith) (tray_at_most 0 (tray_records tray))))
      (both_stand (AtMost most) (require (length_good (length file)) 201 0) _ tt
      (required_at_most most (length_good (length file)) 201 0 (omega arith))
      (required_at_most most (leb (length file) (length buffer)) 206 0 (omega arith)))

  building_at_most : (rules : Rules) → AtMost most (building rules header tray buffer).answer
  unfolding building built_if built_as written
  building_at_most rules = go (buildable header tray buffer) buildable_at_most
    where
      file : List ℕ
      file = build header tray

      read : (a : Said) → AtMost most a → AtMost most (built_as a file buffer).answer
      read accepted h = tt
      read (refused n place) h = h

      go : (a : Said) → AtMost most a → AtMost most (built_if a rules file buffer).answer
      go accepted h = read (reading rules file) (further (reading rules file) (omega arith) (reading_at_most rules file))
      go (refused n place) h = h

checked_at_most : (m place : ℕ) (c : Check) → place ≤ m → AtMost m (at place c)
unfolding at
checked_at_most m place fine l = tt
checked_at_most m place (wrong n) l = l

details_at_most : (currency : Currency) (lo : List ℕ) (place : ℕ) (rs : List (List ℕ)) → AtMost (place + length rs) (details_fault currency lo place rs)
unfolding details_fault
details_at_most currency lo place [] = tt
details_at_most currency lo place (r ∷ rs) =
    both_stand (AtMost (place + suc (length rs))) (at place (detail currency lo r)) (details_fault currency lo (place + 1) rs) tt
    (checked_at_most _ place (detail currency lo r) (omega arith))
    (further (details_fault currency lo (place + 1) rs) (omega arith) (details_at_most currency lo (place + 1) rs))

company_at_most : (currency : Currency) (lo file buffer : List ℕ) → AtMost (length (details_of file)) (company currency lo file buffer).answer
unfolding company company_answer closing_fault room_for
company_at_most currency lo file buffer =
    let ds = details_of file in
    let new = company_tray currency lo file in
    let most = AtMost (length ds) in
    written_at_most (length ds) _ new buffer
    (both_stand most (company_answer currency lo file) _ tt
    (both_stand most (require (whole_details (length file)) 201 0) _ tt
    (required_at_most _ (whole_details (length file)) 201 0 (omega arith))
    (both_stand most (require (lo_good lo) 207 0) _ tt
    (required_at_most _ (lo_good lo) 207 0 (omega arith))
    (both_stand most (details_fault currency lo 0 ds) _ tt
    (further (details_fault currency lo 0 ds) (omega arith) (details_at_most currency lo 0 ds))
    (required_at_most _ (closing_good (length ds) (amounts_in ds) (closing_of file)) 17 (length ds) (omega arith)))))
    (required_at_most _ (leb (length new) (length buffer)) 206 0 (omega arith)))

-- ---- what a job says by itself is no opening's

own : (size m : ℕ) (a : Said) → AtMost m a → m < opening_place → OfOpening (spoken_of size a) → ⊥
unfolding spoken_of
own size m accepted h l o = omega (arith, o.0)
own size m (refused n place) h l o = omega (arith, o.1)

-- so where no session is opened, no caller is told of one; no file of 64 bits has as many records
pub company_apart : (currency : Currency) (lo file buffer : List ℕ) → length file ≤ opening_place
    → OfOpening (delivered_of (company currency lo file buffer)).spoken → ⊥
unfolding delivered_of
company_apart currency lo file buffer l =
    own _ (length (details_of file)) _ (company_at_most currency lo file buffer) (omega (arith, details_count file))

-- ---- the opening's answer

abbrev Numbered : Said → Type 0
Numbered accepted = Unit {0}
Numbered (refused n place) = 0 < n

required_numbered : (b : Bool) (n : ℕ) → 0 < n → Numbered (require b n 0)
unfolding require
required_numbered true n l = tt
required_numbered false n l = l

after : {Lent : Type 0} (a : Said) (lent : Lent) (done : Delivered Lent) → Numbered a → (OfOpening done.spoken → ⊥)
    → OfOpening (after_opening a lent done).spoken ↔ (a ≡ accepted → ⊥)
unfolding after_opening not_opened
after accepted lent done l h = ((λ o e. h o), (λ x. absurd (x refl)))
after (refused n place) lent done l h = ((λ o e. refused_not e), (λ x. (l, refl)))

module _ (date : ℕ) (dollars : Bool) (entities : List ℕ) where
  -- the answer says that the opening was refused exactly where it was
  abbrev pub Tells : Spoken → Type 0
  Tells s = OfOpening s ↔ ((opening date (currency_if dollars) entities).answer ≡ accepted → ⊥)

  told_apart : {Lent : Type 0} (lent : Lent) (job : Session → Delivered Lent) → ((session : Session) → OfOpening (job session).spoken → ⊥)
      → Tells (in_session date dollars entities lent job).spoken
  unfolding in_session opening opening_answer
  told_apart lent job h =
      let opened = opening date (currency_if dollars) entities in
      after opened.answer lent (job opened.session)
      (both_stand Numbered (require (is_date date) 75 0) (require (every (within 1 499) entities) 208 0) tt
      (required_numbered (is_date date) 75 (omega arith))
      (required_numbered (every (within 1 499) entities) 208 (omega arith)))
      (h opened.session)

  pub reading_apart : (file : List ℕ) → Tells (read_of date dollars entities file).spoken
  unfolding read_of
  reading_apart file = told_apart _ _ (λ s. own _ 10000 (reading s.rules file) (reading_at_most s.rules file) (omega arith))

  pub day_apart : (ends files : List ℕ) (lent : Day) → Tells (day_of date dollars entities ends files lent).spoken
  unfolding day_of
  day_apart ends files lent = told_apart _ _ (λ s. own 0 0 accepted tt (omega arith))

  pub listing_apart : (ends files buffer : List ℕ) → Tells (day_listed date dollars entities ends files buffer).spoken
  unfolding day_listed delivered_of written
  listing_apart ends files buffer = told_apart _ _ (λ s. own _ 0 accepted tt (omega arith))

  pub extracting_apart : (e : ℕ) (file buffer : List ℕ)
      → Tells (in_session date dollars entities buffer (λ (s : Session). delivered_of (extracting s.rules e file buffer))).spoken
  unfolding delivered_of extracting
  extracting_apart e file buffer =
      told_apart buffer _
      (λ s. let new = extract s.rules.currency e file in
      own _ 10000 _ (written_at_most 10000 _ new buffer (given_at_most s.rules e _ (read_then_room s.rules file new buffer))) (omega arith))

  pub stripping_apart : (file buffer : List ℕ)
      → Tells (in_session date dollars entities buffer (λ (s : Session). delivered_of (stripping s.rules file buffer))).spoken
  unfolding delivered_of stripping
  stripping_apart file buffer =
      told_apart buffer _ (λ s. own _ 10000 _ (written_at_most 10000 _ (strip file) buffer (read_then_room s.rules file (strip file) buffer)) (omega arith))

  -- no tray of 64 bits has as many records
  pub building_apart : (header tray buffer : List ℕ) → length tray ≤ opening_place
      → Tells (in_session date dollars entities buffer (λ (s : Session). delivered_of (building s.rules header tray buffer))).spoken
  unfolding delivered_of
  building_apart header tray buffer l =
      told_apart buffer _ (λ s. own _ _ _ (building_at_most header tray buffer s.rules) (omega arith))

  pub receiving_apart : (e : ℕ) (file : List ℕ) → Tells (receive_of date dollars entities e file).spoken
  unfolding receive_of receiving
  receiving_apart e file = told_apart _ _ (λ s. own _ 10000 _ (given_at_most s.rules e _ (by_at_most (at_desk e s.rules) file)) (omega arith))

  pub showing_apart : (e : ℕ) (file motives : List ℕ) (place : ℕ) → Tells (show_of date dollars entities e file motives place).spoken
  unfolding show_of shown_of showing
  showing_apart e file motives place =
      told_apart _ _
      (λ s. own _ 10000 _
      (shown_at_most 10000 _ (text_at file place)
      (both_stand (AtMost 10000) (showable s.rules e file motives) _ tt
      (showable_at_most s.rules e file motives)
      (required_at_most 10000 (explains_at file place) 214 0 (omega arith))))
      (omega arith))

  pub reasons_apart : (e : ℕ) (file motives texts : List ℕ) → Tells (reasons_of date dollars entities e file motives texts).spoken
  unfolding reasons_of reasons_in
  reasons_apart e file motives texts = told_apart _ _ (λ s. own _ 10000 _ (showable_at_most s.rules e file motives) (omega arith))
