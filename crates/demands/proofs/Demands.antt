-- The three demands, sentence by sentence, in the customer's words. What is assumed of a call is what the contract of that function says of it
-- (`Opens`, `Reads`, `Presents`, `Holds`, `Extracts`, `Builds`, `Strips`); what is assumed of a session is that it came from opening and presenting
-- (`Came`, with the files accepted when presented).
use Prim.Native.Nat.{ℕ, ◌≤◌, ◌<◌}
use mathlib.Core.Bool.{true, false}
use mathlib.Core.List.{List}
use mathlib.Core.Logic.{◌↔◌, ◌⊎◌}
use mathlib.Core.Path.{◌≡◌, refl, sym, ap, ◌∙◌, subst, subst₂}
use lib.Dec.{T}
use lib.IntN.{pos}
use lib.ListN.{length, drop, get_or}
use Rattle.std.specs.Prelude.{Ok}
use Rattle.paper.specs.declared.answer.Fault.{Fault}
use Rattle.paper.specs.declared.answer.Fault.TheVariants.{Identifier}
use Rattle.paper.specs.declared.ledger.Cell.{Cell}
use Rattle.paper.specs.declared.rules.Currency.{Currency}
use Rattle.paper.specs.Answers.{Answer, Output, accepted, refused, refusal, number_of, said}
use Rattle.paper.specs.Fields.{field, among, within}
use Rattle.paper.specs.Reading.{reading}
use Rattle.paper.specs.Trays.{build}
use Rattle.paper.specs.Buffers.{told, buildable}
use Rattle.paper.specs.Sessions as paper
use Rattle.paper.specs.Sessions.{zero_cell, origin_of, identifier_of}
use Rattle.paper.specs.Demands.{StandsAt, StandsAtNought, BuildStandsAt, Answered, Accepts, Faulty, postings_of, Agrees, sum_to, all_records, naming, Equal, identifiers_from, SameTo}
use Rattle.paper.proofs.Tests.{of_T}
use Rattle.paper.proofs.Numbers.{said_once, answered, told_answered}
use Rattle.paper.proofs.Exactly.{accepted_exactly, refused_exactly}
use Rattle.paper.proofs.Stands.{reading_stands}
use Rattle.paper.proofs.Figures as figures
use Rattle.paper.proofs.Identifiers as identifiers
use Rattle.paper.proofs.Lent.{presenting_refused}
use Rattle.desk.specs.declared.Session.{Session}
use Rattle.desk.specs.declared.Reply.{Reply}
use Rattle.desk.specs.Standing.{rules_of, standing}
use Rattle.desk.specs.Calls.{Opens, Reads, Presents, Holds, HoldsAll, Came, Extracts, Builds, Strips}
use Rattle.desk.specs.Lent.{handed}
use Rattle.demands.specs.Extracts.{ExtractFaulty}
use Rattle.demands.specs.Trays.{BuildFaulty, Spaced, StripFaulty}
use Rattle.desk.proofs.Rosters.{below_500}
use Rattle.desk.proofs.Calls.{in_paper}
use Rattle.demands.proofs.Cells.{own_cell, all_cells, cells_sum, same_cells}
use Rattle.demands.proofs.Once.{session_once}
use Rattle.demands.proofs.RefusalPlaces.{opening_stands, presenting_stands, extracting_stands, building_stands, stripping_stands}
use Rattle.demands.proofs.Newness.{taken_when, refused_when}
use Rattle.demands.proofs.Extracts.{extract_answer, extract_refused}
use Rattle.demands.proofs.Extracts as extracts
use Rattle.demands.proofs.Building.{build_answer, build_refused}
use Rattle.demands.proofs.Stripping.{strip_answer, strip_refused}
use Rattle.demands.proofs.Naming.{extract_named, strip_named, build_named}
use Rattle.demands.proofs.RoundTrips.{built_then_stripped}

-- ---- demand 1

-- "Any input, of any length, ends with an answer: acceptance, or a refusal number of document 01 with the record it stands at": that a call ends is part of
-- each contract, and none asks anything of its input. A refusal is a number of the table, at 0 where the number is tied to no record, else at a record of the
-- file, and one past the last only where the 9 is missing. Which number and which record, exactly: `reading_names`, `presenting_names`, `extracting_names`,
-- `stripping_names` and `building_names` below.

pub opening_ends : (date : ℕ) (currency : Currency) (entities : List ℕ) (r : Reply) → Opens date currency entities r → Answered StandsAtNought (said r.answer)
opening_ends date currency entities r h = answered StandsAtNought r.answer (ap (λ (x : paper.Reply). x.answer) h) (opening_stands date currency entities)

module _ (s : Session) (file : List ℕ) where
  pub reading_ends : (a : Answer) → Reads s file a → Answered (StandsAt file) (said a)
  reading_ends a h = answered (StandsAt file) a h (reading_stands (rules_of s) file)

  pub presenting_ends : (r : Reply) → Presents s file r → Answered (StandsAt file) (said r.answer)
  presenting_ends r h = answered (StandsAt file) r.answer (ap (λ (x : paper.Reply). x.answer) h) (presenting_stands file (standing s))

  pub extracting_ends : (e : ℕ) (before : List ℕ) (r : Output) (after : List ℕ) → Extracts s e file before r after
      → Answered (StandsAt file) (told r after).answer
  extracting_ends e before r after h = told_answered (StandsAt file) r after (extract_answer s e file before r after h) (extracting_stands s e file before)

  pub stripping_ends : (before : List ℕ) (r : Output) (after : List ℕ) → Strips s file before r after → Answered (StandsAt file) (told r after).answer
  stripping_ends before r after h = told_answered (StandsAt file) r after (strip_answer s file before r after h) (stripping_stands s file before)

-- 207 at 0 or at a record of the tray, all else as of the file that is built
pub building_ends : (s : Session) (header tray before : List ℕ) (r : Output) (after : List ℕ) → Builds s header tray before r after
    → Answered (BuildStandsAt header tray) (told r after).answer
building_ends s header tray before r after h =
    told_answered (BuildStandsAt header tray) r after (build_answer s header tray before r after h) (building_stands header tray s before)

-- "A refused file changes no position": the session handed back is the one that was handed over, to the last mark
pub refused_unchanged : (s : Session) (file : List ℕ) (r : Reply) → Presents s file r → {fault : Fault} {place : ℕ} → r.answer ≡ refusal fault place → r.session ≡ s
refused_unchanged s file r h e =
    session_once r.session s
    (ap (λ (x : paper.Reply). x.session) h
    ∙ presenting_refused (standing s) file (sym (ap (λ (x : paper.Reply). x.answer) h) ∙ ap said e))

-- "a lent buffer after a refusal holds what 01 states": what it held before
pub refused_extract_leaves : (s : Session) (e : ℕ) (file before : List ℕ) (r : Output) (after : List ℕ) → Extracts s e file before r after
    → {fault : Fault} {place : ℕ} → r ≡ refusal fault place → after ≡ before
refused_extract_leaves s e file before r after h = extract_refused s e file before r after h

pub refused_strip_leaves : (s : Session) (file before : List ℕ) (r : Output) (after : List ℕ) → Strips s file before r after
    → {fault : Fault} {place : ℕ} → r ≡ refusal fault place → after ≡ before
refused_strip_leaves s file before r after h = strip_refused s file before r after h

-- "except as said under building": 207, 201 and 206 leave it; where the reading refuses, the bytes that the built file would have taken are all spaces
pub refused_build_leaves : (s : Session) (header tray before : List ℕ) (r : Output) (after : List ℕ) → Builds s header tray before r after
    → {fault : Fault} {place : ℕ} → r ≡ refusal fault place
    → ((buildable header tray before ≡ refused (number_of fault) place) × (after ≡ before))
    ⊎ ((buildable header tray before ≡ accepted) × (reading (rules_of s) (build header tray) ≡ refused (number_of fault) place) × Spaced (build header tray) before after)
refused_build_leaves s header tray before r after h = build_refused s header tray before r after h

-- ---- demand 2

module _ (s : Session) (file : List ℕ) where
  -- "Reading accepts a file exactly when 01 accepts it"
  pub reading_exactly : (a : Answer) → Reads s file a → (a ≡ Ok tt) ↔ Accepts (rules_of s) file
  reading_exactly a h = (
    λ p. (accepted_exactly (rules_of s) file).0 (sym h ∙ ap said p),
    λ x. said_once a (Ok tt) (h ∙ (accepted_exactly (rules_of s) file).1 x),
  )

  -- "else the first fault is named", by its number and its record
  pub reading_names : (a : Answer) → Reads s file a → (fault : Fault) (place : ℕ) → (a ≡ refusal fault place) ↔ Faulty (rules_of s) file (number_of fault) place
  reading_names a h fault place = (
    λ p. (refused_exactly (rules_of s) file).0 (sym h ∙ ap said p),
    λ x. said_once a (refusal fault place) (h ∙ (refused_exactly (rules_of s) file).1 x),
  )

  -- the same of the jobs that write: "208, then the reading's refusals, then 206"; "the reading's refusals, then 206"
  pub extracting_names : (e : ℕ) (before : List ℕ) (r : Output) (after : List ℕ) → Extracts s e file before r after → (fault : Fault) (place : ℕ)
      → (r ≡ refusal fault place) ↔ ExtractFaulty s e file before (number_of fault) place
  extracting_names e before r after h fault place = extract_named s e file before r after h fault place

  pub stripping_names : (before : List ℕ) (r : Output) (after : List ℕ) → Strips s file before r after → (fault : Fault) (place : ℕ)
      → (r ≡ refusal fault place) ↔ StripFaulty s file before (number_of fault) place
  stripping_names before r after h fault place = strip_named s file before r after h fault place

-- "Order: 207 .., 201, 206, then the reading's answer on the result"
pub building_names : (s : Session) (header tray before : List ℕ) (r : Output) (after : List ℕ) → Builds s header tray before r after → (fault : Fault) (place : ℕ)
    → (r ≡ refusal fault place) ↔ BuildFaulty s header tray before (number_of fault) place
building_names s header tray before r after h fault place = build_named s header tray before r after h fault place

-- an identifier is the character in position 34: two files that 01 accepts have the same one exactly where that character is the same
pub one_character_one_identifier : (s t : Session) (f g : List ℕ) → Accepts (rules_of s) f → Accepts (rules_of t) g
    → (identifier_of f ≡ identifier_of g) ↔ (field f 34 34 ≡ field g 34 34)
one_character_one_identifier s t f g a b =
    identifiers.identifier_exactly (rules_of s) (rules_of t) f g ((accepted_exactly (rules_of s) f).1 a) ((accepted_exactly (rules_of t) g).1 b)

module _ {s : Session} {files : List (List ℕ)} (came : Came s files) where
  -- "presenting exactly when, besides, its identifier is new from its origin"
  pub presenting_exactly : (file : List ℕ) (r : Reply) → Presents s file r
      → (r.answer ≡ Ok tt) ↔ (Accepts (rules_of s) file × (among (identifiers_from (origin_of file) files) (identifier_of file) ≡ false))
  presenting_exactly file r h = taken_when came file r h

  -- "else the first fault is named": the reading's, then 209
  pub presenting_names : (file : List ℕ) (r : Reply) → Presents s file r → (fault : Fault) (place : ℕ)
      → (r.answer ≡ refusal fault place)
      ↔ (Faulty (rules_of s) file (number_of fault) place
      ⊎ (Accepts (rules_of s) file × (among (identifiers_from (origin_of file) files) (identifier_of file) ≡ true) × (fault ≡ Identifier) × (place ≡ 0)))
  presenting_names file r h fault place = refused_when came file r h fault place

  -- "Each entity's position is the sum over the records of the files accepted when presented", and so are its counts of records sent and received
  pub position_is_the_sum : (e : ℕ) → T (within 1 499 e) → (c : Cell) → Holds s e c → Agrees c e (postings_of files)
  position_is_the_sum e t c h =
      subst (λ (x : Cell). Agrees x e (postings_of files)) (own_cell s e t ∙ sym h) (figures.figures (in_paper came) e (below_500 e (of_T (within 1 499 e) t)))

  module _ (cells : ℕ → Cell) (calls : (e : ℕ) → Holds s e (cells e)) where
    -- "positions add up to zero"
    pub positions_add_up_to_zero : sum_to 500 (λ e. (cells e).position) ≡ pos 0
    positions_add_up_to_zero = cells_sum came cells calls (λ c. c.position) ∙ figures.positions_zero (in_paper came)

    -- and both counts to the number of individual records accepted
    pub sent_adds_up : sum_to 500 (λ e. pos (cells e).sent) ≡ pos (length (postings_of files))
    sent_adds_up = cells_sum came cells calls (λ c. pos c.sent) ∙ figures.sent_sum (in_paper came)

    pub received_adds_up : sum_to 500 (λ e. pos (cells e).received) ≡ pos (length (postings_of files))
    received_adds_up = cells_sum came cells calls (λ c. pos c.received) ∙ figures.received_sum (in_paper came)

  -- what `Session::cells` hands out is the same, number by number
  pub cells_too : (all : List Cell) → HoldsAll s all → (e : ℕ) → e < 500 → Holds s e (get_or all e zero_cell)
  cells_too all h e l = ap (λ (cs : List Cell). get_or cs e zero_cell) h ∙ all_cells came e l

-- "Where building from a tray succeeds, stripping the file in that session, with room, returns the tray", and the rest of that buffer stays
pub built_strips_back : (s : Session) (header tray before : List ℕ) (r : Output) (after : List ℕ) → Builds s header tray before r after
    → {n : ℕ} → r ≡ Ok n
    → (other : List ℕ) (q : Output) (later : List ℕ) → Strips s (handed r after) other q later → length tray ≤ length other
    → (q ≡ Ok (length tray)) × (handed q later ≡ tray) × (drop (length tray) later ≡ drop (length tray) other)
built_strips_back s header tray before r after h p other q later k room = built_then_stripped s header tray before r after h p s refl other q later k room

-- ---- demand 3: "An entity's figures depend on its own records only."

-- "If in two sessions the accepted records that name E as sender or receiver form the same list, E's position and counts are equal."
pub own_records_only : {s t : Session} {fs gs : List (List ℕ)} → Came s fs → Came t gs → (e : ℕ)
    → naming e (all_records fs) ≡ naming e (all_records gs) → (c d : Cell) → Holds s e c → Holds t e d → Equal c d
own_records_only come came e same c d h k = subst₂ Equal (sym h) (sym k) (same_cells come came e same)

-- "If two files pass the reading in one session with the same file header, and their batches that hold records to E have, in order, the same headers (numbers
-- aside) and the same records to E with their additionals, E's extracts are equal byte for byte."
module _ (s : Session) (e : ℕ) (f g : List ℕ) (passes : Reads s f (Ok tt)) (passes_too : Reads s g (Ok tt)) (same : SameTo e f g) where
  -- whatever buffers were lent
  pub extracts_equal : (before before2 : List ℕ) (r q : Output) (after after2 : List ℕ) → Extracts s e f before r after → Extracts s e g before2 q after2
      → {n m : ℕ} → r ≡ Ok n → q ≡ Ok m → handed r after ≡ handed q after2
  extracts_equal = extracts.extracts_apart s e f g same

  -- where E can have one, both are written: E on the roster, and buffers as long as the files, which always have room
  pub extracts_written : T (within 1 499 e) → T (get_or s.rules.roster e false)
      → (before before2 : List ℕ) → length f ≤ length before → length g ≤ length before2
      → (r q : Output) (after after2 : List ℕ) → Extracts s e f before r after → Extracts s e g before2 q after2
      → (r ≡ Ok (length (handed r after))) × (q ≡ r) × (handed q after2 ≡ handed r after)
  extracts_written = extracts.extracts_written s e f g same (sym passes) (sym passes_too)

  -- lent the same buffer, the answer is the same too, and so is every byte of the buffer after it
  pub extracts_alike : (before : List ℕ) (r q : Output) (after after2 : List ℕ) → Extracts s e f before r after → Extracts s e g before q after2
      → (r ≡ q) × (after ≡ after2)
  extracts_alike = extracts.extracts_alike s e f g same (sym passes) (sym passes_too)

-- "The answer to a presentation depends on that file, the session's date, currency and roster, and the identifiers already accepted from that file's origin."
pub answer_depends : {s t : Session} {fs gs : List (List ℕ)} → Came s fs → Came t gs → (file : List ℕ) → rules_of s ≡ rules_of t
    → ((i : ℕ) → among (identifiers_from (origin_of file) fs) i ≡ among (identifiers_from (origin_of file) gs) i)
    → (r q : Reply) → Presents s file r → Presents t file q → r.answer ≡ q.answer
answer_depends come came file rules same r q h k =
    said_once r.answer q.answer
    (ap (λ (x : paper.Reply). x.answer) h
    ∙ identifiers.answer_depends (in_paper come) (in_paper came) file rules same
    ∙ sym (ap (λ (x : paper.Reply). x.answer) k))
