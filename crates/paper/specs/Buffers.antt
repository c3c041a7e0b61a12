-- Extracting, building and stripping into a lent buffer: the order of refusals, and the buffer's final bytes.
-- `extract`, `build` and `strip` are the bytes; `extracting`, `building` and `stripping` are the jobs.
use Rattle.std.specs.Prelude.{ℕ, ◌%◌, false, ◌&&◌, List, ◌++◌, leb, eqb, length, drop, get_or, Ok, Err}
use Rattle.paper.specs.declared.rules.Rules.{Rules}
use Rattle.paper.specs.Answers.{Output, Said, accepted, refused, number_of, and_then, require}
use Rattle.paper.specs.Fields.{within}
use Rattle.paper.specs.Reading.{reading, length_good}
use Rattle.paper.specs.Writing.{blanks}
use Rattle.paper.specs.Extract.{extract}
use Rattle.paper.specs.Trays.{tray_records, tray_fault, build, strip}

-- the answer, how many bytes were written where it is acceptance, and the buffer as it is handed back
pub record Outcome : Type 0 where
  pub answer : Said
  pub size : ℕ
  pub buffer : List ℕ

-- what a job of the library says, with the buffer that it hands back
abbrev pub told : Output → List ℕ → Outcome
told (Ok n) buffer = record { answer = accepted; size = n; buffer = buffer }
told (Err r) buffer = record { answer = refused (number_of r.fault) r.place; size = 0; buffer = buffer }

-- the first bytes are new, the rest of the buffer stays
unfoldable pub over : List ℕ → List ℕ → List ℕ
over new buffer = new ++ drop (length new) buffer

-- where accepted the bytes are written; every refusal leaves the buffer unchanged
unfoldable pub written : Said → List ℕ → List ℕ → Outcome
written accepted new buffer = record { answer = accepted; size = length new; buffer = over new buffer }
written (refused n place) new buffer = record { answer = refused n place; size = 0; buffer = buffer }

-- output buffer shorter than the output
unfoldable pub room_for : List ℕ → List ℕ → Said
room_for new buffer = require (leb (length new) (length buffer)) 206 0

-- 208: entity number not 1 to 499, or not on the roster
unfoldable pub entity_given : Rules → ℕ → Said
entity_given rules e = require (within 1 499 e && get_or rules.roster e false) 208 0

-- extracting for E: 208, then the reading's refusals, then 206
unfoldable pub extracting : Rules → ℕ → List ℕ → List ℕ → Outcome
extracting rules e file buffer =
    let new = extract rules.currency e file in
    written (and_then (entity_given rules e) (and_then (reading rules file) (room_for new buffer))) new buffer

-- stripping: the reading's refusals, then 206
unfoldable pub stripping : Rules → List ℕ → List ℕ → Outcome
stripping rules file buffer = let new = strip file in written (and_then (reading rules file) (room_for new buffer)) new buffer

-- 207: header body not 94 bytes or tray no multiple of 96, at 0; then the first bad tray record, at its place
unfoldable pub tray_answer : List ℕ → List ℕ → Said
tray_answer header tray = and_then (require (eqb (length header) 94 && eqb (length tray % 96) 0) 207 0) (tray_fault 0 (tray_records tray))

-- when the reading refuses, the bytes that the built file would have taken are all spaces
unfoldable pub built_as : Said → List ℕ → List ℕ → Outcome
built_as accepted file buffer = written accepted file buffer
built_as (refused n place) file buffer = record { answer = refused n place; size = 0; buffer = over (blanks (length file)) buffer }

unfoldable pub built_if : Said → Rules → List ℕ → List ℕ → Outcome
built_if (refused n place) rules file buffer = written (refused n place) file buffer
built_if accepted rules file buffer = built_as (reading rules file) file buffer

-- the tests before the reading: 207, 201, 206
unfoldable pub buildable : List ℕ → List ℕ → List ℕ → Said
buildable header tray buffer =
    let file = build header tray in
    and_then (tray_answer header tray) (and_then (require (length_good (length file)) 201 0) (room_for file buffer))

-- building: 207, 201, 206, then the reading's answer on the result
unfoldable pub building : Rules → List ℕ → List ℕ → List ℕ → Outcome
building rules header tray buffer = built_if (buildable header tray buffer) rules (build header tray) buffer
