-- What a member's desk does with what was handed out to it: receiving it, and showing why a debit came back.
use Rattle.std.specs.Prelude.{ℕ, ◌+◌, ◌-◌, ◌*◌, ◌/◌, Bool, false, ◌&&◌, cond, List, [], eqb, ltb, length, take, drop}
use Rattle.paper.specs.declared.rules.Rules.{Rules}
use Rattle.paper.specs.declared.record.Kind.{Kind}
use Rattle.paper.specs.declared.record.Kind.TheVariants.{FileHeader, BatchHeader, Individual, Additional, BatchControl, FileControl, Other}
use Rattle.paper.specs.Answers.{Said, accepted, refused, and_then, require}
use Rattle.paper.specs.Fields.{field, blank, number}
use Rattle.paper.specs.Kinds.{kind_of, code_of, rejects}
use Rattle.paper.specs.Records.{at_desk}
use Rattle.paper.specs.Reading.{record_at, reading_by}
use Rattle.paper.specs.Buffers.{entity_given}

-- receiving for E: 208, then the reading at its desk
unfoldable pub receiving : Rules → ℕ → List ℕ → Said
receiving rules e file = and_then (entity_given rules e) (reading_by (at_desk e rules) file)

-- ---- showing a reason

-- one hundred lines of 44 bytes, R00 first; what stands in them is not judged
unfoldable pub motives_good : List ℕ → Bool
motives_good motives = eqb (length motives) 4400

-- before a record is asked for: 208, 207 for a list of another length, then the reading
unfoldable pub showable : Rules → ℕ → List ℕ → List ℕ → Said
showable rules e file motives = and_then (entity_given rules e) (and_then (require (motives_good motives) 207 0) (reading_by (at_desk e rules) file))

-- a rejection's additional record: a 7 after a 36 or 31
unfoldable pub explains : Kind → List ℕ → Bool
explains FileHeader before = false
explains BatchHeader before = false
explains Individual before = false
explains Additional before = rejects (code_of before)
explains BatchControl before = false
explains FileControl before = false
explains Other before = false

-- is the record at this place one? Past the end there is none
unfoldable pub explains_at : List ℕ → ℕ → Bool
explains_at file place = ltb place (length file / 94) && explains (kind_of (record_at file place)) (record_at file (place - 1))

-- where a text of 44 bytes stands: nowhere, in the file from this byte on, or in the motive list, bytes counted from 0
pub data TextPlace : Type 0 where
  nowhere : TextPlace
  in_file : ℕ → TextPlace
  in_motives : ℕ → TextPlace

-- positions 36-79 of the record if they are not all blank, otherwise the line for its R number, which stands in 5-6
unfoldable pub text_at : List ℕ → ℕ → TextPlace
text_at file place =
    let r = record_at file place in
    cond (blank (field r 36 79)) (in_motives (number (field r 5 6) * 44)) (in_file (place * 94 + 35))

-- the answer, and where the text stands
pub record Showing : Type 0 where
  pub answer : Said
  pub text : TextPlace

-- a refusal shows no bytes
unfoldable pub shown_if : Said → TextPlace → Showing
shown_if accepted text = record { answer = accepted; text = text }
shown_if (refused n place) text = record { answer = refused n place; text = nowhere }

-- showing for E the reason in the record at a place; 214, at 0, where that is no rejection's additional record
unfoldable pub showing : Rules → ℕ → List ℕ → List ℕ → ℕ → Showing
showing rules e file motives place = shown_if (and_then (showable rules e file motives) (require (explains_at file place) 214 0)) (text_at file place)

-- the text itself, from whichever of the two it stands in
unfoldable pub text_in : TextPlace → List ℕ → List ℕ → List ℕ
text_in nowhere file motives = []
text_in (in_file at) file motives = take 44 (drop at file)
text_in (in_motives at) file motives = take 44 (drop at motives)
