-- What goes to one entity, noted record by record: its places in the file.
use Rattle.std.specs.Prelude.{ℕ, zero, suc, ◌+◌, ◌/◌, Bool, true, false, cond, List, [], ◌∷◌, ◌++◌, length}
use Rattle.paper.specs.declared.record.Kind.{Kind}
use Rattle.paper.specs.declared.record.Kind.TheVariants.{FileHeader, BatchHeader, Individual, Additional, BatchControl, FileControl, Other}
use Rattle.paper.specs.Kinds.{kind_of}
use Rattle.paper.specs.Extract.{is_to}
use Rattle.paper.specs.Reading.{record_at}

-- whether the last individual record goes; while none of its batch does, the batch's header waits
pub data Stage : Type 0 where
  passing : List ℕ → Stage
  going : Stage

unfoldable pub is_going : Stage → Bool
is_going (passing header) = false
is_going going = true

unfoldable pub waiting : Stage → List ℕ
waiting (passing header) = header
waiting going = []

-- of the records so far: the places of those that go, in order, and how many of them are batch headers
pub record Notes : Type 0 where
  pub gone : List ℕ
  pub headers : ℕ
  pub stage : Stage

abbrev pub nothing_noted : Notes
nothing_noted = record { gone = []; headers = 0; stage = passing [] }

-- a batch header waits; one that waited before it never goes
abbrev pub header_waits : ℕ → Notes → Notes
header_waits place n = record { gone = n.gone; headers = n.headers; stage = passing (place ∷ []) }

-- a record goes, behind the header that waits
abbrev pub record_goes : ℕ → Notes → Notes
record_goes place n = record {
  gone = n.gone ++ waiting n.stage ++ place ∷ [];
  headers = n.headers + length (waiting n.stage);
  stage = going;
}

-- an individual record to somebody else; what waits, waits on
abbrev pub record_passes : Notes → Notes
record_passes n = record { gone = n.gone; headers = n.headers; stage = passing (waiting n.stage) }

unfoldable pub notes_by : ℕ → Kind → ℕ → List ℕ → Notes → Notes
notes_by e FileHeader place r n = n
notes_by e BatchHeader place r n = header_waits place n
notes_by e Individual place r n = cond (is_to e r) (record_goes place n) (record_passes n)
notes_by e Additional place r n = cond (is_going n.stage) (record_goes place n) n
notes_by e BatchControl place r n = n
notes_by e FileControl place r n = n
notes_by e Other place r n = n

-- with the record at a place
unfoldable pub notes_with : ℕ → List ℕ → ℕ → Notes → Notes
notes_with e file place n = notes_by e (kind_of (record_at file place)) place (record_at file place) n

-- of a file's first records
unfoldable pub notes_after : ℕ → List ℕ → ℕ → Notes
notes_after e file zero = nothing_noted
notes_after e file (suc place) = notes_with e file place (notes_after e file place)

abbrev notes_of : ℕ → List ℕ → Notes
notes_of e file = notes_after e file (length file / 94)

-- the places of what goes to an entity, and how many of them are batch headers
abbrev pub goes_to : ℕ → List ℕ → List ℕ
goes_to e file = (notes_of e file).gone

abbrev pub headers_to : ℕ → List ℕ → ℕ
headers_to e file = (notes_of e file).headers

-- the place of the header that waits at the end
abbrev pub waits_at : ℕ → List ℕ → List ℕ
waits_at e file = waiting (notes_of e file).stage
