-- Tray, building and strip.
use Rattle.std.specs.Prelude.{ℕ, suc, ◌+◌, ◌/◌, Bool, false, ◌&&◌, List, [], ◌∷◌, ◌++◌, map, length, take, drop}
use Rattle.paper.specs.declared.record.Kind.{Kind}
use Rattle.paper.specs.declared.record.Kind.TheVariants.{FileHeader, BatchHeader, Individual, Additional, BatchControl, FileControl, Other}
use Rattle.paper.specs.Answers.{Said, accepted, and_then, require}
use Rattle.paper.specs.Fields.{bytes, field, is}
use Rattle.paper.specs.Kinds.{kind_of}
use Rattle.paper.specs.Reading.{parts, records_of}
use Rattle.paper.specs.Writing.{joined, numbered, closing}

-- records of 96 bytes, a two-byte mark before each body
unfoldable pub tray_records : List ℕ → List (List ℕ)
tray_records tray = parts 96 (length tray / 96) tray

-- the mark that goes with a body's first byte: "LO" with 5, "IN" with 6, "AD" with 7
unfoldable pub mark_good : Kind → List ℕ → Bool
mark_good FileHeader mark = false
mark_good BatchHeader mark = is mark "LO"
mark_good Individual mark = is mark "IN"
mark_good Additional mark = is mark "AD"
mark_good BatchControl mark = false
mark_good FileControl mark = false
mark_good Other mark = false

-- body positions 88-94 are zeros
unfoldable pub tray_record_good : List ℕ → Bool
tray_record_good t = mark_good (kind_of (drop 2 t)) (take 2 t) && is (field (drop 2 t) 88 94) "0000000"

-- 207 at the first bad tray record
unfoldable pub tray_fault : ℕ → List (List ℕ) → Said
tray_fault place [] = accepted
tray_fault place (t ∷ ts) = let rest = tray_fault (place + 1) ts in and_then (require (tray_record_good t) 207 place) rest

-- ---- numbering: batches 1, 2, .., individuals 1, 2, .. through the file; an additional gets the number of the last individual, zero if none

-- batches and individuals counted
unfoldable pub batches_after : Kind → ℕ → ℕ
batches_after FileHeader b = b
batches_after BatchHeader b = suc b
batches_after Individual b = b
batches_after Additional b = b
batches_after BatchControl b = b
batches_after FileControl b = b
batches_after Other b = b

unfoldable pub individuals_after : Kind → ℕ → ℕ
individuals_after FileHeader n = n
individuals_after BatchHeader n = n
individuals_after Individual n = suc n
individuals_after Additional n = n
individuals_after BatchControl n = n
individuals_after FileControl n = n
individuals_after Other n = n

unfoldable pub numbered_by : Kind → ℕ → ℕ → List ℕ → List ℕ
numbered_by FileHeader b n r = r
numbered_by BatchHeader b n r = numbered (suc b) r
numbered_by Individual b n r = numbered (suc n) r
numbered_by Additional b n r = numbered n r
numbered_by BatchControl b n r = r
numbered_by FileControl b n r = r
numbered_by Other b n r = r

unfoldable pub numbering : ℕ → ℕ → List (List ℕ) → List (List ℕ)
numbering b n [] = []
numbering b n (r ∷ rs) = numbered_by (kind_of r) b n r ∷ numbering (batches_after (kind_of r) b) (individuals_after (kind_of r) n) rs

unfoldable pub build : List ℕ → List ℕ → List ℕ
build header tray = closing header (numbering 0 0 (map (drop 2) (tray_records tray)))

-- ---- strip: each 5, 6 and 7 in order, marked, with zeros in 88-94

unfoldable pub zeroed : List ℕ → List ℕ
zeroed r = field r 1 87 ++ bytes "0000000"

unfoldable pub marked : Kind → List ℕ → List (List ℕ)
marked FileHeader r = []
marked BatchHeader r = (bytes "LO" ++ zeroed r) ∷ []
marked Individual r = (bytes "IN" ++ zeroed r) ∷ []
marked Additional r = (bytes "AD" ++ zeroed r) ∷ []
marked BatchControl r = []
marked FileControl r = []
marked Other r = []

unfoldable pub stripped : List (List ℕ) → List (List ℕ)
stripped [] = []
stripped (r ∷ rs) = marked (kind_of r) r ++ stripped rs

unfoldable pub strip : List ℕ → List ℕ
strip file = joined (stripped (records_of file))
