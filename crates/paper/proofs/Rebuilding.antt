-- Building, as a job, from what stripping gave: where the file is as built, it comes back.
use Prim.Native.Nat.{ℕ, ◌+◌, ◌≤◌, ◌%◌}
use native.Mathlib.Omega.{arith}
use mathlib.Core.List.{[], List, ◌∷◌, ◌++◌}
use mathlib.Core.Path.{◌≡◌, refl, ap, ◌∙◌}
use lib.Dec.{leb, le→leb}
use lib.ListN.{length, take}
use lib.Seq.{length-take-le, drop_at}
use Rattle.paper.specs.declared.record.Kind.{Kind}
use Rattle.paper.specs.declared.record.Kind.TheVariants.{FileHeader, BatchHeader, Individual, Additional, BatchControl, FileControl, Other}
use Rattle.paper.specs.declared.rules.Rules.{Rules}
use Rattle.paper.specs.Answers.{accepted, and_then, require}
use Rattle.paper.specs.Fields.{bytes, field, same}
use Rattle.paper.specs.Kinds.{kind_of}
use Rattle.paper.specs.Reading.{records_of, length_good, reading}
use Rattle.paper.specs.Writing.{joined}
use Rattle.paper.specs.Trays.{tray_records, mark_good, tray_record_good, tray_fault, build, zeroed, marked, stripped, strip}
use Rattle.paper.specs.Buffers.{over, written, room_for, tray_answer, built_as, built_if, buildable, building}
use Rattle.paper.specs.Demands.{AsBuilt}
use Rattle.paper.proofs.Refusals.{require_met}
use Rattle.paper.proofs.Lists.{Sized, length_joined, records_joined}
use Rattle.paper.proofs.Exactly.{accepted_exactly}
use Rattle.paper.proofs.Accepted.{accepted_facts}
use Rattle.paper.proofs.Round.{AllGood}
use Rattle.paper.proofs.Rebuilt.{kind_zeroed}
use Rattle.paper.proofs.Back.{stripped_sized, build_strips_back}

good_all : (ts : List (List ℕ)) (place : ℕ) → AllGood ts → tray_fault place ts ≡ accepted
unfolding tray_fault and_then
good_all [] place g = refl
good_all (t ∷ ts) place g = rw (require_met (tray_record_good t) 207 place g.0) (good_all ts (place + 1) g.1)

good_append : (a b : List (List ℕ)) → AllGood a → AllGood b → AllGood (a ++ b)
good_append [] b p q = q
good_append (t ∷ a) b p q = (p.0, good_append a b p.1 q)

zeros_end : (r : List ℕ) → length r ≡ 94 → field (zeroed r) 88 94 ≡ bytes "0000000"
unfolding zeroed
zeros_end r l = ap (take 7) (drop_at (take 87 r) (bytes "0000000") 87 (length-take-le 87 r (omega arith)))

marked_good : (k : Kind) (r : List ℕ) → length r ≡ 94 → kind_of r ≡ k → AllGood (marked k r)
unfolding marked tray_record_good mark_good same
marked_good FileHeader r l e = tt
marked_good BatchHeader r l e = (rw (kind_zeroed r l, e, zeros_end r l) tt, tt)
marked_good Individual r l e = (rw (kind_zeroed r l, e, zeros_end r l) tt, tt)
marked_good Additional r l e = (rw (kind_zeroed r l, e, zeros_end r l) tt, tt)
marked_good BatchControl r l e = tt
marked_good FileControl r l e = tt
marked_good Other r l e = tt

stripped_good : (rs : List (List ℕ)) → Sized 94 rs → AllGood (stripped rs)
unfolding stripped
stripped_good [] z = tt
stripped_good (r ∷ rs) z = good_append (marked (kind_of r) r) (stripped rs) (marked_good (kind_of r) r z.0 refl) (stripped_good rs z.1)

-- what stripping gives passes 207 under the file's own header
pub stripped_tray : (rules : Rules) (file : List ℕ) → reading rules file ≡ accepted → tray_answer (take 94 file) (strip file) ≡ accepted
unfolding tray_answer strip tray_records and_then require
stripped_tray rules file h =
    let a = accepted_facts rules file h in
    let ts : List (List ℕ) = stripped (records_of file) in
    let z : Sized 96 ts = stripped_sized (records_of file) a.sized in
    let l : length (take 94 file) ≡ 94 = length-take-le 94 file (omega (arith, a.long)) in
    let m : length (joined ts) % 96 ≡ 0 = omega (arith, length_joined 96 ts z) in
    rw (l, m) (ap (tray_fault 0) (records_joined 96 ts (omega arith) z) ∙ good_all ts 0 (stripped_good (records_of file) a.sized))

-- building from a stripped file and its own header, with room, gives the file where it is numbered this way and its free control positions are blank
pub build_stripped : (rules : Rules) (file buffer : List ℕ) → reading rules file ≡ accepted → AsBuilt 0 0 (records_of file)
    → length file ≤ length buffer
    → building rules (take 94 file) (strip file) buffer ≡ record { answer = accepted; size = length file; buffer = over file buffer }
unfolding building buildable room_for and_then built_if built_as written
build_stripped rules file buffer h t l =
    let b : build (take 94 file) (strip file) ≡ file = (build_strips_back rules file h).1 t in
    let g : require (length_good (length file)) 201 0 ≡ accepted = require_met (length_good (length file)) 201 0 ((accepted_exactly rules file).0 h).0 in
    let r : require (leb (length file) (length buffer)) 206 0 ≡ accepted = require_met (leb (length file) (length buffer)) 206 0 (le→leb (length file) (length buffer) l) in
    rw (b, stripped_tray rules file h, g, r, h) refl
