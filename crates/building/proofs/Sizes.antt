-- How long a built file is, and the answer where its size is known.
use Prim.Native.Nat.{ℕ, ◌+◌, ◌*◌, ◌/◌, ◌%◌, ◌≤◌}
use mathlib.Core.Bool.{Bool, true, false, ◌&&◌}
use mathlib.Core.List.{List, [], ◌∷◌}
use mathlib.Core.Path.{◌≡◌, refl, sym, ap, ◌∙◌}
use native.Mathlib.Omega.{arith}
use borrow.Author.Tests.{leb-true, leb-false, le-leb, lt-leb, eq-eqb}
use lib.Dec.{leb, eqb, leb→le}
use lib.ListN.{length}
use Rattle.paper.specs.declared.record.Kind.{Kind}
use Rattle.paper.specs.declared.record.Kind.TheVariants.{FileHeader, BatchHeader, Individual, Additional, BatchControl, FileControl, Other}
use Rattle.paper.specs.Answers.{Said, accepted, refused, and_then, require}
use Rattle.paper.specs.Fields.{within}
use Rattle.paper.specs.Kinds.{kind_of}
use Rattle.paper.specs.Reading.{length_good}
use Rattle.paper.specs.Trays.{batches_after, individuals_after, numbering, build}
use Rattle.paper.specs.Buffers.{room_for, tray_answer, buildable}
use Rattle.paper.proofs.Tests.{within_range, and_l}
use Rattle.paper.proofs.Refusals.{both_accept, required}
use Rattle.paper.proofs.Lists.{Sized}
use Rattle.paper.proofs.Closing.{headers, headers_of, length_closing}
use Rattle.paper.proofs.Round.{numbering_sized}
use Rattle.tray.specs.Trays.{bodies, batches_in, Sound}
use Rattle.tray.proofs.Places.{length_bodies, bodies_sized, sound_of}
use Rattle.building.specs.Numbering.{none}
use Rattle.building.proofs.Numbers.{length_numbering, kind_kept}

-- ---- how many records

-- the tray's, a control for each batch, file header and file control
abbrev pub built_records : List ℕ → ℕ
built_records tray = length tray / 96 + batches_in 0 (bodies tray) + 2

headers_kept : (rs : List (List ℕ)) (b n : ℕ) → Sized 94 rs → headers_of (numbering b n rs) ≡ headers_of rs
unfolding numbering headers_of
headers_kept [] b n z = refl
headers_kept (r ∷ rs) b n z =
    rw (kind_kept (kind_of r) b n r (omega (arith, z.0))) (ap (λ (m : ℕ). headers (kind_of r) + m) (headers_kept rs (batches_after (kind_of r) b) (individuals_after (kind_of r) n) z.1))

opened : (k : Kind) (b : ℕ) → batches_after k b ≡ b + headers k
unfolding batches_after
opened FileHeader b = omega arith
opened BatchHeader b = omega arith
opened Individual b = omega arith
opened Additional b = omega arith
opened BatchControl b = omega arith
opened FileControl b = omega arith
opened Other b = omega arith

batches_headers : (rs : List (List ℕ)) (b : ℕ) → batches_in b rs ≡ b + headers_of rs
unfolding batches_in headers_of
batches_headers [] b = omega arith
batches_headers (r ∷ rs) b = batches_headers rs (batches_after (kind_of r) b) ∙ omega (arith, opened (kind_of r) b)

pub build_length : (header tray : List ℕ) → length header ≡ 94 → length tray % 96 ≡ 0
    → length (build header tray) ≡ (length tray / 96 + batches_in 0 (bodies tray) + 2) * 94
unfolding build
build_length header tray h m =
    let z = bodies_sized tray m in
    length_closing header (numbering 0 0 (bodies tray)) h (numbering_sized (bodies tray) 0 0 z)
    ∙ omega (arith, length_numbering none (bodies tray), length_bodies tray, headers_kept (bodies tray) 0 0 z, batches_headers (bodies tray) 0)

-- ---- the answer

length_good_lem : (n : ℕ) → length_good ((n + 2) * 94) ≡ leb (n + 2) 10000
unfolding length_good
length_good_lem n =
    let low = le-leb 188 ((n + 2) * 94) (omega arith) in
    let whole = eq-eqb ((n + 2) * 94 % 94) 0 (omega arith) in
    rw (low, whole) (go (leb (n + 2) 10000) refl)
  where
    go : (b : Bool) → leb (n + 2) 10000 ≡ b → leb ((n + 2) * 94) 940000 && true ≡ b
    go true e = rw (le-leb ((n + 2) * 94) 940000 (omega (arith, leb-true (n + 2) 10000 e))) refl
    go false e = rw (lt-leb ((n + 2) * 94) 940000 (omega (arith, leb-false (n + 2) 10000 e))) refl

-- 201 and 206 by the number of records
pub buildable_as : (header tray buffer : List ℕ)
    → and_then (tray_answer header tray) (and_then (require (leb (built_records tray) 10000) 201 0) (require (leb (built_records tray * 94) (length buffer)) 206 0))
    ≡ buildable header tray buffer
unfolding buildable room_for and_then
buildable_as header tray buffer = go (tray_answer header tray) refl
  where
    counted : Said
    counted = and_then (require (leb (built_records tray) 10000) 201 0) (require (leb (built_records tray * 94) (length buffer)) 206 0)

    sized : Said
    sized = and_then (require (length_good (length (build header tray))) 201 0) (room_for (build header tray) buffer)

    go : (a : Said) → tray_answer header tray ≡ a → and_then a counted ≡ and_then a sized
    go (refused n place) e = refl
    go accepted e =
        let s = sound_of header tray e in
        rw (build_length header tray s.0 s.1.whole, length_good_lem (length tray / 96 + batches_in 0 (bodies tray))) refl

pub built_fits : (header tray buffer : List ℕ) → buildable header tray buffer ≡ accepted
    → (length header ≡ 94)
    × Sound tray
    × (length (build header tray) ≤ 940000)
    × (length (build header tray) ≤ length buffer)
    × (built_records tray * 94 ≡ length (build header tray))
unfolding buildable room_for length_good
built_fits header tray buffer h =
    let n : ℕ = length (build header tray) in
    let a = both_accept (tray_answer header tray) (and_then (require (length_good n) 201 0) (room_for (build header tray) buffer)) h in
    let b = both_accept (require (length_good n) 201 0) (room_for (build header tray) buffer) a.1 in
    let s = sound_of header tray a.0 in
    let g = required (length_good n) 201 0 b.0 in (
      s.0,
      s.1,
      (within_range 188 940000 n (and_l (within 188 940000 n) (eqb (n % 94) 0) g)).1,
      leb→le n (length buffer) (required (leb n (length buffer)) 206 0 b.1),
      sym (build_length header tray s.0 s.1.whole),
    )
