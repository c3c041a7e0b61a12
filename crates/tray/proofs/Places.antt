-- The records of a tray, by their places, and what a tray that 207 does not refuse holds.
use Prim.Native.Nat.{ℕ, zero, suc, ◌+◌, ◌*◌, ◌/◌, ◌%◌, ◌≤◌, ◌<◌}
use mathlib.Core.Bool.{◌&&◌}
use mathlib.Core.List.{List, [], ◌∷◌, ◌++◌, map}
use mathlib.Core.Logic.{◌⊎◌, inl, inr}
use mathlib.Core.Path.{◌≡◌, refl, sym, ap, ◌∙◌}
use native.Mathlib.Nat.{add-zero, add-suc, zero-mul, suc-mul}
use native.Mathlib.Numerals.{add-one}
use native.Mathlib.Omega.{arith}
use lib.Dec.{T, eqb, eqb→eq}
use lib.ListN.{length, take, drop, length-drop, length-map, drop_of_length-le}
use lib.Seq.{take_all, drop-drop}
use Rattle.std.proofs.lemmas.List.{take_at, drop_at, take-append-drop, length-take}
use Rattle.paper.specs.declared.record.Kind.{Kind}
use Rattle.paper.specs.declared.record.Kind.TheVariants.{FileHeader, BatchHeader, Individual, Additional, BatchControl, FileControl, Other}
use Rattle.paper.specs.Answers.{accepted, require}
use Rattle.paper.specs.Fields.{field, is}
use Rattle.paper.specs.Kinds.{kind_of}
use Rattle.paper.specs.Reading.{parts}
use Rattle.paper.specs.Trays.{tray_records, mark_good, tray_record_good, tray_fault}
use Rattle.paper.specs.Buffers.{tray_answer}
use Rattle.paper.proofs.Tests.{and_l, and_r}
use Rattle.paper.proofs.Refusals.{both_accept, required}
use Rattle.paper.proofs.Lists.{Sized, sized_parts, length_parts}
use Rattle.paper.proofs.Places.{parts_from}
use Rattle.paper.proofs.Round.{AllGood, all_good, body}
use Rattle.tray.specs.Trays.{tray_record_at, body_at, bodies, Sound}

-- ---- places

pub length_records : (tray : List ℕ) → length (tray_records tray) ≡ length tray / 96
unfolding tray_records
length_records tray = length_parts 96 (length tray / 96) tray

pub records_at : (tray : List ℕ) (i : ℕ) → i < length tray / 96 → drop i (tray_records tray) ≡ tray_record_at tray i ∷ drop (i + 1) (tray_records tray)
unfolding tray_records tray_record_at
records_at tray i h = rw add-one (parts_from 96 (length tray / 96) tray i h)

pub records_none : (tray : List ℕ) (i : ℕ) → length tray / 96 ≤ i → drop i (tray_records tray) ≡ []
records_none tray i h = drop_of_length-le (tray_records tray) {i = i} (omega (arith, length_records tray))

bodies_drop : (ts : List (List ℕ)) (i : ℕ) → drop i (map (drop 2) ts) ≡ map (drop 2) (drop i ts)
bodies_drop ts zero = refl
bodies_drop [] (suc i) = refl
bodies_drop (t ∷ ts) (suc i) = bodies_drop ts i

pub length_bodies : (tray : List ℕ) → length (bodies tray) ≡ length tray / 96
length_bodies tray = length-map (tray_records tray) (drop 2) ∙ length_records tray

pub bodies_at : (tray : List ℕ) (i : ℕ) → i < length tray / 96 → drop i (bodies tray) ≡ body_at tray i ∷ drop (i + 1) (bodies tray)
unfolding body_at
bodies_at tray i h = bodies_drop (tray_records tray) i ∙ rw (records_at tray i h, bodies_drop (tray_records tray) (i + 1)) refl

pub bodies_none : (tray : List ℕ) (i : ℕ) → length tray / 96 ≤ i → drop i (bodies tray) ≡ []
bodies_none tray i h = bodies_drop (tray_records tray) i ∙ ap (map (drop 2)) (records_none tray i h)

-- ---- lengths

-- behind its mark a record is its body
pub body_behind : (t : List ℕ) → length t ≡ 96 → take 94 (drop 2 t) ≡ drop 2 t
body_behind t l = take_all 94 (drop 2 t) (omega (arith, body t l))

-- a record is its mark and its body
pub mark_length : (mark : List ℕ) → length mark ≡ 2 → field mark 1 2 ≡ mark
mark_length mark l = take_all 2 mark (omega arith)

pub good_parts : (mark body : List ℕ) → length mark ≡ 2 → tray_record_good (mark ++ body) ≡ (mark_good (kind_of body) mark && is (field body 88 94) "0000000")
unfolding tray_record_good
good_parts mark body l = rw (take_at mark body 2 l, drop_at mark body 2 l) refl

pub ruleset joined = (take-append-drop, length-take, length-drop)

bodies_of : (ts : List (List ℕ)) → Sized 96 ts → Sized 94 (map (drop 2) ts)
bodies_of [] z = tt
bodies_of (t ∷ ts) z = (body t z.0, bodies_of ts z.1)

pub bodies_sized : (tray : List ℕ) → length tray % 96 ≡ 0 → Sized 94 (bodies tray)
unfolding tray_records
bodies_sized tray h = bodies_of (tray_records tray) (sized_parts 96 (length tray / 96) tray (omega arith))

-- ---- the rest of a tray, from a record on

parts_rest : (w n : ℕ) (l : List ℕ) (i : ℕ) → parts w n (drop (i * w) l) ≡ drop i (parts w (n + i) l)
unfolding parts
parts_rest w n l zero = rw (zero-mul, add-zero)
parts_rest w n l (suc i) =
    let e : w + i * w ≡ suc i * w = omega (arith, suc-mul i w) in
    rw (← e, add-suc, ← drop-drop (i * w) w l) (parts_rest w n (drop w l) i)

pub bodies_rest : (tray : List ℕ) (i : ℕ) → i * 96 ≤ length tray → bodies (drop (i * 96) tray) ≡ drop i (bodies tray)
unfolding tray_records
bodies_rest tray i h =
    let rest : ℕ = length (drop (i * 96) tray) / 96 in
    let e : rest + i ≡ length tray / 96 = omega (arith, length-drop (i * 96) tray) in
    ap (map (drop 2)) (parts_rest 96 rest tray i ∙ ap (λ (n : ℕ). drop i (parts 96 n tray)) e) ∙ sym (bodies_drop (tray_records tray) i)

pub sound_rest : (tray : List ℕ) (i : ℕ) → i * 96 ≤ length tray → Sound tray → Sound (drop (i * 96) tray)
unfolding tray_record_at
sound_rest tray i h s =
    let l = length-drop (i * 96) tray in
    record {
      whole = omega (arith, l, s.whole);
      good = λ place r.
          let k : i * 96 + place * 96 ≡ (i + place) * 96 = omega arith in
          let e : drop (place * 96) (drop (i * 96) tray) ≡ drop ((i + place) * 96) tray = drop-drop (place * 96) (i * 96) tray ∙ ap (λ (n : ℕ). drop n tray) k in
          rw e (s.good (i + place) (omega (arith, l)));
    }

-- ---- a tray that 207 does not refuse

good_drop : (ts : List (List ℕ)) (i : ℕ) → AllGood ts → AllGood (drop i ts)
good_drop ts zero g = g
good_drop [] (suc i) g = tt
good_drop (t ∷ ts) (suc i) g = good_drop ts i g.1

pub sound_of : (header tray : List ℕ) → tray_answer header tray ≡ accepted → (length header ≡ 94) × Sound tray
unfolding tray_answer
sound_of header tray h =
    let a = both_accept (require (eqb (length header) 94 && eqb (length tray % 96) 0) 207 0) (tray_fault 0 (tray_records tray)) h in
    let t = required (eqb (length header) 94 && eqb (length tray % 96) 0) 207 0 a.0 in
    let g : AllGood (tray_records tray) = all_good (tray_records tray) 0 a.1 in (
      eqb→eq (length header) 94 (and_l (eqb (length header) 94) (eqb (length tray % 96) 0) t),
      record {
        whole = eqb→eq (length tray % 96) 0 (and_r (eqb (length header) 94) (eqb (length tray % 96) 0) t);
        good = λ place r. (rw (records_at tray place (omega arith)) at (good_drop (tray_records tray) place g)).0;
      },
    )

-- the types that stand in a tray
abbrev pub OnTray : Kind → Type 0
OnTray k = (k ≡ BatchHeader) ⊎ (k ≡ Individual) ⊎ (k ≡ Additional)

-- a mark stands before a 5, a 6 or a 7 only
marked_kinds : (k : Kind) (mark : List ℕ) → T (mark_good k mark) → OnTray k
unfolding mark_good
marked_kinds FileHeader mark t = absurd t
marked_kinds BatchHeader mark t = inl refl
marked_kinds Individual mark t = inr (inl refl)
marked_kinds Additional mark t = inr (inr refl)
marked_kinds BatchControl mark t = absurd t
marked_kinds FileControl mark t = absurd t
marked_kinds Other mark t = absurd t

pub kinds_of : (tray : List ℕ) (i : ℕ) → i * 96 + 96 ≤ length tray → Sound tray → OnTray (kind_of (body_at tray i))
unfolding body_at tray_record_good
kinds_of tray i h s =
    let t = tray_record_at tray i in
    marked_kinds (kind_of (drop 2 t)) (take 2 t) (and_l (mark_good (kind_of (drop 2 t)) (take 2 t)) (is (field (drop 2 t) 88 94) "0000000") (s.good i h))
