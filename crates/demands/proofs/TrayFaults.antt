-- 207, 201 and 206 in plain words: what refuses a header body and a tray before the reading, and at which place.
use Prim.Native.Nat.{ℕ, zero, suc, ◌+◌, ◌*◌, ◌/◌, ◌%◌, ◌≤◌, ◌<◌}
use native.Mathlib.Numerals.{add-one}
use native.Mathlib.Omega.{arith}
use mathlib.Core.Bool.{Bool, true, false, ◌&&◌, and-false}
use mathlib.Core.List.{List}
use mathlib.Core.Logic.{◌⊎◌, inl, inr}
use mathlib.Core.Path.{◌≡◌, refl, sym, ◌∙◌, subst}
use lib.Dec.{eqb, leb, ltb, leb→le, eqb→eq}
use lib.ListN.{length, drop}
use borrow.Author.Tests.{ltb-true, ltb-false, leb-false, eqb-false, le-leb, lt-leb, ne_eqb}
use Rattle.paper.specs.Answers.{Said, accepted, refused, and_then, require}
use Rattle.paper.specs.Trays.{tray_records, tray_record_good, tray_fault, build}
use Rattle.paper.specs.Buffers.{tray_answer, buildable}
use Rattle.paper.proofs.Tests.{and_l, and_r, T_of, of_T}
use Rattle.paper.proofs.Refusals.{refused_not, required, first_refusal, require_refused}
use Rattle.tray.specs.Trays.{tray_record_at}
use Rattle.tray.proofs.Places.{sound_of}
use Rattle.tray.proofs.Passing.{stops, goes_on, ends}
use Rattle.building.proofs.Sizes.{built_records, build_length, buildable_as}
use Rattle.demands.specs.Trays.{GoodAt, Misshapen, FirstBad, TrayBad, NotBuildable}

-- ---- record by record

module _ (tray : List ℕ) where
  abbrev GoodBefore : ℕ → Type 0
  GoodBefore n = (k : ℕ) → k < n → GoodAt tray k

  one_more : (n : ℕ) → GoodBefore n → GoodAt tray n → GoodBefore (suc n)
  one_more n g t k l = go (ltb k n) refl
    where
      go : (b : Bool) → ltb k n ≡ b → GoodAt tray k
      go true e = g k (ltb-true k n e)
      go false e = let q : n ≡ k = omega (arith, ltb-false k n e) in subst (GoodAt tray) q t

  -- good records are passed over
  passed : (n : ℕ) → n ≤ length tray / 96 → GoodBefore n → tray_fault 0 (tray_records tray) ≡ tray_fault n (drop n (tray_records tray))
  unfolding tray_record_at
  passed zero l g = refl
  passed (suc n) l g =
      passed n (omega arith) (λ k m. g k (omega arith))
      ∙ (rw add-one at (goes_on tray n (omega arith) (of_T (tray_record_good (tray_record_at tray n)) (g n (omega arith)))))

  pub none_bad : GoodBefore (length tray / 96) → tray_fault 0 (tray_records tray) ≡ accepted
  none_bad g = passed (length tray / 96) (omega arith) g ∙ ends tray (length tray / 96) (omega arith)

  -- the first that is not is found
  found : (header : List ℕ) → length header ≡ 94 → length tray % 96 ≡ 0 → (left i : ℕ) → i + left ≡ length tray / 96 → GoodBefore i
      → {n place : ℕ} → tray_fault i (drop i (tray_records tray)) ≡ refused n place → (n ≡ 207) × FirstBad header tray place
  unfolding tray_record_at
  found header body whole zero i l g h = absurd (refused_not (sym h ∙ ends tray i (omega arith)))
  found header body whole (suc left) i l g {n} {place} h =
      go (tray_record_good (tray_record_at tray i)) refl (λ g q. found header body whole left (suc i) (omega arith) g q)
    where
      go : (b : Bool) → tray_record_good (tray_record_at tray i) ≡ b
          → (GoodBefore (suc i) → tray_fault (suc i) (drop (suc i) (tray_records tray)) ≡ refused n place → (n ≡ 207) × FirstBad header tray place)
          → (n ≡ 207) × FirstBad header tray place
      go true e later = later (one_more i g (T_of e)) (rw add-one at (sym (goes_on tray i (omega arith) e) ∙ h))
      go false e later =
          let q : refused 207 i ≡ refused n place = sym (stops tray i (omega arith) e) ∙ h in
          let p : i ≡ place = cc in
          (cc, subst (FirstBad header tray) p (record { body = body; whole = whole; there = omega arith; bad = e; first = g }))

-- ---- header body and tray

module _ (header tray : List ℕ) where
  abbrev shape : Bool
  shape = eqb (length header) 94 && eqb (length tray % 96) 0

  misshapen : shape ≡ false → Misshapen header tray
  misshapen e = go (eqb (length header) 94) refl e
    where
      go : (b : Bool) → eqb (length header) 94 ≡ b → (b && eqb (length tray % 96) 0) ≡ false → Misshapen header tray
      go false p e = inl (eqb-false (length header) 94 p)
      go true p e = inr (eqb-false (length tray % 96) 0 e)

  no_shape : Misshapen header tray → shape ≡ false
  no_shape (inl m) = rw (ne_eqb (length header) 94 m) refl
  no_shape (inr m) = rw (ne_eqb (length tray % 96) 0 m) (and-false (eqb (length header) 94))

  pub tray_named : {n place : ℕ} → tray_answer header tray ≡ refused n place → (n ≡ 207) × TrayBad header tray place
  unfolding tray_answer
  tray_named {n} {place} h = go (first_refusal (require shape 207 0) (tray_fault 0 (tray_records tray)) h)
    where
      go : (require shape 207 0 ≡ refused n place) ⊎ ((require shape 207 0 ≡ accepted) × (tray_fault 0 (tray_records tray) ≡ refused n place))
          → (n ≡ 207) × TrayBad header tray place
      go (inl x) = let q = require_refused shape 207 0 x in (q.1, inl (misshapen q.0, q.2))
      go (inr x) =
          let t = required shape 207 0 x.0 in
          let body = eqb→eq (length header) 94 (and_l (eqb (length header) 94) (eqb (length tray % 96) 0) t) in
          let whole = eqb→eq (length tray % 96) 0 (and_r (eqb (length header) 94) (eqb (length tray % 96) 0) t) in
          let f = found tray header body whole (length tray / 96) 0 (omega arith) (λ k l. absurd (omega arith)) x.1 in
          (f.0, inr f.1)

  tray_refused : {place : ℕ} → TrayBad header tray place → tray_answer header tray ≡ refused 207 place
  unfolding tray_answer tray_record_at and_then require
  tray_refused (inl x) = rw (no_shape x.0, x.1) refl
  tray_refused {place} (inr x) = rw (x.body, x.whole) (passed tray place (omega (arith, x.there)) x.first ∙ stops tray place x.there x.bad)

-- ---- then the length and the room

module _ (header tray before : List ℕ) where
  size : tray_answer header tray ≡ accepted → length (build header tray) ≡ built_records tray * 94
  size g = let s = sound_of header tray g in build_length header tray s.0 s.1.whole

  pub bad_tray : {place : ℕ} → TrayBad header tray place → buildable header tray before ≡ refused 207 place
  unfolding buildable and_then
  bad_tray b = rw (tray_refused header tray b) refl

  pub too_long : tray_answer header tray ≡ accepted → 940000 < length (build header tray) → buildable header tray before ≡ refused 201 0
  unfolding and_then require
  too_long g l = sym (buildable_as header tray before) ∙ rw (g, lt-leb (built_records tray) 10000 (omega (arith, size g))) refl

  pub no_room : tray_answer header tray ≡ accepted → length (build header tray) ≤ 940000 → length before < length (build header tray)
      → buildable header tray before ≡ refused 206 0
  unfolding and_then require
  no_room g l m =
      sym (buildable_as header tray before)
      ∙ rw (g, le-leb (built_records tray) 10000 (omega (arith, size g)), lt-leb (built_records tray * 94) (length before) (omega (arith, size g))) refl

  -- a tray that 207 does not refuse, whose file is neither too long nor without room, is built
  pub taken : tray_answer header tray ≡ accepted → length (build header tray) ≤ 940000 → length (build header tray) ≤ length before
      → buildable header tray before ≡ accepted
  unfolding and_then require
  taken g l m =
      sym (buildable_as header tray before)
      ∙ rw (g, le-leb (built_records tray) 10000 (omega (arith, size g)), le-leb (built_records tray * 94) (length before) (omega (arith, size g))) refl

  pub refuses : {n place : ℕ} → buildable header tray before ≡ refused n place → NotBuildable header tray before n place
  refuses {n} {place} h = go (first_refusal (tray_answer header tray) (and_then long room) (buildable_as header tray before ∙ h))
    where
      long : Said
      long = require (leb (built_records tray) 10000) 201 0

      room : Said
      room = require (leb (built_records tray * 94) (length before)) 206 0

      later : tray_answer header tray ≡ accepted → (long ≡ refused n place) ⊎ ((long ≡ accepted) × (room ≡ refused n place)) → NotBuildable header tray before n place
      later g (inl x) =
          let q = require_refused (leb (built_records tray) 10000) 201 0 x in
          inr (inl (q.1, g, omega (arith, size g, leb-false (built_records tray) 10000 q.0), q.2))
      later g (inr x) =
          let l = leb→le (built_records tray) 10000 (required (leb (built_records tray) 10000) 201 0 x.0) in
          let q = require_refused (leb (built_records tray * 94) (length before)) 206 0 x.1 in
          inr (inr (q.1, g, omega (arith, size g, l), omega (arith, size g, leb-false (built_records tray * 94) (length before) q.0), q.2))

      go : (tray_answer header tray ≡ refused n place) ⊎ ((tray_answer header tray ≡ accepted) × (and_then long room ≡ refused n place)) → NotBuildable header tray before n place
      go (inl x) = inl (tray_named header tray x)
      go (inr x) = later x.0 (first_refusal long room x.1)
