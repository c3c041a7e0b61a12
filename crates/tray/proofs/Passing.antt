-- The passes over a tray, one record further: the first bad record, and the batches that are opened.
use Prim.Native.Nat.{ℕ, ◌+◌, ◌/◌, ◌≤◌, ◌<◌}
use mathlib.Core.Bool.{Bool, true, false, cond}
use mathlib.Core.List.{List}
use mathlib.Core.Path.{◌≡◌, refl, sym, ap, ◌∙◌}
use native.Mathlib.Numerals.{add-one}
use native.Mathlib.Omega.{arith}
use lib.ListN.{length, drop}
use Rattle.paper.specs.declared.record.Kind.{Kind}
use Rattle.paper.specs.declared.record.Kind.TheVariants.{FileHeader, BatchHeader, Individual, Additional, BatchControl, FileControl, Other}
use Rattle.paper.specs.Answers.{accepted, refused, and_then, require}
use Rattle.paper.specs.Kinds.{opens_batch, kind_of}
use Rattle.paper.specs.Trays.{tray_records, tray_record_good, tray_fault, batches_after}
use Rattle.tray.specs.Trays.{tray_record_at, body_at, bodies, batches_in}
use Rattle.tray.proofs.Places.{records_at, records_none, bodies_at, bodies_none}

module _ (tray : List ℕ) (i : ℕ) where
  -- ---- the first bad record

  pub stops : i < length tray / 96 → tray_record_good (tray_record_at tray i) ≡ false → tray_fault i (drop i (tray_records tray)) ≡ refused 207 i
  unfolding tray_fault and_then require
  stops h b = rw (records_at tray i h, b) refl

  pub goes_on : i < length tray / 96 → tray_record_good (tray_record_at tray i) ≡ true
      → tray_fault i (drop i (tray_records tray)) ≡ tray_fault (i + 1) (drop (i + 1) (tray_records tray))
  unfolding tray_fault and_then require
  goes_on h g = rw (records_at tray i h, g) refl

  pub ends : length tray / 96 ≤ i → tray_fault i (drop i (tray_records tray)) ≡ accepted
  unfolding tray_fault
  ends h = rw (records_none tray i h) refl

-- ---- batches

opened : (k : Kind) (b : ℕ) → batches_after k b ≡ cond (opens_batch k) (b + 1) b
unfolding batches_after
opened FileHeader b = refl
opened BatchHeader b = sym (add-one b)
opened Individual b = refl
opened Additional b = refl
opened BatchControl b = refl
opened FileControl b = refl
opened Other b = refl

-- so many batches are opened before place i
pub record Counted (tray : List ℕ) (i count : ℕ) : Type 0 where
  pub fewer : count ≤ i
  pub rest : batches_in 0 (bodies tray) ≡ batches_in count (drop i (bodies tray))

pub none_counted : (tray : List ℕ) → Counted tray 0 0
none_counted tray = record { fewer = omega arith; rest = refl }

module _ (tray : List ℕ) {i count : ℕ} (c : Counted tray i count) where
  pub one_counted : i < length tray / 96 → {b : Bool} → b ≡ opens_batch (kind_of (body_at tray i)) → {later : ℕ} → later ≡ cond b (count + 1) count
      → Counted tray (i + 1) later
  unfolding batches_in
  one_counted h {b} e {later} l =
      let k : Kind = kind_of (body_at tray i) in
      let q : batches_after k count ≡ later = opened k count ∙ ap (λ (o : Bool). cond o (count + 1) count) (sym e) ∙ sym l in
      record { fewer = omega (arith, l, few b, c.fewer); rest = c.rest ∙ rw (bodies_at tray i h) (ap (λ (n : ℕ). batches_in n (drop (i + 1) (bodies tray))) q) }
    where
      few : (o : Bool) → cond o (count + 1) count ≤ count + 1
      few true = omega arith
      few false = omega arith

  pub all_counted : length tray / 96 ≤ i → count ≡ batches_in 0 (bodies tray)
  unfolding batches_in
  all_counted h = sym (c.rest ∙ rw (bodies_none tray i h) refl)
