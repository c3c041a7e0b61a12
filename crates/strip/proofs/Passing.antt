-- The records of a file in order, on the tray.
use Prim.Native.Nat.{ℕ, ◌+◌, ◌-◌, ◌*◌, ◌/◌, ◌≤◌, ◌<◌}
use mathlib.Core.List.{List, [], ◌∷◌, ◌++◌, append-nil, head-eq_of_cons-eq}
use mathlib.Core.Path.{◌≡◌, refl, sym, ap, ◌∙◌}
use native.Mathlib.Numerals.{add-one}
use native.Mathlib.Omega.{arith}
use borrow.Rule.Slice.PartMut.{mid_of, put_mid}
use lib.ListN.{length, get_or, take, drop, length-append, take-append-drop}
use lib.Seq.{take-suc, take_all, drop-cons}
use Rattle.paper.specs.Kinds.{kind_of}
use Rattle.paper.specs.Reading.{records_of, record_at}
use Rattle.paper.specs.Writing.{joined}
use Rattle.paper.specs.Trays.{marked, stripped, strip}
use Rattle.paper.specs.Buffers.{over}
use Rattle.paper.proofs.Lists.{joined_append, length_parts}
use Rattle.paper.proofs.Places.{parts_from}
use Rattle.paper.proofs.Round.{stripped_append}
use Rattle.writing.proofs.Laying.{Wrote, on, again, whole, kept, rest_laid}
use Rattle.strip.specs.Tray.{on_tray}

-- what the records before a place become
unfoldable pub passed : List ℕ → ℕ → List ℕ
passed file place = joined (stripped (take place (records_of file)))

-- before the first nothing, after the last the tray
pub none_passed : (file : List ℕ) → passed file 0 ≡ []
unfolding passed stripped joined
none_passed file = refl

pub all_passed : (file : List ℕ) (place : ℕ) → length file / 94 ≤ place → passed file place ≡ strip file
unfolding passed strip records_of
all_passed file place h = rw (take_all place (records_of file) (omega (arith, length_parts 94 (length file / 94) file)))

-- never longer than the tray
passed_fits : (file : List ℕ) (place : ℕ) → length (passed file place) ≤ length (strip file)
unfolding passed strip
passed_fits file place =
    let a : List (List ℕ) = take place (records_of file) in
    let b : List (List ℕ) = drop place (records_of file) in
    let e : stripped (records_of file) ≡ stripped a ++ stripped b = ap stripped (sym (take-append-drop place (records_of file))) ∙ stripped_append a b in
    omega (arith, ap length (ap joined e ∙ joined_append (stripped a) (stripped b)), length-append (joined (stripped a)) (joined (stripped b)))

-- one record further
module _ (file : List ℕ) (place : ℕ) (l : place < length file / 94) where
  one_passed : passed file (place + 1) ≡ passed file place ++ on_tray (record_at file place)
  unfolding passed on_tray records_of record_at stripped
  one_passed =
      let rs : List (List ℕ) = records_of file in
      let r : List ℕ = take 94 (drop (place * 94) file) in
      let i : place < length rs = omega (arith, length_parts 94 (length file / 94) file) in
      let here : get_or rs place [] ≡ r = head-eq_of_cons-eq (sym (drop-cons rs place [] i) ∙ parts_from 94 (length file / 94) file place l) in
      rw (add-one, take-suc rs place [] i, here, stripped_append (take place rs) (r ∷ []), append-nil (marked (kind_of r) r)) (joined_append (stripped (take place rs)) (marked (kind_of r) r))

  pub one_longer : length (passed file (place + 1)) ≡ length (passed file place) + length (on_tray (record_at file place))
  one_longer = ap length one_passed ∙ length-append (passed file place) (on_tray (record_at file place))

-- written up to a place, into a buffer with room for the tray
module _ (file : List ℕ) (place : ℕ) {old new : List ℕ} {at : ℕ} (w : Wrote 0 (passed file place) old new at) (room : length (strip file) ≤ length old) where
  pub as_long : length new ≡ length old
  as_long = kept w (omega (arith, w.next, passed_fits file place))

  pub put_inside : at ≤ length new
  put_inside = (again w).inside

  pub whole_put : length file / 94 ≤ place → new ≡ over (strip file) old
  whole_put h = (whole w).1 ∙ rw (all_passed file place h)

  module _ (l : place < length file / 94) where
    pub record_room : at + length (on_tray (record_at file place)) ≤ length new
    record_room = omega (arith, as_long, w.next, one_longer file place l, passed_fits file (place + 1))

    pub record_put : {part : List ℕ} {n : ℕ} → (n ≡ length (on_tray (record_at file place))) × (part ≡ over (on_tray (record_at file place)) (mid_of at (length new - at) new))
        → Wrote 0 (passed file (place + 1)) old (put_mid at (length new - at) new part) (at + n)
    record_put p =
        let t : List ℕ = on_tray (record_at file place) in
        rw (one_passed file place l) (on w t (omega (arith, p.0), rw p.1 (rest_laid at t new (again w).inside)))
