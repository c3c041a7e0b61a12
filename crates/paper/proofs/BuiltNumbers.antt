-- What is built is numbered 1, 2, .. through the file.
use Prim.Native.Nat.{ℕ, zero, suc, ◌+◌, ◌≤◌, ◌<◌, ◌^◌, ◌/◌, ◌%◌, ◌*◌}
use native.Mathlib.Nat.{div-add-mod', mod-eq_of_lt}
use native.Mathlib.Omega.{arith}
use mathlib.Core.Bool.{Bool, true, false, not, ◌&&◌, cond}
use mathlib.Core.List.{List, [], ◌∷◌, ◌++◌, map}
use mathlib.Core.Path.{◌≡◌, refl, ap, ◌∙◌}
use lib.Dec.{T, ltb, lt→ltb}
use lib.ListN.{length, get_or, drop, length-map}
use borrow.Author.Tests.{ne_eqb}
use Rattle.paper.specs.declared.record.Kind.{Kind}
use Rattle.paper.specs.declared.record.Kind.TheVariants.{FileHeader, BatchHeader, Individual, Additional, BatchControl, FileControl, Other}
use Rattle.paper.specs.Fields.{among, digits, number}
use Rattle.paper.specs.Kinds.{opens_batch, is_individual, kind, kind_of}
use Rattle.paper.specs.Records.{number_in}
use Rattle.paper.specs.Reading.{Reckoning, nothing_counted, counted, parts, records_of}
use Rattle.paper.specs.Writing.{spelled, numbered, batch_control_of, file_control_of, owed, owed_before, ending, with_controls}
use Rattle.paper.specs.Trays.{batches_after, individuals_after, numbered_by, numbering, tray_records, build}
use Rattle.paper.specs.Counters.{numbers_in, all_different, ascending, counting_from}
use Rattle.paper.proofs.Tests.{and_both, of_T}
use Rattle.paper.proofs.Lists.{Sized, length_parts, sized_parts, kind_numbered}
use Rattle.paper.proofs.Spelling.{digits_spelled, value_spelled}
use Rattle.paper.proofs.Normal.{field_numbered}
use Rattle.paper.proofs.Closing.{after_writing, closing_records}
use Rattle.paper.proofs.Round.{numbering_sized, bodies_sized}

numbers_append : (a b : List (List ℕ)) → numbers_in (a ++ b) ≡ numbers_in a ++ numbers_in b
unfolding numbers_in
numbers_append [] b = refl
numbers_append (r ∷ a) b = go (is_individual (kind_of r)) (numbers_append a b)
  where
    go : (i : Bool) → numbers_in (a ++ b) ≡ numbers_in a ++ numbers_in b
        → cond i (number_in r ∷ numbers_in (a ++ b)) (numbers_in (a ++ b)) ≡ cond i (number_in r ∷ numbers_in a) (numbers_in a) ++ numbers_in b
    go true h = ap (λ (l : List ℕ). number_in r ∷ l) h
    go false h = h

numbers_owed : (n : ℕ) (c : Reckoning) → numbers_in (owed n c) ≡ []
unfolding numbers_in owed batch_control_of kind_of kind
numbers_owed zero c = refl
numbers_owed (suc n) c = refl

numbers_before_lem : (k : Kind) (c : Reckoning) → numbers_in (owed_before k c) ≡ []
unfolding owed_before numbers_in
numbers_before_lem FileHeader c = refl
numbers_before_lem BatchHeader c = numbers_owed c.batches c
numbers_before_lem Individual c = refl
numbers_before_lem Additional c = refl
numbers_before_lem BatchControl c = refl
numbers_before_lem FileControl c = refl
numbers_before_lem Other c = refl

-- controls have none
numbers_controls : (rs : List (List ℕ)) (c : Reckoning) → numbers_in (with_controls c rs) ≡ numbers_in rs
unfolding with_controls ending numbers_in file_control_of kind_of kind
numbers_controls [] c = numbers_append (owed c.batches c) _ ∙ ap (λ (l : List ℕ). l ++ []) (numbers_owed c.batches c)
numbers_controls (r ∷ rs) c =
    numbers_append (owed_before (kind_of r) c) (r ∷ with_controls (after_writing (kind_of r) c r) rs)
    ∙ rw (numbers_before_lem (kind_of r) c, numbers_controls rs (after_writing (kind_of r) c r)) refl

kind_kept : (k : Kind) (b n : ℕ) (r : List ℕ) → length r ≡ 94 → kind_of (numbered_by k b n r) ≡ kind_of r
unfolding numbered_by
kind_kept FileHeader b n r l = refl
kind_kept BatchHeader b n r l = kind_numbered (suc b) r (omega arith)
kind_kept Individual b n r l = kind_numbered (suc n) r (omega arith)
kind_kept Additional b n r l = kind_numbered n r (omega arith)
kind_kept BatchControl b n r l = refl
kind_kept FileControl b n r l = refl
kind_kept Other b n r l = refl

number_numbered : (n : ℕ) (r : List ℕ) → length r ≡ 94 → n < 10 ^ 7 → number_in (numbered n r) ≡ n
unfolding number
number_numbered n r l h = rw (field_numbered n r (omega arith), of_T (digits (spelled 7 n)) (digits_spelled 7 n), value_spelled 7 n) (mod-eq_of_lt h)

numbers_numbering : (rs : List (List ℕ)) (b n : ℕ) → Sized 94 rs → n + length rs < 10 ^ 7 → numbers_in (numbering b n rs) ≡ counting_from (suc n) (length (numbers_in rs))
unfolding numbering numbers_in counting_from numbered_by batches_after individuals_after
numbers_numbering [] b n z h = refl
numbers_numbering (r ∷ rs) b n z h =
    rw (kind_kept (kind_of r) b n r z.0)
    (go (kind_of r) (λ b m o. numbers_numbering rs b m z.1 o))
  where
    go : (k : Kind) → ((b m : ℕ) → m + length rs < 10 ^ 7 → numbers_in (numbering b m rs) ≡ counting_from (suc m) (length (numbers_in rs)))
        → cond (is_individual k) (number_in (numbered_by k b n r) ∷ numbers_in (numbering (batches_after k b) (individuals_after k n) rs)) (numbers_in (numbering (batches_after k b) (individuals_after k n) rs))
        ≡ counting_from (suc n) (length (cond (is_individual k) (number_in r ∷ numbers_in rs) (numbers_in rs)))
    go FileHeader later = later b n (omega arith)
    go BatchHeader later = later (suc b) n (omega arith)
    go Individual later = rw (number_numbered (suc n) r z.0 (omega arith), later b (suc n) (omega arith)) refl
    go Additional later = later b n (omega arith)
    go BatchControl later = later b n (omega arith)
    go FileControl later = later b n (omega arith)
    go Other later = later b n (omega arith)

-- whatever the tray holds
pub built_numbers : (header tray : List ℕ) → length header ≡ 94 → is_individual (kind_of header) ≡ false → length tray % 96 ≡ 0 → length tray / 96 < 10 ^ 7
    → numbers_in (records_of (build header tray)) ≡ counting_from 1 (length (numbers_in (map (drop 2) (tray_records tray))))
unfolding build tray_records numbers_in
built_numbers header tray h k m few =
    let e : length tray ≡ length tray / 96 * 96 = omega (arith, div-add-mod' (length tray) 96) in
    let bs : List (List ℕ) = map (drop 2) (parts 96 (length tray / 96) tray) in
    let s : Sized 94 bs = bodies_sized (parts 96 (length tray / 96) tray) (sized_parts 96 (length tray / 96) tray (omega arith)) in
    let rs : List (List ℕ) = numbering 0 0 bs in
    ap numbers_in (closing_records header rs h (numbering_sized bs 0 0 s))
    ∙ rw k (numbers_controls rs (counted FileHeader nothing_counted header) ∙ numbers_numbering bs 0 0 s (omega (arith, length-map (parts 96 (length tray / 96) tray) (drop 2), length_parts 96 (length tray / 96) tray)))

below_counting : (n k m : ℕ) → m < k → among (counting_from k n) m ≡ false
unfolding counting_from among
below_counting zero k m h = refl
below_counting (suc n) k m h = rw (ne_eqb m k (omega arith), below_counting n (suc k) m (omega arith)) refl

-- numbers 1, 2, .. are all different
counting_different : (m n : ℕ) → T (all_different (counting_from m n))
unfolding counting_from all_different
counting_different m zero = tt
counting_different m (suc n) = and_both (not (among (counting_from (suc m) n) m)) (all_different (counting_from (suc m) n)) (rw (below_counting n (suc m) m (omega arith)) tt) (counting_different (suc m) n)

-- and ascend in each batch
counting_ascends : (rs : List (List ℕ)) (p m n : ℕ) → p ≤ m → numbers_in rs ≡ counting_from (suc m) n → T (ascending p rs)
unfolding ascending numbers_in counting_from
counting_ascends [] p m n l e = tt
counting_ascends (r ∷ rs) p m n l e = go (kind_of r) n e (counting_ascends rs)
  where
    go : (k : Kind) (n : ℕ) → cond (is_individual k) (number_in r ∷ numbers_in rs) (numbers_in rs) ≡ counting_from (suc m) n
        → ((p m n : ℕ) → p ≤ m → numbers_in rs ≡ counting_from (suc m) n → T (ascending p rs))
        → T (cond (opens_batch k) (ascending 0 rs) (cond (is_individual k) (ltb p (number_in r) && ascending (number_in r) rs) (ascending p rs)))
    go FileHeader n e later = later p m n l e
    go BatchHeader n e later = later 0 m n (omega arith) e
    go Individual zero e later = let h : suc (length (numbers_in rs)) ≡ 0 = ap length e in absurd (omega arith)
    go Individual (suc n) e later =
        let h : number_in r ≡ suc m = ap (λ (l : List ℕ). get_or l 0 0) e in
        and_both (ltb p (number_in r)) (ascending (number_in r) rs) (lt→ltb p (number_in r) (omega arith)) (later (number_in r) (suc m) n (omega arith) (ap (drop 1) e))
    go Additional n e later = later p m n l e
    go BatchControl n e later = later p m n l e
    go FileControl n e later = later p m n l e
    go Other n e later = later p m n l e

-- so that a built file has the numbers that are asked for
pub built_numbered : (header tray : List ℕ) → length header ≡ 94 → is_individual (kind_of header) ≡ false → length tray % 96 ≡ 0 → length tray / 96 < 10 ^ 7
    → T (ascending 0 (records_of (build header tray))) × T (all_different (numbers_in (records_of (build header tray))))
built_numbered header tray h k m few =
    let rs : List (List ℕ) = records_of (build header tray) in
    let n : ℕ = length (numbers_in (map (drop 2) (tray_records tray))) in
    let e : numbers_in rs ≡ counting_from 1 n = built_numbers header tray h k m few in
    (counting_ascends rs 0 0 n (omega arith) e, rw e (counting_different 1 n))
