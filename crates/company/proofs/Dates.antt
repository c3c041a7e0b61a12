-- A date ddmmaaaa beside the LO body's AAMMDD, part by part.
use Prim.Native.Nat.{ℕ, ◌+◌, ◌≤◌}
use mathlib.Core.Bool.{Bool, true, false, ◌&&◌, and-false}
use mathlib.Core.List.{List, [], ◌∷◌, ◌++◌}
use mathlib.Core.Path.{◌≡◌, refl, sym, ap, ap₂, ◌∙◌}
use native.Mathlib.Omega.{arith}
use lib.Dec.{eqb}
use lib.ListN.{length, take, drop, length-append, length-drop}
use lib.Seq.{length-take-le}
use Rattle.paper.specs.Fields.{field, is, same}
use Rattle.paper.specs.Dates.{date_field}
use Rattle.paper.proofs.Tests.{T_of, same→eq}
use Rattle.paper.proofs.Pieces.{part_inner}
use Rattle.characters.proofs.Part.{parted_before}
use Rattle.company.specs.Details.{due_in, short_date, long_date, due_good}

-- texts that are the same part by part
same_joined : (a b x y : List ℕ) → length a ≡ length x → same (a ++ b) (x ++ y) ≡ (same a x && same b y)
unfolding same
same_joined [] b [] y h = refl
same_joined [] b (z ∷ x) y h = absurd (omega arith)
same_joined (c ∷ a) b [] y h = absurd (omega arith)
same_joined (c ∷ a) b (z ∷ x) y h = rw (same_joined a b x y (omega arith)) (go (eqb c z))
  where
    go : (e : Bool) → (e && (same a x && same b y)) ≡ ((e && same a x) && same b y)
    go true = refl
    go false = refl

-- where they are the same, one is a date exactly where the other is
dated_alike : (a b : List ℕ) (c : Bool) → ((date_field b && c) && same a b) ≡ ((c && date_field a) && same a b)
dated_alike a b c = go (same a b) refl
  where
    turn : (x y : Bool) → ((x && y) && true) ≡ ((y && x) && true)
    turn true true = refl
    turn true false = refl
    turn false true = refl
    turn false false = refl

    go : (e : Bool) → same a b ≡ e → ((date_field b && c) && same a b) ≡ ((c && date_field a) && same a b)
    go true e = rw (e, same→eq a b (T_of e)) (turn (date_field b) c)
    go false e = rw (e, and-false (date_field b && c), and-false (c && date_field a))

module _ (lo r : List ℕ) (l : length lo ≡ 94) (m : length r ≡ 250) where
  year_month_day : field lo 70 75 ≡ field lo 70 71 ++ field lo 72 73 ++ field lo 74 75
  year_month_day =
      parted_before lo 70 73 74 75 (omega arith) (omega arith) (omega arith) (omega arith)
      ∙ ap (λ (f : List ℕ). f ++ field lo 74 75) (parted_before lo 70 71 72 73 (omega arith) (omega arith) (omega arith) (omega arith))

  -- a part of the date, where it stands in the record
  part : (a : ℕ) → a + 2 ≤ 8 → take 2 (drop a (due_in r)) ≡ take 2 (drop (25 + a) r)
  part a h = part_inner a 2 25 8 r h (omega arith)

  short : short_date (due_in r) ≡ field r 32 33 ++ field r 28 29 ++ field r 26 27
  unfolding short_date
  short = rw (part 6 (omega arith), part 2 (omega arith), part 0 (omega arith))

  century : field (due_in r) 5 6 ≡ field r 30 31
  century = part 4 (omega arith)

  two : (a b : ℕ) → a + 2 ≤ 250 → b + 2 ≤ 94 → length (take 2 (drop a r)) ≡ length (take 2 (drop b lo))
  two a b h k = length-take-le 2 (drop a r) (rw length-drop (omega arith)) ∙ sym (length-take-le 2 (drop b lo) (rw length-drop (omega arith)))

  parts : same (short_date (due_in r)) (field lo 70 75)
      ≡ (same (field r 32 33) (field lo 70 71) && same (field r 28 29) (field lo 72 73) && same (field r 26 27) (field lo 74 75))
  parts =
      ap (λ (f : List ℕ). same f (field lo 70 75)) short
      ∙ ap (same (field r 32 33 ++ field r 28 29 ++ field r 26 27)) year_month_day
      ∙ same_joined (field r 32 33 ++ field r 28 29) (field r 26 27) (field lo 70 71 ++ field lo 72 73) (field lo 74 75)
      (length-append (field r 32 33) (field r 28 29) ∙ ap₂ ◌+◌ (two 31 69 (omega arith) (omega arith)) (two 27 71 (omega arith) (omega arith)) ∙ sym (length-append (field lo 70 71) (field lo 72 73)))
      ∙ ap (λ (b : Bool). b && same (field r 26 27) (field lo 74 75))
      (same_joined (field r 32 33) (field r 28 29) (field lo 70 71) (field lo 72 73) (two 31 69 (omega arith) (omega arith)))

  -- so the first due date is good exactly where the body has a date and each part is the body's
  pub due_by_parts : ((date_field (field lo 70 75) && is (field r 30 31) "20")
      && (same (field r 32 33) (field lo 70 71) && same (field r 28 29) (field lo 72 73) && same (field r 26 27) (field lo 74 75))) ≡ due_good lo (due_in r)
  unfolding due_good long_date
  due_by_parts = rw (← parts, century) (dated_alike (short_date (due_in r)) (field lo 70 75) (is (field r 30 31) "20"))
