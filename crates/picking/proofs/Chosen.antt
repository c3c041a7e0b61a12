-- Records held by their places: what is chosen, record by record.
use Prim.Native.Nat.{ℕ, zero, suc, ◌+◌, ◌*◌, ◌≤◌, ◌<◌}
use mathlib.Core.List.{List, [], ◌∷◌}
use mathlib.Core.Path.{◌≡◌, refl, ap}
use native.Mathlib.Omega.{arith}
use native.Mathlib.Numerals.{add-one}
use lib.ListN.{length, get_or, drop, length-drop}
use lib.Seq.{length-take-le}
use Rattle.paper.proofs.Lists.{Sized}
use Rattle.paper.specs.Reading.{record_at}
use Rattle.picking.specs.Places.{Placed, chosen}

pub record_length : (file : List ℕ) (p : ℕ) → p * 94 + 94 ≤ length file → length (record_at file p) ≡ 94
unfolding record_at
record_length file p h = length-take-le 94 (drop (p * 94) file) (rw length-drop (omega arith))

pub chosen_sized : (file places : List ℕ) → Placed file places → Sized 94 (chosen file places)
chosen_sized file [] h = tt
chosen_sized file (p ∷ ps) h = (record_length file p (h 0), chosen_sized file ps (λ j. h (suc j)))

pub length_chosen : (file places : List ℕ) → length (chosen file places) ≡ length places
length_chosen file [] = refl
length_chosen file (p ∷ ps) = ap suc (length_chosen file ps)

pub chosen_drop : (file places : List ℕ) (n : ℕ) → chosen file (drop n places) ≡ drop n (chosen file places)
chosen_drop file places zero = refl
chosen_drop file [] (suc n) = refl
chosen_drop file (p ∷ ps) (suc n) = chosen_drop file ps n

pub at_index : (file places : List ℕ) (i : ℕ) → i < length places → drop i (chosen file places) ≡ record_at file (get_or places i 0) ∷ drop (i + 1) (chosen file places)
at_index file places i l = rw add-one (go places i l)
  where
    go : (ps : List ℕ) (k : ℕ) → k < length ps → drop k (chosen file ps) ≡ record_at file (get_or ps k 0) ∷ drop (suc k) (chosen file ps)
    go [] k l = absurd (omega arith)
    go (p ∷ ps) zero l = refl
    go (p ∷ ps) (suc k) l = go ps k (omega arith)
