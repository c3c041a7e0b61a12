-- Fields of a record, and the parts that a field is made of.
use Rattle.std.proofs.Common.{◌≡◌, ℕ, ◌+◌, ◌-◌, ◌<◌, ◌≤◌, List, [], ◌∷◌, ◌++◌, length, get_or, drop, ap, ◌∙◌, arith, length-drop, length-take, drop-cons, take-take, drop-drop, take-add}
use Rattle.paper.specs.Fields.{field}
use Rattle.characters.specs.Part.{HasField}

module _ (r : List ℕ) (first last : ℕ) (h : HasField r first last) where
  pub part_length : length (field r first last) ≡ last + 1 - first
  part_length = simp (length-take, length-drop) (omega arith)

-- a field of one position
pub one_position : (r : List ℕ) (at : ℕ) → HasField r at at → field r at at ≡ get_or r (at - 1) 0 ∷ []
one_position r at h =
    let e : at + 1 - at ≡ 1 = omega arith in
    let k : at - 1 < length r = omega arith in
    rw (e, drop-cons r (at - 1) 0 k)

-- the first positions of a field
pub first_of : (r : List ℕ) (first last n to : ℕ) → 1 ≤ n → to ≤ last → to + 1 ≡ first + n → field (field r first last) 1 n ≡ field r first to
first_of r first last n to h k e =
    let some : n + 1 - 1 ≡ n = omega arith in
    let fewer : to + 1 - first ≡ n = omega arith in
    rw (some, fewer) (take-take n (last + 1 - first) (drop (first - 1) r) (omega arith))

-- a field parted after one of its positions
pub parted : (r : List ℕ) (first mid last : ℕ) → 1 ≤ first → first ≤ mid + 1 → mid ≤ last → field r first last ≡ field r first mid ++ field r (mid + 1) last
parted r first mid last h k l =
    let n : ℕ = mid + 1 - first in
    let m : ℕ = last - mid in
    let whole : last + 1 - first ≡ n + m = omega arith in
    let rest : last + 1 - (mid + 1) ≡ m = omega arith in
    let at : first - 1 + n ≡ mid + 1 - 1 = omega arith in
    rw (whole, rest, take-add n m (drop (first - 1) r), drop-drop n (first - 1) r, at)

-- before one of its positions
pub parted_before : (r : List ℕ) (first mid next last : ℕ) → 1 ≤ first → first ≤ next → mid ≤ last → mid + 1 ≡ next
    → field r first last ≡ field r first mid ++ field r next last
parted_before r first mid next last h k l e = parted r first mid last h (omega arith) l ∙ ap (λ (n : ℕ). field r first mid ++ field r n last) e
