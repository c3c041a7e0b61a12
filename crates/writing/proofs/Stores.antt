-- Bytes stored one after the other: a text from its start, digits from the last.
use Prim.Native.Nat.{ℕ, zero, suc, ◌+◌, ◌-◌, ◌≤◌, ◌<◌, ◌/◌, ◌%◌}
use mathlib.Core.List.{List, ◌∷◌, ◌++◌}
use mathlib.Core.Path.{◌≡◌}
use native.Mathlib.Nat.{zero-add}
use native.Mathlib.Numerals.{add-one}
use native.Mathlib.Omega.{arith}
use lib.ListN.{length, get_or, take, drop, set, length-replicate}
use lib.Seq.{length-take-le, append_snoc, set_split, drop_at, paste-suc}
use Rattle.paper.specs.Writing.{spelled, blanks}

pub copy_turn : (d s : List ℕ) (i : ℕ) → i < length d → i < length s → set (take i s ++ drop i d) i (get_or s i 0) ≡ take (i + 1) s ++ drop (i + 1) d
copy_turn d s i h k = rw add-one (rw (zero-add, zero-add) at (paste-suc d 0 s i 0 (omega arith) k))

pub length_blanks : (n : ℕ) → length (blanks n) ≡ n
unfolding blanks
length_blanks n = length-replicate n 32

drop_set : (d : List ℕ) (j x : ℕ) → j < length d → drop j (set d j x) ≡ x ∷ drop (suc j) d
drop_set d j x h = rw (set_split d j x h) (drop_at (take j d) (x ∷ drop (suc j) d) j (length-take-le j d (omega arith)))

-- where i counts down by one
pub digit_back : (i n : ℕ) (d : List ℕ) → 0 < i → i ≤ length d
    → spelled i n ++ drop i d ≡ spelled (i - 1) (n / 10) ++ drop (i - 1) (set d (i - 1) (48 + n % 10))
unfolding spelled
digit_back zero n d h k = absurd (omega arith)
digit_back (suc j) n d h k =
    let e : suc j - 1 ≡ j = omega arith in
    rw (e, drop_set d j (48 + n % 10) (omega arith)) (append_snoc (spelled j (n / 10)) (48 + n % 10) (drop (suc j) d))
