-- What the functions come to, step by step: a word by its characters, the marks one after the other.
use Prim.Native.Nat.{ℕ, suc, ◌+◌, ◌≤◌, ◌<◌}
use native.Mathlib.Nat.{add-zero}
use native.Mathlib.Numerals.{add-one}
use native.Mathlib.Omega.{arith}
use mathlib.Core.Bool.{Bool, true, false, ◌&&◌}
use mathlib.Core.List.{List, [], ◌∷◌, ◌++◌, append-nil}
use mathlib.Core.Path.{◌≡◌, refl, sym, ap, ◌∙◌}
use lib.Dec.{eqb}
use lib.ListN.{length, get_or, take, drop, set, length-append, length-set}
use lib.Seq.{drop-cons, take-suc, take_all, length-take-le, append_snoc, set-append_seam}
use Rattle.std.specs.Cmp.Lexicographic.{pointwise}
use Rattle.std.specs.Prelude.{fold}
use Rattle.typed.specs.Words.{grown, grown_by}
use Rattle.paper.specs.Fields.{same}
use Rattle.paper.specs.Buffers.{over}
use Rattle.typed.specs.Rosters.{numbers_marked}

-- ---- a word

-- the library's equality of bytes is that of fields
pub same_is : (word name : List ℕ) → pointwise eqb word name ≡ same word name
unfolding same
same_is [] [] = refl
same_is [] (y ∷ name) = refl
same_is (x ∷ word) [] = refl
same_is (x ∷ word) (y ∷ name) = ap (λ (b : Bool). eqb x y && b) (same_is word name)

-- a word's number, character by character
pub folded : (most n : ℕ) (word : List ℕ) → fold (grown most) n word ≡ grown_by most n word
unfolding grown_by
folded most n [] = refl
folded most n (b ∷ bs) = folded most (grown most n b) bs

-- ---- the numbers of the marks, written one after the other

marked_snoc : (bs : List Bool) (k : ℕ) (b : Bool) → numbers_marked k (bs ++ b ∷ []) ≡ numbers_marked k bs ++ numbers_marked (k + length bs) (b ∷ [])
unfolding numbers_marked
marked_snoc [] k b = rw add-zero
marked_snoc (true ∷ bs) k b =
    let q : k + 1 + length bs ≡ k + suc (length bs) = omega arith in
    rw (← q) (ap (λ (es : List ℕ). k ∷ es) (marked_snoc bs (k + 1) b))
marked_snoc (false ∷ bs) k b =
    let q : k + 1 + length bs ≡ k + suc (length bs) = omega arith in
    rw (← q) (marked_snoc bs (k + 1) b)

pub over_snoc : (new buffer : List ℕ) (x : ℕ) → length new < length buffer → set (over new buffer) (length new) x ≡ over (new ++ x ∷ []) buffer
unfolding over
over_snoc new buffer x l =
    rw (drop-cons buffer (length new) 0 l, set-append_seam, length-append, add-one) (sym (append_snoc new x (drop (suc (length new)) buffer)))

-- the numbers of the first e marks are written, and counted
abbrev pub Put : List Bool → List ℕ → List ℕ → ℕ → ℕ → Type 0
Put marks before after count e = (count ≤ e)
    × (length after ≡ length before)
    × (count ≡ length (numbers_marked 0 (take e marks)))
    × (after ≡ over (numbers_marked 0 (take e marks)) before)

pub put_none : (marks : List Bool) (before : List ℕ) → Put marks before before 0 0
unfolding numbers_marked over
put_none marks before = (omega arith, refl, refl, refl)

one_more : (marks : List Bool) (e : ℕ) → e < length marks → numbers_marked 0 (take (e + 1) marks) ≡ numbers_marked 0 (take e marks) ++ numbers_marked e (get_or marks e false ∷ [])
one_more marks e l =
    let q : 0 + length (take e marks) ≡ e = omega (arith, length-take-le e marks (omega arith)) in
    rw (add-one, take-suc marks e false l, marked_snoc (take e marks) 0 (get_or marks e false), q)

module _ (marks : List Bool) (before after : List ℕ) (count e : ℕ) (p : Put marks before after count e) where
  pub put_end : length marks ≤ e → (count ≡ length (numbers_marked 0 marks)) × (after ≡ over (numbers_marked 0 marks) before)
  put_end l = let t = take_all e marks l in (rw t at p.2, rw t at p.3)

  module _ (l : e < length marks) where
    pub put_turn : get_or marks e false ≡ true → count < length before → Put marks before (set after count e) (count + 1) (e + 1)
    unfolding numbers_marked
    put_turn h r =
        let so_far : List ℕ = numbers_marked 0 (take e marks) in
        let m : numbers_marked 0 (take (e + 1) marks) ≡ so_far ++ e ∷ [] = one_more marks e l ∙ rw h in (
          omega arith,
          length-set after count e ∙ p.1,
          rw m (omega (arith, length-append so_far (e ∷ []), p.2)),
          rw (m, p.3, p.2) (over_snoc so_far before e (omega (arith, p.2))),
        )

    pub skip_turn : get_or marks e false ≡ false → Put marks before after count (e + 1)
    unfolding numbers_marked
    skip_turn h =
        let m : numbers_marked 0 (take (e + 1) marks) ≡ numbers_marked 0 (take e marks) = one_more marks e l ∙ rw (h, append-nil) in
        (omega arith, p.1, rw m p.2, rw m p.3)
