-- A sum that is kept as far as its field can tell it tells the field as the exact sum does.
use Prim.Native.Nat.{ℕ, ◌+◌, ◌^◌, ◌≤◌, ◌<◌}
use mathlib.Core.Bool.{Bool, true, false, ◌&&◌}
use mathlib.Core.List.{List}
use mathlib.Core.Path.{◌≡◌, refl, sym, ap, ◌∙◌}
use native.Mathlib.Nat.{add-zero}
use native.Mathlib.Omega.{arith}
use borrow.Author.Tests.{lt-ltb, le-ltb, ltb-true, ltb-false, ne_eqb}
use lib.Dec.{ltb, eqb}
use lib.ListN.{length}
use Rattle.paper.specs.Fields.{field, digits, value, spells}
use Rattle.paper.proofs.Tests.{T_of}
use Rattle.paper.proofs.Digits.{value_bound}
use Rattle.characters.proofs.Part.{part_length}
use Rattle.company.specs.Files.{closing_good}
use Rattle.company.specs.Sums.{kept}

abbrev most : ℕ
most = 10 ^ 10

below : (n : ℕ) → n < most → kept n ≡ n
unfolding kept
below n h = rw (lt-ltb n most h)

beyond : (n : ℕ) → most ≤ n → kept n ≡ most
unfolding kept
beyond n h = rw (le-ltb n most h)

-- an amount more
pub kept_on : (a b : ℕ) → kept (kept a + b) ≡ kept (a + b)
kept_on a b = go (ltb a most) refl
  where
    go : (t : Bool) → ltb a most ≡ t → kept (kept a + b) ≡ kept (a + b)
    go true e = rw (below a (ltb-true a most e))
    go false e =
        let l = ltb-false a most e in
        rw (beyond a l) (beyond (most + b) (omega arith) ∙ sym (beyond (a + b) (omega arith)))

pub kept_twice : (n : ℕ) → kept (kept n) ≡ kept n
kept_twice n = ap kept (sym (add-zero (kept n))) ∙ kept_on n 0 ∙ ap kept (add-zero n)

-- ten digits spell it exactly where they spell the sum
spells_kept : (f : List ℕ) → length f ≡ 10 → (n : ℕ) → spells f (kept n) ≡ spells f n
unfolding spells
spells_kept f l n = go (digits f) (ltb n most) refl refl
  where
    go : (d t : Bool) → digits f ≡ d → ltb n most ≡ t → (d && eqb (value f) (kept n)) ≡ (d && eqb (value f) n)
    go d true e q = rw (below n (ltb-true n most q))
    go false false e q = refl
    go true false e q =
        let k = ltb-false n most q in
        let v = value_bound 10 f l (T_of e) in
        ap (eqb (value f)) (beyond n k) ∙ (ne_eqb (value f) most (λ h. omega arith) ∙ sym (ne_eqb (value f) n (λ h. omega arith)))

-- so it closes a file as the sum does
pub closing_kept : (details sum : ℕ) (r : List ℕ) → length r ≡ 250 → closing_good details (kept sum) r ≡ closing_good details sum r
unfolding closing_good
closing_kept details sum r l = rw (spells_kept (field r 104 113) (part_length r 104 113 (omega arith)) sum)
