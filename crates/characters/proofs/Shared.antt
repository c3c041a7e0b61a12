-- A field in two words that share some of its positions: all of it are digits exactly where both are.
use Rattle.std.proofs.Common.{◌≡◌, ℕ, ◌+◌, ◌-◌, ◌≤◌, Bool, true, false, ◌&&◌, List, ◌++◌, refl, arith}
use Rattle.paper.specs.Fields.{field, digit, digits}
use Rattle.paper.proofs.Digits.{every_append}
use Rattle.characters.specs.Part.{HasField}
use Rattle.characters.proofs.Part.{parted_before}

-- the part that both have is of the first
both_have : (a b c : List ℕ) → (digits (a ++ b) && digits (b ++ c)) ≡ digits (a ++ b ++ c)
both_have a b c = rw (every_append digit a b, every_append digit b c, every_append digit (a ++ b) c, every_append digit a b) (go (digits a) (digits b) (digits c))
  where
    go : (x y z : Bool) → ((x && y) && (y && z)) ≡ ((x && y) && z)
    go true true z = refl
    go true false z = refl
    go false y z = refl

module _ (r : List ℕ) (first last : ℕ) (h : HasField r first last) (k : first + 7 ≤ last) (m : last ≤ first + 15) {x y : Bool} where
  pub in_two : x ≡ digits (field r first (first + 7)) → y ≡ digits (field r (last - 7) last) → (x && y) ≡ digits (field r first last)
  in_two p q =
      let a : List ℕ = field r first (last - 8) in
      let b : List ℕ = field r (last - 7) (first + 7) in
      let c : List ℕ = field r (first + 8) last in
      let front : field r first (first + 7) ≡ a ++ b = parted_before r first (last - 8) (last - 7) (first + 7) h.0 (omega arith) (omega arith) (omega arith) in
      let back : field r (last - 7) last ≡ b ++ c = parted_before r (last - 7) (first + 7) (first + 8) last (omega arith) (omega arith) (omega arith) (omega arith) in
      let all : field r first last ≡ field r first (first + 7) ++ c = parted_before r first (first + 7) (first + 8) last h.0 (omega arith) (omega arith) (omega arith) in
      rw (p, q, all, front, back) (both_have a b c)
