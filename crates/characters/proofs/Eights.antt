-- The numbers of eight digits: of each half, of all, and of the last seven.
use Rattle.std.proofs.Common.{◌≡◌, ℕ, ◌+◌, ◌*◌, ◌%◌, ◌<◌, T, List, length, take, drop, sym, ap, ◌∙◌, arith, length-drop, take-append-drop, length-take-le, drop-drop, take-add}
use Rattle.paper.specs.Fields.{digit, digits, value}
use Rattle.paper.proofs.Digits.{value_bound}
use Rattle.paper.proofs.Every.{every_take, every_drop}
use Rattle.characters.proofs.Value.{value_append}

module _ (f : List ℕ) (l : length f ≡ 8) (t : T (digits f)) where
  pub first_small : value (take 4 f) < 10000
  first_small = value_bound 4 (take 4 f) (length-take-le 4 f (omega arith)) (every_take digit 4 f t)

  pub last_small : value (drop 4 f) < 10000
  last_small = value_bound 4 (drop 4 f) (simp length-drop (omega arith)) (every_drop digit 4 f t)

pub eight_value : (f : List ℕ) → length f ≡ 8 → value f ≡ value (take 4 f) * 10000 + value (drop 4 f)
eight_value f l =
    let four : length (drop 4 f) ≡ 4 = simp length-drop (omega arith) in
    ap value (sym (take-append-drop 4 f)) ∙ (value_append (take 4 f) (drop 4 f) ∙ rw four)

-- the last seven of them
pub last_seven : (f : List ℕ) → length f ≡ 8 → T (digits f) → value (drop 1 f) ≡ value (take 4 f) % 1000 * 10000 + value (drop 4 f)
last_seven f l t =
    let seven : length (drop 1 f) ≡ 7 = simp length-drop (omega arith) in
    let three = take 3 (drop 1 f) in
    let small : value three < 1000 = value_bound 3 three (length-take-le 3 (drop 1 f) (omega arith)) (every_take digit 3 (drop 1 f) (every_drop digit 1 f t)) in
    let high : value (take 4 f) ≡ value (take 1 f) * 1000 + value three =
    ap value (take-add 1 3 f) ∙ (value_append (take 1 f) three ∙ rw (length-take-le 3 (drop 1 f) (omega arith))) in
    let four : length (drop 4 f) ≡ 4 = simp length-drop (omega arith) in
    let all : value (drop 1 f) ≡ value three * 10000 + value (drop 4 f) =
    ap value (sym (take-append-drop 3 (drop 1 f))) ∙ (rw (drop-drop 3 1 f) (value_append three (drop 4 f) ∙ rw four)) in
    let cut : value (take 4 f) % 1000 ≡ value three = omega arith in
    rw (all, cut)
