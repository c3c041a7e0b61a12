use Rattle.std.proofs.Common.{Bool, List, arith, drop, false, not, sym, take, true, ℕ, ◌∙◌, ◌≡◌}
use borrow.Author.Tests.{not-false}
use Rattle.paper.specs.Fields.{digits, value}
use Rattle.paper.proofs.Tests.{T_of}
use Rattle.characters.specs.Words.{Packs}
use Rattle.characters.proofs.Words.{is_digits, is_none}
use Rattle.characters.proofs.Halves.{Halved, halves_of}
use Rattle.characters.proofs.word.halves.Goals as goal

-- after the test
known : {f : List ℕ} {n : ℕ} {r : Bool} → Packs f n → ((g : List ℕ) → Packs g n → r ≡ digits g) → not r ≡ false
    → (digits f ≡ true) × Halved n (value (take 4 f)) (value (drop 4 f))
known {f} {n} {r} p h e = let t = sym (h f p) ∙ not-false r e in (t, halves_of p (T_of t))

pub returns-then-not-all_digits : goal.returns-then-not-all_digits
returns-then-not-all_digits c =
    is_none _ (sym (c.all_digits.ensures _ c.word-bytes.ensures) ∙ c.if-not-all_digits.true)

pub returns : goal.returns
returns c =
    let k = known c.word-bytes.ensures c.all_digits.ensures c.if-not-all_digits.false-raw in
    is_digits _ k.0 k.1.2.first k.1.2.last

pub overflow_sub-values : goal.overflow_sub-values
overflow_sub-values c = omega (arith, known c.word-bytes.ensures c.all_digits.ensures c.if-not-all_digits.false-raw)

pub overflow_mul-pairs : goal.overflow_mul-pairs
overflow_mul-pairs c = omega (arith, known c.word-bytes.ensures c.all_digits.ensures c.if-not-all_digits.false-raw)

pub overflow_add-pairs : goal.overflow_add-pairs
overflow_add-pairs c = omega (arith, known c.word-bytes.ensures c.all_digits.ensures c.if-not-all_digits.false-raw)
