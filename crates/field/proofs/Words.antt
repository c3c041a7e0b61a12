-- The numbers of an individual record, from the words in which they stand.
use Rattle.std.proofs.Common.{◌≡◌, ℕ, ◌+◌, ◌*◌, ◌%◌, ◌^◌, ◌<◌, MatchOption, Bool, true, false, Option, Some, None, List, ◌++◌, length, take, drop, sym, refl, ap, ◌∙◌, arith, drop_at}
use mathlib.Core.Bool.{and-false}
use Rattle.paper.specs.Fields.{field, digit, digits, value, number}
use Rattle.paper.specs.Entities.{entity_value}
use Rattle.paper.proofs.Tests.{T_of, of_T}
use Rattle.paper.proofs.Digits.{every_append, number_bound}
use Rattle.paper.proofs.Every.{every_take, every_drop}
use Rattle.characters.specs.Part.{HasField}
use Rattle.characters.proofs.Part.{parted, parted_before, part_length}
use Rattle.characters.proofs.Value.{a_number, number_joined, first_none, last_none}
use Rattle.characters.proofs.Eights.{eight_value, last_seven}
use Rattle.field.specs.Sequences.{sequence_of, sequence_if}

-- an entity field of digits: its entity, and entity and branch as one number
module _ (f : List ℕ) (h : digits f ≡ true) where
  pub entity_told : entity_value f ≡ value (take 4 f)
  unfolding entity_value
  entity_told = sym (a_number (take 4 f) (of_T _ (every_take digit 4 f (T_of h))) refl)

  pub field_told : length f ≡ 8 → value (take 4 f) * 10000 + value (drop 4 f) ≡ number f
  field_told l = sym (eight_value f l) ∙ a_number f h refl

-- a field of ten: eight in one word, and two
module _ (r : List ℕ) (first : ℕ) (h : HasField r first (first + 9)) where
  abbrev eight : List ℕ
  eight = field r first (first + 7)

  abbrev two : List ℕ
  two = field r (first + 8) (first + 9)

  ten : field r first (first + 9) ≡ eight ++ two
  ten = parted_before r first (first + 7) (first + 8) (first + 9) h.0 (omega arith) (omega arith) (omega arith)

  pub eight_long : length eight ≡ 8
  eight_long = part_length r first (first + 7) (omega arith) ∙ omega arith

  pub cents_told : digits eight ≡ true → digits two ≡ true
      → (value (take 4 eight) * 10000 + value (drop 4 eight)) * 100 + number two ≡ number (field r first (first + 9))
  cents_told k m =
      let e = eight_value eight eight_long in
      let l : length two ≡ 2 = part_length r (first + 8) (first + 9) (omega arith) ∙ omega arith in
      let n = a_number two m refl in
      rw (ten, number_joined eight two k m, e, l, ← n)

  pub cents_first : digits eight ≡ false → 0 ≡ number (field r first (first + 9))
  cents_first k = rw ten (first_none eight two k)

  pub cents_last : digits two ≡ false → 0 ≡ number (field r first (first + 9))
  cents_last k = rw ten (last_none eight two k)

module _ (r : List ℕ) (l : length r ≡ 94) where
  -- 80-94 in two ways
  after_sender : field r 80 94 ≡ field r 80 87 ++ field r 88 94
  after_sender = parted r 80 87 94 (omega arith) (omega arith) (omega arith)

  before_last : field r 80 94 ≡ field r 80 86 ++ field r 87 94
  before_last = parted r 80 86 94 (omega arith) (omega arith) (omega arith)

  shared : field r 88 94 ≡ drop 1 (field r 87 94)
  shared =
      sym (ap (drop 1) (parted r 87 87 94 (omega arith) (omega arith) (omega arith))
      ∙ drop_at (field r 87 87) (field r 88 94) 1 (part_length r 87 87 (omega arith)))

  pub sequence_told : digits (field r 80 87) ≡ true → digits (field r 87 94) ≡ true
      → Some (value (take 4 (field r 87 94)) % 1000 * 10000 + value (drop 4 (field r 87 94))) ≡ sequence_of r
  unfolding sequence_of sequence_if
  sequence_told h k =
      let seven : digits (drop 1 (field r 87 94)) ≡ true = of_T _ (every_drop digit 1 (field r 87 94) (T_of k)) in
      let all : digits (field r 80 94) ≡ true = rw (after_sender, every_append digit (field r 80 87) (field r 88 94), h, shared) seven in
      rw (all, shared, ← a_number (drop 1 (field r 87 94)) seven refl, last_seven (field r 87 94) (part_length r 87 94 (omega arith)) (T_of k))

  pub sequence_first : digits (field r 80 87) ≡ false → None ≡ sequence_of r
  unfolding sequence_of sequence_if
  sequence_first h = rw (after_sender, every_append digit (field r 80 87) (field r 88 94), h)

  pub sequence_last : digits (field r 87 94) ≡ false → None ≡ sequence_of r
  unfolding sequence_of sequence_if
  sequence_last h = rw (before_last, every_append digit (field r 80 86) (field r 87 94), h, and-false (digits (field r 80 86)))

-- what the number tells
module _ (r : List ℕ) where
  pub sequence_digits : {n : ℕ} → sequence_of r ≡ Some n → (digits (field r 80 94) ≡ true) × (number (field r 88 94) ≡ n)
  unfolding sequence_of sequence_if
  sequence_digits {n} e = go (digits (field r 80 94)) refl e
    where
      go : (d : Bool) → digits (field r 80 94) ≡ d → sequence_if d r ≡ Some n → (digits (field r 80 94) ≡ true) × (number (field r 88 94) ≡ n)
      go true q h = (q, cc)
      go false q h = let z : ◌≡◌ {A = ℕ} 0 1 = cc in absurd (omega arith)

  pub sequence_none : sequence_of r ≡ None → digits (field r 80 94) ≡ false
  unfolding sequence_of sequence_if
  sequence_none e = go (digits (field r 80 94)) refl e
    where
      go : (d : Bool) → digits (field r 80 94) ≡ d → sequence_if d r ≡ None → digits (field r 80 94) ≡ false
      go true q h = let z : ◌≡◌ {A = ℕ} 0 1 = cc in absurd (omega arith)
      go false q h = q

  -- the number in 88-94, counted or not
  pub number_told : {P : Type 0} {o : Option ℕ} {n : ℕ} → length r ≡ 94 → o ≡ sequence_of r → MatchOption o P (λ m. n ≡ m)
      → (P → (n ≡ number (field r 88 94)) × (n < 10 ^ 7)) → (n ≡ number (field r 88 94)) × (n < 10 ^ 7)
  number_told {o = Some m} l e h k =
      let q = (sequence_digits (sym e)).1 in
      (h ∙ sym q, rw (h, ← q) (number_bound 7 (field r 88 94) (part_length r 88 94 (omega arith))))
  number_told {o = None} l e h k = k h
