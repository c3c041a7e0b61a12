-- Numbers as they are typed are the numbers that their digits spell: one too long for the machine is refused, not cut.
use Prim.Native.Nat.{ℕ, ◌+◌, ◌-◌, ◌*◌, ◌^◌, ◌≤◌, ◌<◌}
use native.Mathlib.Omega.{arith}
use mathlib.Core.Bool.{Bool, true, false, ◌&&◌, cond, and-false, false≢true}
use mathlib.Core.List.{List, [], ◌∷◌}
use mathlib.Core.Path.{◌≡◌, refl, sym, ap, ◌∙◌}
use borrow.Author.Tests.{ltb-true, ltb-false, lt-ltb, le-ltb, lt-leb, leb-true, leb-false, eqb-true}
use lib.Dec.{ltb, leb, eqb}
use lib.ListN.{length}
use Rattle.paper.specs.declared.rules.Rules.{Rules}
use Rattle.paper.specs.Answers.{and_then, require}
use Rattle.paper.specs.Fields.{within, every, digit, digits, value_from, number}
use Rattle.paper.specs.Dates.{is_date}
use Rattle.paper.specs.Buffers.{written, entity_given, extracting}
use Rattle.paper.specs.Receiving.{receiving, showable, showing}
use Rattle.paper.proofs.Tests.{T_of}
use Rattle.paper.proofs.Digits.{digit_range, number_bound, ten_pos}
use Rattle.characters.proofs.Ranges.{over}
use Rattle.desk.proofs.Rosters.{below_500}
use Rattle.typed.specs.Words.{date_typed, grown, grown_by, entity_typed}

-- ---- a number as an entity's: 0 stands for all that are too high

unfoldable pub as_entity : ℕ → ℕ
as_entity n = cond (ltb n 500) n 0

pub as_within : (n : ℕ) → within 1 499 (as_entity n) ≡ within 1 499 n
unfolding as_entity
as_within n = go (ltb n 500) refl
  where
    go : (b : Bool) → ltb n 500 ≡ b → within 1 499 (cond b n 0) ≡ within 1 499 n
    go true e = refl
    go false e = let h = ltb-false n 500 e in over 1 499 n (omega arith) (omega arith)

pub as_below : (n : ℕ) → as_entity n < 500
unfolding as_entity
as_below n = go (ltb n 500) refl
  where
    go : (b : Bool) → ltb n 500 ≡ b → cond b n 0 < 500
    go true e = ltb-true n 500 e
    go false e = omega arith

-- an entity is itself
pub as_is : (n : ℕ) → within 1 499 n ≡ true → as_entity n ≡ n
unfolding as_entity
as_is n h = rw (lt-ltb n 500 (below_500 n h))

too_high : (n : ℕ) → 500 ≤ n → as_entity n ≡ 0
unfolding as_entity
too_high n h = rw (le-ltb n 500 h)

-- two numbers that are the same as entities are equal, or neither is an entity
module _ (a b : ℕ) (e : as_entity a ≡ as_entity b) where
  alike_within : within 1 499 a ≡ within 1 499 b
  alike_within = sym (as_within a) ∙ ap (within 1 499) e ∙ as_within b

  alike_is : within 1 499 a ≡ true → a ≡ b
  alike_is h = sym (as_is a h) ∙ e ∙ as_is b (sym alike_within ∙ h)

  -- what answers for all that are no entity as for 0 answers alike for both
  alike_by : {A : Type 0} (job : ℕ → A) → ((n : ℕ) → within 1 499 n ≡ false → job n ≡ job 0) → job a ≡ job b
  alike_by job k = go (within 1 499 a) refl
    where
      go : (w : Bool) → within 1 499 a ≡ w → job a ≡ job b
      go true h = ap job (alike_is h)
      go false h = k a h ∙ sym (k b (sym alike_within ∙ h))

-- ---- a number up to the most that is asked for

-- one more stands for all that are beyond
unfoldable pub up_to : ℕ → ℕ → ℕ
up_to most n = cond (leb n most) n (most + 1)

module _ (most : ℕ) where
  beyond : (n : ℕ) → most < n → up_to most n ≡ most + 1
  unfolding up_to
  beyond n h = rw (lt-leb n most h)

  grown_below : (n b : ℕ) → grown most n b ≤ most * 10 + 9
  unfolding grown
  grown_below n b = go (digit b) (leb n most) refl refl
    where
      go : (d l : Bool) → digit b ≡ d → leb n most ≡ l → cond (d && l) (n * 10 + (b - 48)) (most + 1) ≤ most * 10 + 9
      go true true e f = let r = digit_range b (T_of e) in let k = leb-true n most f in omega arith
      go true false e f = omega arith
      go false l e f = omega arith

  pub grown_by_below : (word : List ℕ) (n : ℕ) → n ≤ most * 10 + 9 → grown_by most n word ≤ most * 10 + 9
  unfolding grown_by
  grown_by_below [] n h = h
  grown_by_below (b ∷ bs) n h = grown_by_below bs (grown most n b) (grown_below n b)

  -- once beyond, always beyond
  grown_high : (word : List ℕ) (n : ℕ) → most < n → up_to most (grown_by most n word) ≡ most + 1
  unfolding grown_by grown
  grown_high [] n h = beyond n h
  grown_high (b ∷ bs) n h = rw (lt-leb n most h, and-false) (grown_high bs (most + 1) (omega arith))

  value_high : (word : List ℕ) (n : ℕ) → n ≤ value_from n word
  unfolding value_from
  value_high [] n = omega arith
  value_high (d ∷ ds) n = omega (arith, value_high ds (n * 10 + (d - 48)))

  number_high : (d : Bool) (word : List ℕ) (n : ℕ) → most < n → up_to most (cond d (value_from n word) (most + 1)) ≡ most + 1
  number_high true word n h = beyond (value_from n word) (omega (arith, value_high word n))
  number_high false word n h = beyond (most + 1) (omega arith)

  pub grown_value : (word : List ℕ) (n : ℕ) → up_to most (grown_by most n word) ≡ up_to most (cond (digits word) (value_from n word) (most + 1))
  unfolding grown_by grown value_from every
  grown_value [] n = refl
  grown_value (b ∷ bs) n = go (digit b) (leb n most) refl (grown_value bs more)
    where
      more : ℕ
      more = n * 10 + (b - 48)

      go : (d l : Bool) → leb n most ≡ l → up_to most (grown_by most more bs) ≡ up_to most (cond (digits bs) (value_from more bs) (most + 1))
          → up_to most (grown_by most (cond (d && l) more (most + 1)) bs) ≡ up_to most (cond (d && digits bs) (value_from more bs) (most + 1))
      go true true e h = h
      go true false e h =
          let k = leb-false n most e in
          grown_high bs (most + 1) (omega arith) ∙ sym (number_high (digits bs) bs more (omega arith))
      go false l e h = grown_high bs (most + 1) (omega arith) ∙ sym (beyond (most + 1) (omega arith))

-- ---- a word's entity

-- as an entity's
as_up_to : (n : ℕ) → as_entity (up_to 499 n) ≡ as_entity n
unfolding as_entity up_to
as_up_to n = go (leb n 499) refl
  where
    go : (b : Bool) → leb n 499 ≡ b → as_entity (cond b n 500) ≡ as_entity n
    go true e = refl
    go false e = sym (too_high n (omega (arith, leb-false n 499 e)))

module _ (word : List ℕ) where
  pub typed_entity : as_entity (entity_typed word) ≡ as_entity (number word)
  unfolding entity_typed number as_entity
  typed_entity = sym (as_up_to (entity_typed word)) ∙ ap as_entity (grown_value 499 word 0) ∙ as_up_to (cond (digits word) (value_from 0 word) 500) ∙ go (digits word)
    where
      go : (d : Bool) → as_entity (cond d (value_from 0 word) 500) ≡ as_entity (cond d (value_from 0 word) 0)
      go true = refl
      go false = refl

  -- a word is an entity exactly where its number is one, and then that number
  pub entity_within : within 1 499 (entity_typed word) ≡ within 1 499 (number word)
  entity_within = alike_within (entity_typed word) (number word) typed_entity

  pub entity_is : within 1 499 (entity_typed word) ≡ true → entity_typed word ≡ number word
  entity_is = alike_is (entity_typed word) (number word) typed_entity

  -- however long the word, it fits
  pub entity_below : entity_typed word < 5000
  unfolding entity_typed
  entity_below = omega (arith, grown_by_below 499 word 0 (omega arith))

  -- so the desk extracts, receives and shows for it as for the number, however long
  module _ (rules : Rules) (file : List ℕ) where
    pub extracting_typed : (buffer : List ℕ) → extracting rules (entity_typed word) file buffer ≡ extracting rules (number word) file buffer
    unfolding extracting written entity_given and_then require
    extracting_typed buffer = alike_by (entity_typed word) (number word) typed_entity (λ n. extracting rules n file buffer) (λ n h. rw h refl)

    pub receiving_typed : receiving rules (entity_typed word) file ≡ receiving rules (number word) file
    unfolding receiving entity_given and_then require
    receiving_typed = alike_by (entity_typed word) (number word) typed_entity (λ n. receiving rules n file) (λ n h. rw h refl)

    pub showing_typed : (motives : List ℕ) (place : ℕ) → showing rules (entity_typed word) file motives place ≡ showing rules (number word) file motives place
    unfolding showing showable entity_given and_then require
    showing_typed motives place = alike_by (entity_typed word) (number word) typed_entity (λ n. showing rules n file motives place) (λ n h. rw h refl)

  -- what is taken for a date is six digits, and the number that they spell
  pub date_is : is_date (date_typed word) ≡ true → (length word ≡ 6) × (date_typed word ≡ number word)
  unfolding date_typed is_date
  date_is h = go (eqb (length word) 6) refl h
    where
      go : (b : Bool) → eqb (length word) 6 ≡ b → is_date (cond b (number word) 0) ≡ true → (length word ≡ 6) × (cond b (number word) 0 ≡ number word)
      go true e k = (eqb-true (length word) 6 e, refl)
      go false e k = absurd (false≢true k)

  -- six digits spell no more
  pub date_below : date_typed word < 10 ^ 6
  unfolding date_typed
  date_below = go (eqb (length word) 6) refl
    where
      go : (b : Bool) → eqb (length word) 6 ≡ b → cond b (number word) 0 < 10 ^ 6
      go true e = number_bound 6 word (eqb-true (length word) 6 e)
      go false e = ten_pos 6
