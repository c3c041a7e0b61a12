-- A record's place as it is typed: showing answers as for the number typed, and 214 for what is no number.
use Prim.Native.Nat.{ℕ, ◌≤◌, ◌<◌, ◌/◌}
use native.Mathlib.Omega.{arith}
use mathlib.Core.Bool.{Bool, true, false, cond, false≢true}
use mathlib.Core.List.{List, [], ◌∷◌}
use mathlib.Core.Path.{◌≡◌, refl, sym, ap, ◌∙◌}
use borrow.Author.Tests.{leb-true, leb-false, le-leb, le-ltb}
use lib.Dec.{leb}
use lib.ListN.{length}
use Rattle.paper.specs.declared.rules.Rules.{Rules}
use Rattle.paper.specs.Answers.{Said, accepted, refused, and_then, require}
use Rattle.paper.specs.Fields.{every, digits, value_from, number}
use Rattle.paper.specs.Receiving.{showable, explains_at, text_at, nowhere, shown_if, showing}
use Rattle.desk.proofs.Members.{short}
use Rattle.typed.specs.Words.{grown_by, place_typed}
use Rattle.typed.proofs.Numbers.{up_to, grown_value}

-- ---- the function

pub no_word : (word : List ℕ) → length word ≡ 0 → 10000 ≡ place_typed word
unfolding place_typed
no_word [] h = refl
no_word (b ∷ word) h = absurd (omega arith)

pub a_word : (word : List ℕ) → (length word ≡ 0 → ⊥) → {n : ℕ} → n ≡ grown_by 9999 0 word → n ≡ place_typed word
unfolding place_typed
a_word [] h e = absurd (h refl)
a_word (b ∷ word) h e = e

-- ---- what it asks for

typed_some : (word : List ℕ) → (length word ≡ 0 → ⊥) → up_to 9999 (place_typed word) ≡ up_to 9999 (cond (digits word) (value_from 0 word) 10000)
unfolding place_typed
typed_some [] h = absurd (h refl)
typed_some (b ∷ word) h = grown_value 9999 (b ∷ word) 0

-- no digits are wanting in no word
not_empty : (word : List ℕ) → digits word ≡ false → length word ≡ 0 → ⊥
unfolding every
not_empty [] d h = false≢true (sym d)
not_empty (b ∷ word) d h = omega arith

-- two places that are the same up to 9,999 are equal, or past the end of every file
up_to_is : (a b : ℕ) → up_to 9999 a ≡ up_to 9999 b → a ≤ 9999 → a ≡ b
unfolding up_to
up_to_is a b e h = go (leb b 9999) refl (sym (rw (le-leb a 9999 h)) ∙ e)
  where
    go : (l : Bool) → leb b 9999 ≡ l → a ≡ cond l b 10000 → a ≡ b
    go true f q = q
    go false f q = absurd (omega arith)

module _ (rules : Rules) (e : ℕ) (file motives : List ℕ) where
  -- past the end of every file: 214, behind the refusals that go before it
  past : (a : ℕ) → 9999 < a → showing rules e file motives a ≡ shown_if (and_then (showable rules e file motives) (refused 214 0)) nowhere
  unfolding showing shown_if and_then require explains_at
  past a h = go (showable rules e file motives) refl
    where
      go : (s : Said) → showable rules e file motives ≡ s
          → shown_if (and_then s (require (explains_at file a) 214 0)) (text_at file a) ≡ shown_if (and_then s (refused 214 0)) nowhere
      go (refused n place) q = refl
      go accepted q = let l : length file ≤ 940000 = short rules e file motives q in rw (le-ltb a (length file / 94) (omega arith)) refl

  alike : (a b : ℕ) → up_to 9999 a ≡ up_to 9999 b → showing rules e file motives a ≡ showing rules e file motives b
  alike a b q = go (leb a 9999) (leb b 9999) refl refl
    where
      go : (l m : Bool) → leb a 9999 ≡ l → leb b 9999 ≡ m → showing rules e file motives a ≡ showing rules e file motives b
      go true m f g = ap (showing rules e file motives) (up_to_is a b q (leb-true a 9999 f))
      go false true f g = sym (ap (showing rules e file motives) (up_to_is b a (sym q) (leb-true b 9999 g)))
      go false false f g = past a (leb-false a 9999 f) ∙ sym (past b (leb-false b 9999 g))

  module _ (word : List ℕ) where
    -- digits ask for the number that they spell, however many they are
    pub showing_spelled : (length word ≡ 0 → ⊥) → digits word ≡ true → showing rules e file motives (place_typed word) ≡ showing rules e file motives (number word)
    unfolding number
    showing_spelled h d = alike (place_typed word) (number word) (typed_some word h ∙ rw d refl)

    -- and what is no number for a record that no file has
    pub showing_none : digits word ≡ false → showing rules e file motives (place_typed word) ≡ shown_if (and_then (showable rules e file motives) (refused 214 0)) nowhere
    unfolding up_to
    showing_none d = alike (place_typed word) 10000 (typed_some word (not_empty word d) ∙ rw d refl) ∙ past 10000 (omega arith)

    pub showing_empty : length word ≡ 0 → showing rules e file motives (place_typed word) ≡ shown_if (and_then (showable rules e file motives) (refused 214 0)) nowhere
    showing_empty h = ap (showing rules e file motives) (sym (no_word word h)) ∙ past 10000 (omega arith)
