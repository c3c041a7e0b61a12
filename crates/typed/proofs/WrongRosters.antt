-- Where a text has a wrong word, and what the opening answers then.
use Prim.Native.Nat.{ℕ, ◌+◌}
use native.Mathlib.Omega.{arith}
use mathlib.Core.Bool.{Bool, true, false, ◌&&◌, cond, false≢true}
use mathlib.Core.List.{List, [], ◌∷◌, map}
use mathlib.Core.Logic.{◌↔◌}
use mathlib.Core.Path.{◌≡◌, refl}
use lib.ListN.{take}
use Rattle.paper.specs.declared.rules.Currency.{Currency}
use Rattle.paper.specs.Answers.{accepted, refused, and_then, require}
use Rattle.paper.specs.Dates.{is_date}
use Rattle.paper.specs.Fields.{within, every, number}
use Rattle.paper.specs.Sessions.{opening_answer, opening}
use Rattle.typed.specs.Rosters.{words_from, roster_typed, no_word, word_at, wrong_among, wrong_typed, begun, closed, read_on, entities_in}
use Rattle.typed.proofs.Rosters.{all_typed}

none_wrong : (words : List (List ℕ)) (n : ℕ) → (wrong_among n words ≡ no_word) ↔ (every (within 1 499) (map number words) ≡ true)
unfolding wrong_among every
none_wrong [] n = (λ e. refl, λ e. refl)
none_wrong (word ∷ words) n = go (within 1 499 (number word)) (none_wrong words (n + 1))
  where
    go : (b : Bool) → (wrong_among (n + 1) words ≡ no_word) ↔ (every (within 1 499) (map number words) ≡ true)
        → (cond b (wrong_among (n + 1) words) (word_at (n + 1) (take 64 word)) ≡ no_word) ↔ ((b && every (within 1 499) (map number words)) ≡ true)
    go true h = h
    go false h = (λ e. absurd (never e), λ e. absurd (false≢true e))
      where
        never : word_at (n + 1) (take 64 word) ≡ no_word → ⊥
        never e = let z : ◌≡◌ {A = ℕ} 0 1 = cc in omega arith

module _ (text : List ℕ) where
  -- all words of a text are entities exactly where there is none to tell
  pub wrong_exactly : (wrong_typed text ≡ no_word) ↔ (every (within 1 499) (roster_typed text) ≡ true)
  unfolding wrong_typed roster_typed
  wrong_exactly = none_wrong (words_from [] text) 0

  -- where the date is good, the opening answers 208 exactly where there is a word to tell
  pub refused_exactly : (date : ℕ) (currency : Currency) → is_date date ≡ true
      → ((opening date currency (entities_in (closed (read_on begun text)))).answer ≡ refused 208 0) ↔ (wrong_typed text ≡ no_word → ⊥)
  unfolding opening opening_answer and_then require
  refused_exactly date currency d = rw (d, all_typed text) (go (every (within 1 499) (roster_typed text)) wrong_exactly)
    where
      go : (b : Bool) → (wrong_typed text ≡ no_word) ↔ (b ≡ true) → (require b 208 0 ≡ refused 208 0) ↔ (wrong_typed text ≡ no_word → ⊥)
      go true h = (λ e. absurd (never e), λ n. absurd (n (h.1 refl)))
        where
          never : accepted ≡ refused 208 0 → ⊥
          never e = let z : ◌≡◌ {A = ℕ} 0 1 = cc in omega arith
      go false h = (λ e w. false≢true (h.0 w), λ n. refl)
