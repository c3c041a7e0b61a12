-- The lines of answers: how they are made up, how long their words are, and when an opening prints nothing.
use Prim.Native.Nat.{◌≤◌}
use mathlib.Core.List.{[], ◌++◌}
use mathlib.Core.Logic.{◌↔◌}
use mathlib.Core.Path.{◌≡◌, refl, ap}
use native.Mathlib.Omega.{arith}
use lib.ListN.{length, length-append}
use Rattle.paper.specs.Answers.{Said, accepted, refused}
use Rattle.paper.specs.Fields.{bytes}
use Rattle.paper.specs.Listing.{line_feed, refusal_line}
use Rattle.writing.proofs.Decimals.{decimal_most}
use Rattle.listing.proofs.Showing.{shown_most}
use Rattle.listing.specs.Answers.{answer_line, opening_line, answer_words}

-- an opening prints nothing exactly where it is accepted
pub opening_silent : (a : Said) → (opening_line a ≡ []) ↔ (a ≡ accepted)
unfolding opening_line
opening_silent accepted = (λ _. refl, λ _. refl)
opening_silent (refused n place) = (
  λ e. absurd (omega (arith, ap length e, length-append (bytes "OPENING ") (refusal_line n place))),
  λ e. ap opening_line e,
)

-- the line of an answer is its words, and ends there
pub answer_words_lem : (a : Said) → answer_line a ≡ answer_words a ++ line_feed
unfolding answer_line answer_words refusal_line
answer_words_lem accepted = refl
answer_words_lem (refused n place) = refl

pub words_most : (a : Said) → length (answer_words a) ≤ 52
unfolding answer_words
words_most accepted = omega arith
words_most (refused n place) = simp length-append (omega (arith, decimal_most n, decimal_most place))

-- what the check needs of lines with an answer or a name in them
pub ruleset told_lines = (answer_words_lem, words_most, shown_most)
