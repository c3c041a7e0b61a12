-- What stands at a byte, where there are so many bytes or fewer; and what showing answers.
use Rattle.std.proofs.Common.{◌≡◌, refl}
use Rattle.std.proofs.lemmas.List.{take_min, drop_min, take_rest}
use Rattle.paper.specs.Answers.{Said, accepted, refused}
use Rattle.paper.specs.Receiving.{TextPlace, shown_if}

-- what the check needs of a part's front, cut off where the part ends
pub ruleset front = (take_min, drop_min, take_rest)

-- the answer is the one that decided
pub shown_answer : (a : Said) (text : TextPlace) → (shown_if a text).answer ≡ a
unfolding shown_if
shown_answer accepted text = refl
shown_answer (refused n place) text = refl
