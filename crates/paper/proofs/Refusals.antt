-- Answers in turn: what acceptance of a chain says of its parts.
use Prim.Native.Nat.{ℕ}
use native.Mathlib.Omega.{arith}
use mathlib.Core.Bool.{Bool, true, false}
use mathlib.Core.Logic.{◌⊎◌, inl, inr}
use mathlib.Core.Path.{◌≡◌, refl, sym}
use lib.Dec.{T}
use Rattle.paper.specs.Answers.{Said, accepted, refused, and_then, require}

pub refused_not : {n place : ℕ} → refused n place ≡ accepted → ⊥
refused_not h = let z : ◌≡◌ {A = ℕ} 0 1 = cc in omega arith

pub both_accept : (a b : Said) → and_then a b ≡ accepted → (a ≡ accepted) × (b ≡ accepted)
unfolding and_then
both_accept (refused n place) b h = absurd (refused_not h)
both_accept accepted b h = (refl, h)

pub required : (b : Bool) (n place : ℕ) → require b n place ≡ accepted → T b
unfolding require
required true n place h = tt
required false n place h = absurd (refused_not h)

pub require_met : (b : Bool) (n place : ℕ) → T b → require b n place ≡ accepted
unfolding require
require_met true n place t = refl
require_met false n place t = absurd t

-- a refusal of two answers is that of the first, or of the second where the first accepts
pub first_refusal : (a b : Said) {n place : ℕ} → and_then a b ≡ refused n place → (a ≡ refused n place) ⊎ ((a ≡ accepted) × (b ≡ refused n place))
unfolding and_then
first_refusal (refused m q) b e = inl e
first_refusal accepted b e = inr (refl, e)

-- what was required does not hold, and the refusal is the one asked for
pub require_refused : (b : Bool) (m q : ℕ) {n place : ℕ} → require b m q ≡ refused n place → (b ≡ false) × (n ≡ m) × (place ≡ q)
unfolding require
require_refused true m q h = absurd (refused_not (sym h))
require_refused false m q h = (refl, cc, cc)

pub and_then_assoc : (a b c : Said) → and_then (and_then a b) c ≡ and_then a (and_then b c)
unfolding and_then
and_then_assoc accepted b c = refl
and_then_assoc (refused n place) b c = refl
