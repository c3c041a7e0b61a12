-- An amount of a code of the paper's stands on one side, and any other on neither.
use Prim.Native.Nat.{ℕ}
use mathlib.Core.Bool.{cond}
use mathlib.Core.Path.{◌≡◌, refl}
use Rattle.paper.specs.declared.record.Code.{Code}
use Rattle.paper.specs.declared.record.Code.TheVariants.{Order, Rejection, Reversal, ReversalRejection, Unknown}
use Rattle.paper.specs.Kinds.{known, collects, pays}

pub sides : (code : Code) (amount : ℕ)
    → (cond (collects code) (cond (known code) amount 0) 0 ≡ cond (collects code) amount 0) × (cond (collects code) 0 (cond (known code) amount 0) ≡ cond (pays code) amount 0)
sides Order amount = (refl, refl)
sides Rejection amount = (refl, refl)
sides Reversal amount = (refl, refl)
sides ReversalRejection amount = (refl, refl)
sides Unknown amount = (refl, refl)
