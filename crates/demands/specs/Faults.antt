-- Why a caller is refused, in the parts that more than one job has.
use Rattle.std.specs.Prelude.{ℕ, ◌<◌, Bool, true, false, List, ◌⊎◌, ◌≡◌, length}
use Rattle.paper.specs.declared.rules.Rules.{Rules}
use Rattle.paper.specs.Demands.{Accepts, Faulty}

-- a number at 0 unless a test holds; where it holds, the faults that are asked for after it
abbrev pub Unless : Bool → ℕ → (ℕ → ℕ → Type 0) → ℕ → ℕ → Type 0
Unless test number later n place = ((test ≡ false) × (n ≡ number) × (place ≡ 0)) ⊎ ((test ≡ true) × later n place)

-- the reading's first fault; else 206 at 0, where the buffer is shorter than what is to be written
abbrev pub FaultyOrShort : Rules → List ℕ → List ℕ → List ℕ → ℕ → ℕ → Type 0
FaultyOrShort rules file new before n place = Faulty rules file n place ⊎ (Accepts rules file × (length before < length new) × (n ≡ 206) × (place ≡ 0))
