-- The words in which the hand-out of a whole file is stated.
use Rattle.std.specs.Prelude.{ℕ, cond, List, [], ◌∷◌, ◌⊎◌, ◌≡◌, take, Some, None, Ok, Err}
use Rattle.paper.specs.Fields.{within}
use Rattle.paper.specs.Extract.{Item}
use Rattle.paper.specs.Demands.{addressee}
use Rattle.sharing.specs.Shares.{Part}

-- the bytes handed out: the first of the buffer, or none
unfoldable pub bytes_of : Part → List ℕ → List ℕ
bytes_of (Ok None) buffer = []
bytes_of (Ok (Some n)) buffer = take n buffer
bytes_of (Err r) buffer = []

-- the file written for a number, of the parts and the buffers after the calls for 1 to 499: none for any other number
unfoldable pub written_for : (ℕ → Part) → (ℕ → List ℕ) → ℕ → List ℕ
written_for r after e = cond (within 1 499 e) (bytes_of (r e) (after e)) []

-- one of the items is addressed to E
abbrev pub Addressed : ℕ → List Item → Type 0
Addressed e [] = ⊥
Addressed e (i ∷ is) = (addressee i ≡ e) ⊎ Addressed e is
