-- A file shared out: what is handed out to one entity.
use Rattle.std.specs.Prelude.{ℕ, Bool, true, false, List, ◌≡◌, leb, length, Option, Some, None, Result, Ok, Err}
use Rattle.paper.specs.declared.answer.Refusal.{Refusal}
use Rattle.paper.specs.declared.rules.Rules.{Rules}
use Rattle.paper.specs.Extract.{items_to}
use Rattle.paper.specs.Buffers.{Outcome, told, extracting}
use Rattle.paper.specs.Demands.{items_of}
use Rattle.desk.specs.declared.Session.{Session}
use Rattle.desk.specs.Standing.{rules_of}

-- what is handed out to one entity: nothing, or so many bytes of the buffer; or a refusal
abbrev pub Part : Type 0
Part = Result (Option ℕ) Refusal

-- nothing, with the buffer as it is handed back, or what extracting says
pub data Portion : Type 0 where
  nothing : List ℕ → Portion
  extracted : Outcome → Portion

-- does a batch of the file hold an individual record to E?
unfoldable pub holds_to : ℕ → List ℕ → Bool
holds_to e file = leb 1 (length (items_to e (items_of file)))

abbrev pub share_if : Bool → Outcome → List ℕ → Portion
share_if true o buffer = extracted o
share_if false o buffer = nothing buffer

-- sharing out for E: nothing, and the buffer stays, where no batch holds a record to it; else extracting
unfoldable pub sharing : Rules → ℕ → List ℕ → List ℕ → Portion
sharing rules e file buffer = share_if (holds_to e file) (extracting rules e file buffer) buffer

-- what the library says, with the buffer that it hands back
abbrev pub share_of : Part → List ℕ → Portion
share_of (Ok None) buffer = nothing buffer
share_of (Ok (Some n)) buffer = extracted (told (Ok n) buffer)
share_of (Err r) buffer = extracted (told (Err r) buffer)

-- of a session, an entity, a file and a lent buffer: the part, and the buffer after it
abbrev pub Shares : Session → ℕ → List ℕ → List ℕ → Part → List ℕ → Type 0
Shares s e file before r after = share_of r after ≡ sharing (rules_of s) e file before
