-- A batch as it is written: a block of its header, its records and its control.
use Rattle.std.specs.Prelude.{ℕ, Bool, false, not, cond, List, [], ◌∷◌, ◌++◌, ◌≡◌, length}
use Rattle.paper.specs.declared.record.Kind.{Kind}
use Rattle.paper.specs.declared.record.Kind.TheVariants.{FileHeader, BatchHeader, Individual, Additional, BatchControl, FileControl, Other}
use Rattle.paper.specs.declared.record.Tally.{Tally}
use Rattle.paper.specs.Kinds.{opens_batch, kind_of}
use Rattle.paper.specs.Controls.{zeros, with_individual, with_additional}
use Rattle.paper.specs.Writing.{joined, numbered, batch_control_of}
use Rattle.paper.specs.Buffers.{over}

-- the records before the next batch header
unfoldable pub own_of : List (List ℕ) → List (List ℕ)
own_of [] = []
own_of (r ∷ rs) = cond (opens_batch (kind_of r)) [] (r ∷ own_of rs)

-- whether a list begins with such a record
unfoldable pub own_at : List (List ℕ) → Bool
own_at [] = false
own_at (r ∷ rs) = not (opens_batch (kind_of r))

-- what a control counts of a record
unfoldable pub with_record : Kind → Tally → List ℕ → Tally
with_record FileHeader t r = t
with_record BatchHeader t r = t
with_record Individual t r = with_individual t r
with_record Additional t r = with_additional t
with_record BatchControl t r = t
with_record FileControl t r = t
with_record Other t r = t

unfoldable pub tallied : Tally → List (List ℕ) → Tally
tallied t [] = t
tallied t (r ∷ rs) = tallied (with_record (kind_of r) t r) rs

-- a header under its number, its records, and the control that counts them
unfoldable pub block : ℕ → List ℕ → List (List ℕ) → List (List ℕ)
block n header own = numbered n header ∷ (own ++ batch_control_of (numbered n header) (tallied zeros own) ∷ [])

-- records laid over a buffer's front, with the number of a batch's own, and what a control counts of these
pub record Batched (all own : List (List ℕ)) (before after : List ℕ) (n : ℕ) (t : Tally) : Type 0 where
  pub bytes : after ≡ over (joined all) before
  pub count : n ≡ length own
  pub tally : t ≡ tallied zeros own
