-- Posting, one record further.
use Prim.Native.Nat.{ℕ, suc, ◌+◌, ◌/◌, ◌≤◌, ◌<◌}
use native.Mathlib.Omega.{arith}
use mathlib.Core.Bool.{Bool, not}
use mathlib.Core.List.{[], List, ◌∷◌}
use mathlib.Core.Path.{◌≡◌, refl, ap, ◌∙◌}
use lib.ListN.{length, get_or, drop, set, drop_of_length-le}
use Rattle.paper.specs.declared.ledger.Cell.{Cell}
use Rattle.paper.specs.declared.record.Kind.{Kind}
use Rattle.paper.specs.declared.record.Kind.TheVariants.{FileHeader, BatchHeader, Individual, Additional, BatchControl, FileControl, Other}
use Rattle.paper.specs.Kinds.{kind_of, code_of, collects}
use Rattle.paper.specs.Records.{amount_of, destination_in, sender_in}
use Rattle.paper.specs.Reading.{parts, records_of, record_at}
use Rattle.paper.specs.Postings.{Posting, posting, posted_by, own_postings}
use Rattle.paper.specs.Sessions.{zero_cell, cells_after}
use Rattle.paper.proofs.Lists.{length_parts}
use Rattle.paper.proofs.Places.{parts_from}
use Rattle.ledger.specs.Sides.{side}
use Rattle.ledger.proofs.Cells.{cells_append, cells_none, posted}

-- the cells after the records from a place on
abbrev pub from : List ℕ → ℕ → List Cell → List Cell
from file i cs = cells_after 0 (own_postings (drop i (records_of file))) cs

pub none_left : (file : List ℕ) (i : ℕ) (cs : List Cell) → length file / 94 ≤ i → from file i cs ≡ cs
unfolding records_of own_postings
none_left file i cs l = rw (drop_of_length-le (parts 94 (length file / 94) file) {i = i} (omega (arith, length_parts 94 (length file / 94) file))) (cells_none 0 cs)

-- the record at place i
module _ (file : List ℕ) (i : ℕ) (cs : List Cell) (r : List ℕ) (here : r ≡ record_at file i) (l : i < length file / 94) where
  go_on : {ps : List Posting} → ps ≡ posted_by (kind_of r) (sender_in r) r → from file i cs ≡ from file (i + 1) (cells_after 0 ps cs)
  unfolding record_at records_of own_postings
  go_on e =
      let k : i + 1 ≡ suc i = omega arith in
      rw (k, parts_from 94 (length file / 94) file i l, ← here, e) (cells_append 0 (posted_by (kind_of r) (sender_in r) r) _ cs)

  -- one of another kind posts nothing
  none : (k : Kind) → (k ≡ Individual → ⊥) → posted_by k (sender_in r) r ≡ []
  unfolding posted_by
  none FileHeader d = refl
  none BatchHeader d = refl
  none Individual d = absurd (d refl)
  none Additional d = refl
  none BatchControl d = refl
  none FileControl d = refl
  none Other d = refl

  pub passes : {k : Kind} → k ≡ kind_of r → (k ≡ Individual → ⊥) → from file i cs ≡ from file (i + 1) cs
  passes {k} e d = go_on (rw (← e, none k d) refl) ∙ ap (from file (i + 1)) (cells_none 0 cs)

  -- an individual record posts both its sides
  pub posts : {s d a : ℕ} {b : Bool} {x y : Cell} → Individual ≡ kind_of r → s ≡ sender_in r → d ≡ destination_in r → b ≡ collects (code_of r) → a ≡ amount_of r
      → x ≡ side b a 1 0 (get_or cs s zero_cell) → y ≡ side (not b) a 0 1 (get_or (set cs s x) d zero_cell)
      → from file i cs ≡ from file (i + 1) (set (set cs s x) d y)
  unfolding posted_by posting
  posts k s d b a x y =
      go_on {ps = posting (sender_in r) r ∷ []} (rw (← k))
      ∙ ap (from file (i + 1)) (posted (posting (sender_in r) r) cs ∙ rw (y, x, s, d, b, a))
