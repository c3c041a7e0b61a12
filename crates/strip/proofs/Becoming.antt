-- What one record becomes on a tray.
use Prim.Native.Nat.{ℕ, ◌*◌, ◌≤◌}
use mathlib.Core.List.{List, [], ◌∷◌, ◌++◌, append-nil}
use mathlib.Core.Path.{◌≡◌, sym, ap, ◌∙◌}
use native.Mathlib.Omega.{arith}
use lib.ListN.{length}
use Rattle.paper.specs.declared.record.Kind.{Kind}
use Rattle.paper.specs.Kinds.{kind_of}
use Rattle.paper.specs.Writing.{joined}
use Rattle.paper.specs.Trays.{zeroed, marked, stripped}
use Rattle.paper.specs.Buffers.{over}
use Rattle.paper.proofs.Lists.{length_joined}
use Rattle.paper.proofs.Back.{stripped_sized}
use Rattle.strip.specs.Tray.{on_tray, ToMark}

-- its bytes, by how many tray records it is
pub tray_bytes_lem : (r : List ℕ) → length r ≡ 94 → length (on_tray r) ≡ length (marked (kind_of r) r) * 96
unfolding on_tray stripped
tray_bytes_lem r l = length_joined 96 (marked (kind_of r) r) (rw (append-nil (marked (kind_of r) r)) at (stripped_sized (r ∷ []) (l, tt)))

-- a record of a kind that has a mark, as it was read
module _ (mark r : List ℕ) {k kind : Kind} (is : k ≡ kind_of r) (told : k ≡ kind) (e : marked kind r ≡ (mark ++ zeroed r) ∷ []) (long : length r ≡ 94) where
  one : marked (kind_of r) r ≡ (mark ++ zeroed r) ∷ []
  one = rw (sym told ∙ is) at e

  bytes : length (on_tray r) ≡ 96
  bytes = tray_bytes_lem r long ∙ ap (λ (ts : List (List ℕ)). length ts * 96) one

  pub mark_asked : length mark ≡ 2 → (buffer : List ℕ) → length (on_tray r) ≤ length buffer → ToMark mark r buffer
  mark_asked two buffer room = record { two = two; long = long; room = omega (arith, bytes) }

  pub mark_put : (x : List ℕ) {n : ℕ} {y : List ℕ} → (n ≡ 96) × (y ≡ over (mark ++ zeroed r) x) → (n ≡ length (on_tray r)) × (y ≡ over (on_tray r) x)
  unfolding on_tray joined
  mark_put x p = (p.0 ∙ sym bytes, p.1 ∙ rw (one, append-nil (mark ++ zeroed r)))
