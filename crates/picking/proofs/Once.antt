-- No second outcome: the entity, the file and the buffer before fix the answer and the whole buffer after.
use Prim.Native.Nat.{ℕ}
use mathlib.Core.List.{List}
use mathlib.Core.Path.{◌≡◌, sym, ◌∙◌}
use Rattle.picking.specs.declared.Picked.{Picked}
use Rattle.picking.specs.Picks.{Picks}

pub pick_once : (e : ℕ) (file before : List ℕ) {p q : Picked} {a b : List ℕ} → Picks e file before p a → Picks e file before q b → (p ≡ q) × (a ≡ b)
pick_once e file before x y =
    (λ i. record { count = (x.count ∙ sym y.count) i; batches = (x.batches ∙ sym y.batches) i }, x.places ∙ sym y.places)
