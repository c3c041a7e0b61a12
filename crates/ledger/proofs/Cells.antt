-- The cells after postings: one list after another, and a posting as its two sides.
use Prim.Native.Nat.{ℕ, zero, suc, ◌+◌, ◌<◌}
use native.Mathlib.Nat.{zero-add, add-zero, add_assoc}
use native.Mathlib.Omega.{arith}
use mathlib.Core.Bool.{Bool, true, false, cond, not}
use mathlib.Core.List.{[], List, ◌∷◌, ◌++◌}
use mathlib.Core.Path.{◌≡◌, refl, sym, ap, ◌∙◌, ap₂}
use lib.Dec.{eqb}
use lib.IntN.{ℤ, pos, ◌+ℤ◌, +ℤ_assoc, +ℤ_idr, +ℤ_idl}
use lib.ListN.{length, get_or, set, length-set}
use lib.Seq.{get_or-set_same, get_or-set_other, ext_get_or}
use borrow.Author.Tests.{eqb-true, eqb-false}
use Rattle.paper.specs.declared.ledger.Cell.{Cell}
use Rattle.paper.specs.Postings.{Posting, signed, effect, position, how_many, sent, received}
use Rattle.paper.specs.Sessions.{zero_cell, cell_after, cells_after}
use Rattle.paper.proofs.Sums.{position_append, count_append}
use Rattle.paper.proofs.Figures.{length_after}
use Rattle.ledger.specs.Sides.{side}

same_cell : {c d : Cell} → c.position ≡ d.position → c.sent ≡ d.sent → c.received ≡ d.received → c ≡ d
same_cell p s r = λ i. record { position = p i; sent = s i; received = r i }

-- ---- one list after another

cell_append : (e : ℕ) (ps qs : List Posting) (c : Cell) → cell_after e (ps ++ qs) c ≡ cell_after e qs (cell_after e ps c)
unfolding cell_after
cell_append e ps qs c =
    same_cell
    (ap (λ (z : ℤ). c.position +ℤ z) (position_append e ps qs) ∙ sym (+ℤ_assoc c.position (position e ps) (position e qs)))
    (ap (λ (n : ℕ). c.sent + n) (count_append (λ p. eqb e p.sender) ps qs) ∙ sym (add_assoc c.sent (sent e ps) (sent e qs)))
    (ap (λ (n : ℕ). c.received + n) (count_append (λ p. eqb e p.destination) ps qs) ∙ sym (add_assoc c.received (received e ps) (received e qs)))

pub cells_append : (e : ℕ) (ps qs : List Posting) (cs : List Cell) → cells_after e (ps ++ qs) cs ≡ cells_after e qs (cells_after e ps cs)
unfolding cells_after
cells_append e ps qs [] = refl
cells_append e ps qs (c ∷ cs) = ap₂ ◌∷◌ (cell_append e ps qs c) (cells_append (e + 1) ps qs cs)

pub cells_none : (e : ℕ) (cs : List Cell) → cells_after e [] cs ≡ cs
unfolding cells_after cell_after position how_many
cells_none e [] = refl
cells_none e (c ∷ cs) = ap₂ ◌∷◌ (same_cell (+ℤ_idr c.position) (add-zero c.sent) (add-zero c.received)) (cells_none (e + 1) cs)

-- ---- by place

at_cell : (e i : ℕ) (ps : List Posting) (cs : List Cell) → i < length cs → get_or (cells_after e ps cs) i zero_cell ≡ cell_after (e + i) ps (get_or cs i zero_cell)
unfolding cells_after
at_cell e i ps [] l = absurd (omega arith)
at_cell e zero ps (c ∷ cs) l = ap (λ (n : ℕ). cell_after n ps c) (sym (add-zero e))
at_cell e (suc i) ps (c ∷ cs) l =
    let q : e + 1 + i ≡ e + suc i = omega arith in
    at_cell (e + 1) i ps cs (omega arith) ∙ ap (λ (n : ℕ). cell_after n ps (get_or cs i zero_cell)) q

-- one cell changed where it lies
abbrev pub changed : ℕ → (Cell → Cell) → List Cell → List Cell
changed i f cs = set cs i (f (get_or cs i zero_cell))

at_changed : (i j : ℕ) (f : Cell → Cell) (cs : List Cell) → j < length cs
    → get_or (changed i f cs) j zero_cell ≡ cond (eqb j i) (f (get_or cs j zero_cell)) (get_or cs j zero_cell)
at_changed i j f cs l = go (eqb j i) refl
  where
    go : (b : Bool) → eqb j i ≡ b → get_or (changed i f cs) j zero_cell ≡ cond b (f (get_or cs j zero_cell)) (get_or cs j zero_cell)
    go true e = let q : j ≡ i = eqb-true j i e in rw (← q) (get_or-set_same cs j (f (get_or cs j zero_cell)) zero_cell l)
    go false e = get_or-set_other cs i j (f (get_or cs i zero_cell)) zero_cell (eqb-false j i e)

-- ---- a posting as its two sides

abbrev pub sender_side : Posting → Cell → Cell
sender_side p = side p.collects p.amount 1 0

abbrev pub destination_side : Posting → Cell → Cell
destination_side p = side (not p.collects) p.amount 0 1

sides : (e : ℕ) (p : Posting) (c : Cell)
    → cell_after e (p ∷ []) c ≡ (let d = cond (eqb e p.sender) (sender_side p c) c in cond (eqb e p.destination) (destination_side p d) d)
unfolding cell_after position effect how_many side
sides e p c = go (eqb e p.sender) (eqb e p.destination)
  where
    up : ℤ
    up = signed p.collects p.amount

    down : ℤ
    down = signed (not p.collects) p.amount

    go : (s r : Bool)
        → ◌≡◌ {A = Cell} (record {
          position = c.position +ℤ (cond s up (pos 0) +ℤ cond r down (pos 0) +ℤ pos 0);
          sent = c.sent + (cond s 1 0 + 0);
          received = c.received + (cond r 1 0 + 0);
        }) (cond r (destination_side p (cond s (sender_side p c) c)) (cond s (sender_side p c) c))
    go true true = same_cell (simp (+ℤ_idr, +ℤ_assoc)) (omega arith) (omega arith)
    go true false = same_cell (simp +ℤ_idr) (omega arith) (omega arith)
    go false true = same_cell (simp (+ℤ_idr, +ℤ_idl)) (omega arith) (omega arith)
    go false false = same_cell (+ℤ_idr c.position) (omega arith) (omega arith)

pub posted : (p : Posting) (cs : List Cell)
    → cells_after 0 (p ∷ []) cs ≡ changed p.destination (destination_side p) (changed p.sender (sender_side p) cs)
posted p cs =
    let ds = changed p.sender (sender_side p) cs in
    let k : length ds ≡ length cs = length-set cs p.sender (sender_side p (get_or cs p.sender zero_cell)) in
    let m : length (changed p.destination (destination_side p) ds) ≡ length ds = length-set ds p.destination (destination_side p (get_or ds p.destination zero_cell)) in
    let n = length_after (p ∷ []) 0 cs in
    ext_get_or zero_cell (cells_after 0 (p ∷ []) cs) (changed p.destination (destination_side p) ds) (omega arith)
    (λ i l. at_cell 0 i (p ∷ []) cs (omega arith)
    ∙ ap (λ (n : ℕ). cell_after n (p ∷ []) (get_or cs i zero_cell)) (zero-add i)
    ∙ sides i p (get_or cs i zero_cell)
    ∙ ap (λ (d : Cell). cond (eqb i p.destination) (destination_side p d) d) (sym (at_changed p.sender i (sender_side p) cs (omega arith)))
    ∙ sym (at_changed p.destination i (destination_side p) ds (omega arith)))
