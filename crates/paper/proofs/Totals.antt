-- The sums of a listing: over the cells of entities 1 to n no sum leaves 64 bits, and over all of them positions cancel, and sent is received.
use Prim.Native.Nat.{ℕ, zero, suc, ◌≤◌}
use native.Mathlib.Omega.{arith}
use mathlib.Core.List.{[], List, ◌∷◌}
use mathlib.Core.Path.{◌≡◌, refl, sym, ap, ◌∙◌}
use lib.IntN.{ℤ, pos, nat_abs, ◌+ℤ◌, +ℤ_idl}
use lib.ListN.{length, get_or}
use borrow.Author.Tests.{ne_eqb}
use Rattle.paper.specs.declared.rules.Rules.{Rules}
use Rattle.paper.specs.declared.ledger.Cell.{Cell}
use Rattle.paper.specs.Postings.{Posting, position, how_many, sent, received}
use Rattle.paper.specs.Sessions.{Session, zero_cell}
use Rattle.paper.specs.Listing.{plus_cell, cell_sums}
use Rattle.paper.specs.Demands.{Arose, postings_of, Agrees, Touched, sum_to, session_sides}
use Rattle.paper.proofs.Sums.{first_adds, named_by, postings_naming, own}
use Rattle.paper.proofs.Places.{AllSound}
use Rattle.paper.proofs.Figures.{figures, sums_agree, positions_zero, sent_sum, received_sum}
use Rattle.paper.proofs.Room.{sound_came, Totalled, totalled_touched}

-- ---- entity 0 is none

naming_none : (rules : Rules) (ps : List Posting) → AllSound rules ps → postings_naming 0 ps ≡ []
unfolding postings_naming named_by
naming_none rules [] s = refl
naming_none rules (p ∷ ps) s =
    let sender = s.0.sender_low in
    let destination = s.0.destination_low in
    rw (ne_eqb 0 p.sender (omega arith), ne_eqb 0 p.destination (omega arith)) (naming_none rules ps s.1)

-- no accepted record names entity 0
pub cell_none : {s : Session} {files : List (List ℕ)} → Arose s files → get_or s.cells 0 zero_cell ≡ zero_cell
unfolding position how_many
cell_none {s} {files} c =
    let ps : List Posting = postings_of files in
    let a = figures c 0 (omega arith) in
    let o = own 0 ps in
    let none = naming_none s.rules ps (sound_came c) in
    λ i. record {
      position = (a.position ∙ o.position ∙ ap (position 0) none) i;
      sent = (a.sent ∙ o.sent ∙ ap (sent 0) none) i;
      received = (a.received ∙ o.received ∙ ap (received 0) none) i;
    }

-- ---- sums over cells

-- a figure that adds up with cells, over entities 1 to n: entity 0 adds nothing
sums_cells : {s : Session} {files : List (List ℕ)} → Arose s files → (n : ℕ) (figure : Cell → ℤ)
    → ((a b : Cell) → figure (plus_cell a b) ≡ figure a +ℤ figure b) → figure (cell_sums n s.cells) ≡ sum_to (suc n) (λ e. figure (get_or s.cells e zero_cell))
unfolding cell_sums sum_to
sums_cells {s} c zero figure plus = sym (+ℤ_idl (figure (get_or s.cells 0 zero_cell)) ∙ ap figure (cell_none c))
sums_cells {s} c (suc n) figure plus =
    plus (cell_sums n s.cells) (get_or s.cells (suc n) zero_cell) ∙ ap (λ (z : ℤ). z +ℤ figure (get_or s.cells (suc n) zero_cell)) (sums_cells c n figure plus)

sums_came : {s : Session} {files : List (List ℕ)} → Arose s files → (n : ℕ) → n ≤ 499
    → Totalled (sum_to (suc n)) (cell_sums n s.cells) (postings_of files)
unfolding plus_cell
sums_came {s} {files} c n l = record {
  position = whole (λ d. d.position) (λ a b. refl) (λ e. position e (postings_of files)) (λ d e a. a.position);
  sent = whole (λ d. pos d.sent) (λ a b. refl) (λ e. pos (sent e (postings_of files))) (λ d e a. ap pos a.sent);
  received = whole (λ d. pos d.received) (λ a b. refl) (λ e. pos (received e (postings_of files))) (λ d e a. ap pos a.received);
}
  where
    whole : (figure : Cell → ℤ) → ((a b : Cell) → figure (plus_cell a b) ≡ figure a +ℤ figure b) → (posted : ℕ → ℤ)
        → ((d : Cell) (e : ℕ) → Agrees d e (postings_of files) → figure d ≡ posted e) → figure (cell_sums n s.cells) ≡ sum_to (suc n) posted
    whole figure plus posted same = sums_cells c n figure plus ∙ sums_agree c (suc n) (omega arith) figure posted same

pub sums_touched : {s : Session} {files : List (List ℕ)} → Arose s files → (n : ℕ) → n ≤ 499 → Touched session_sides (cell_sums n s.cells)
sums_touched c n l = totalled_touched c (first_adds (suc n)) (sums_came c n l)

-- the sums over all entities: no position, and as many records received as sent
pub sums_whole : {s : Session} {files : List (List ℕ)} → Arose s files
    → ((cell_sums 499 s.cells).position ≡ pos 0) × ((cell_sums 499 s.cells).sent ≡ length (postings_of files)) × ((cell_sums 499 s.cells).received ≡ length (postings_of files))
unfolding plus_cell
sums_whole c = (
  sums_cells c 499 (λ d. d.position) (λ a b. refl) ∙ positions_zero c,
  ap nat_abs (sums_cells c 499 (λ d. pos d.sent) (λ a b. refl) ∙ sent_sum c),
  ap nat_abs (sums_cells c 499 (λ d. pos d.received) (λ a b. refl) ∙ received_sum c),
)
