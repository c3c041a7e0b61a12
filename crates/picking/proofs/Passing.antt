-- The pass over a file, turn by turn.
use Prim.Native.Nat.{ℕ, ◌+◌}
use mathlib.Core.Bool.{false}
use mathlib.Core.List.{List}
use mathlib.Core.Path.{◌≡◌, refl}
use native.Mathlib.Numerals.{add-one}
use lib.ListN.{length}
use Rattle.paper.specs.Buffers.{over}
use Rattle.picking.specs.declared.Picking.{Picking}
use Rattle.picking.specs.Notes.{is_going, waiting, notes_with, notes_after}
use Rattle.picking.specs.Picks.{InHand, Moves}

-- after so many of the records
pub record Passing (e : ℕ) (file before : List ℕ) (s : Picking) (after : List ℕ) (place : ℕ) : Type 0 where
  pub long : length before ≡ 10000
  pub noted : InHand (notes_after e file place) before s after

pub begun : (e : ℕ) (file before : List ℕ) → InHand (notes_after e file 0) before (record { count = 0; next = 0; batches = 0; mine = false }) before
unfolding notes_after is_going waiting over
begun e file before = record { count = refl; next = refl; batches = refl; mine = refl; places = refl; long = refl }

pub turn : (e : ℕ) (file : List ℕ) (place : ℕ) {before entry exit : List ℕ} {s t : Picking} → InHand (notes_after e file place) before s entry
    → Moves (notes_with e file place) entry s exit t → InHand (notes_after e file (place + 1)) before t exit
unfolding notes_after
turn e file place {before} h m = rw add-one (m (notes_after e file place) before h)
