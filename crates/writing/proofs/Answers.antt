-- The answer of a job that writes into a lent buffer, where the size of what it writes is known.
use Prim.Native.Nat.{ℕ, ◌≤◌, ◌<◌}
use mathlib.Core.List.{List}
use mathlib.Core.Path.{◌≡◌, refl}
use native.Mathlib.Omega.{arith}
use borrow.Author.Tests.{le-leb, lt-leb}
use lib.ListN.{length}
use Rattle.paper.specs.Answers.{accepted, refused, require}
use Rattle.paper.specs.Buffers.{over, written, room_for}

module _ (new buffer : List ℕ) {size : ℕ} (e : length new ≡ size) where
  pub no_room : length buffer < size → record { answer = refused 206 0; size = 0; buffer = buffer } ≡ written (room_for new buffer) new buffer
  unfolding written room_for require
  no_room h = rw (lt-leb (length new) (length buffer) (omega (arith, e))) refl

  pub has_room : size ≤ length buffer → {after : List ℕ} → after ≡ over new buffer
      → record { answer = accepted; size = size; buffer = after } ≡ written (room_for new buffer) new buffer
  unfolding written room_for require
  has_room h a = rw (le-leb (length new) (length buffer) (omega (arith, e)), a, e) refl
