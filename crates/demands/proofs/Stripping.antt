-- What holds of the desk's own stripping, whatever was lent: each hypothesis is what a call of strip says.
use Prim.Native.Nat.{ℕ, ◌≤◌}
use mathlib.Core.List.{List}
use mathlib.Core.Path.{◌≡◌, refl, sym, ◌∙◌}
use lib.Dec.{leb, leb→le, le→leb}
use lib.ListN.{length, drop}
use Rattle.std.specs.Prelude.{Ok}
use Rattle.paper.specs.declared.answer.Fault.{Fault}
use Rattle.paper.specs.Answers.{Output, accepted, refusal, and_then}
use Rattle.paper.specs.Reading.{reading}
use Rattle.paper.specs.Trays.{strip}
use Rattle.paper.specs.Buffers.{told, written, room_for, stripping}
use Rattle.paper.proofs.Refusals.{both_accept, required, require_met}
use Rattle.paper.proofs.Lent.{stripping_length}
use Rattle.paper.proofs.Numbers.{told_once}
use Rattle.desk.specs.declared.Session.{Session}
use Rattle.desk.specs.Standing.{rules_of}
use Rattle.desk.specs.Lent.{handed}
use Rattle.desk.specs.Calls.{Strips}
use Rattle.demands.specs.Trays.{answer_to_strip, Strippable}
use Rattle.desk.proofs.Lent.{answers, asked, held}
use Rattle.demands.proofs.Lent.{same_length, numbers, inside, stays}

module _ (s : Session) (file before : List ℕ) where
  -- an answer of acceptance asks for all of it, and for no more
  all_asked : answer_to_strip s file before ≡ accepted → Strippable s file before
  unfolding room_for
  all_asked h =
      let x = both_accept (reading (rules_of s) file) (room_for (strip file) before) h in
      record { reads = x.0; room = leb→le (length (strip file)) (length before) (required (leb (length (strip file)) (length before)) 206 0 x.1) }

  no_more : Strippable s file before → answer_to_strip s file before ≡ accepted
  unfolding room_for and_then
  no_more x =
      let room = require_met (leb (length (strip file)) (length before)) 206 0 (le→leb (length (strip file)) (length before) x.room) in
      rw (x.reads, room) refl

  module _ (r : Output) (after : List ℕ) (h : Strips s file before r after) where
    says : told r after ≡ written (answer_to_strip s file before) (strip file) before
    unfolding stripping
    says = h

    -- demand 1: a refused call leaves the lent buffer as it was
    -- (not so with a strip that writes as it goes and then finds no room, or one that clears the buffer first)
    pub strip_refused : {fault : Fault} {place : ℕ} → r ≡ refusal fault place → after ≡ before
    strip_refused = stays (answer_to_strip s file before) (strip file) before r after says

    -- the first refusal is the answer: the reading's, then 206
    -- (not so with 206 asked before the reading, or with a refusal of its own for a file that the reading refuses)
    pub strip_answer : (told r after).answer ≡ answer_to_strip s file before
    strip_answer = answers (answer_to_strip s file before) (strip file) before r after says

    -- accepted exactly when the reading accepts and there is room
    -- (not so with a desk that refuses all, or one that asks for as much room as the file takes)
    pub strip_exactly : (Strippable s file before → r ≡ Ok (length (strip file))) × ((n : ℕ) → r ≡ Ok n → Strippable s file before)
    strip_exactly = (
      λ x. numbers (answer_to_strip s file before) (strip file) before r after says (no_more x),
      λ n p. all_asked (asked (answer_to_strip s file before) (strip file) before r after says p),
    )

    -- then the caller has the tray, its length is the number given, and the rest of the buffer stays
    -- (not so with a tray that keeps the file's numbers in 88-94, or a call that blanks the rest of the buffer)
    pub strip_held : {n : ℕ} → r ≡ Ok n → (handed r after ≡ strip file) × (n ≡ length (strip file)) × (drop n after ≡ drop n before)
    strip_held = held (answer_to_strip s file before) (strip file) before r after says

    -- the buffer comes back as long as it was
    pub strip_keeps_length : length after ≡ length before
    strip_keeps_length = same_length (stripping (rules_of s) file before) r after h (stripping_length (rules_of s) file before)

    -- the number given is within the buffer handed back
    -- (not so with a number that counts the file's bytes where the tray is shorter, or with a buffer cut short)
    pub strip_inside : {n : ℕ} → r ≡ Ok n → n ≤ length after
    strip_inside = inside (answer_to_strip s file before) (strip file) before r after says

    -- one outcome only: two calls that are lent the same answer alike and leave the same bytes
    -- (not so with a strip that answers by what the buffer held, or one that leaves what it likes behind the tray)
    pub strip_once : (q : Output) (later : List ℕ) → Strips s file before q later → (r ≡ q) × (after ≡ later)
    strip_once q later k = told_once r q after later (h ∙ sym k)
