-- What picking hands back: two numbers and the whole buffer.
use Rattle.std.specs.Prelude.{ℕ, ◌+◌, ◌≤◌, ◌<◌, List, ◌++◌, ◌≡◌, length}
use Rattle.paper.specs.Buffers.{over}
use Rattle.field.specs.Places.{InFile}
use Rattle.picking.specs.declared.Picked.{Picked}
use Rattle.picking.specs.declared.Picking.{Picking}
use Rattle.picking.specs.Notes.{Notes, is_going, waiting, goes_to, headers_to, waits_at}

-- before the record at a place
pub record Fits (place : ℕ) (s : Picking) : Type 0 where
  pub waits : s.count ≤ s.next
  pub one : s.next ≤ s.count + 1
  pub next : s.next ≤ place
  pub batches : s.batches ≤ s.count

-- one entry of a buffer of 10,000 places
pub record ToPut (at place : ℕ) (places : List ℕ) : Type 0 where
  pub inside : at < 10000
  pub few : place < 10000
  pub long : length places ≡ 10000

-- a place to be noted
pub record ToNote (place : ℕ) (s : Picking) (places : List ℕ) : Type 0 where
  pub fits : Fits place s
  pub few : place < 10000
  pub long : length places ≡ 10000

-- a record to be looked at
pub record ToStep (file : List ℕ) (place : ℕ) (s : Picking) (places : List ℕ) : Type 0 where
  pub there : InFile file place
  pub fits : Fits place s
  pub long : length places ≡ 10000

-- notes as the code has them: in numbers, and in a buffer's first entries; the rest of the buffer is as it was
pub record InHand (n : Notes) (before : List ℕ) (s : Picking) (after : List ℕ) : Type 0 where
  pub count : s.count ≡ length n.gone
  pub next : s.next ≡ length (n.gone ++ waiting n.stage)
  pub batches : s.batches ≡ n.headers
  pub mine : s.mine ≡ is_going n.stage
  pub places : after ≡ over (n.gone ++ waiting n.stage) before
  pub long : length after ≡ length before

-- what the code does, whatever was noted before
abbrev pub Moves : (Notes → Notes) → List ℕ → Picking → List ℕ → Picking → Type 0
Moves f entry s exit t = (n : Notes) (before : List ℕ) → InHand n before s entry → InHand (f n) before t exit

-- the whole buffer is the places of what goes, that of the header that waits, and the rest as it was
pub record Picks (e : ℕ) (file before : List ℕ) (p : Picked) (after : List ℕ) : Type 0 where
  pub count : p.count ≡ length (goes_to e file)
  pub batches : p.batches ≡ headers_to e file
  pub places : after ≡ over (goes_to e file ++ waits_at e file) before
