-- The records of a tray, by their places.
use Rattle.std.specs.Prelude.{ℕ, ◌+◌, ◌*◌, ◌%◌, ◌≤◌, List, [], ◌∷◌, map, ◌≡◌, T, length, take, drop}
use Rattle.paper.specs.Kinds.{kind_of}
use Rattle.paper.specs.Trays.{tray_records, tray_record_good, batches_after}

unfoldable pub tray_record_at : List ℕ → ℕ → List ℕ
tray_record_at tray place = take 96 (drop (place * 96) tray)

-- the body at a place, behind its mark
unfoldable pub body_at : List ℕ → ℕ → List ℕ
body_at tray place = drop 2 (tray_record_at tray place)

abbrev pub bodies : List ℕ → List (List ℕ)
bodies tray = map (drop 2) (tray_records tray)

-- a tray that 207 does not refuse
pub record Sound (tray : List ℕ) : Type 0 where
  pub whole : length tray % 96 ≡ 0
  pub good : (place : ℕ) → place * 96 + 96 ≤ length tray → T (tray_record_good (tray_record_at tray place))

-- the batches that records open, after those before them
unfoldable pub batches_in : ℕ → List (List ℕ) → ℕ
batches_in b [] = b
batches_in b (r ∷ rs) = batches_in (batches_after (kind_of r) b) rs
