-- Bytes watched at one place.
use Rattle.std.specs.Prelude.{ℕ, ◌-◌, Option, Some, None, cond, List, leb, length, get_or}
use Rattle.watch.specs.declared.Watch.{Watch}

abbrev pub place_of : Watch → ℕ
place_of w = w.place

-- before any byte
unfoldable pub watch_at : ℕ → Watch
watch_at place = record { place = place; left = place; byte = None }

-- so many bytes have come, and that at the place is not among them
abbrev pub still_to_come : Watch → ℕ → Watch
still_to_come w n = record { place = w.place; left = w.left - n; byte = None }

abbrev pub has_come : Watch → ℕ → Watch
has_come w b = record { place = w.place; left = 0; byte = Some b }

-- after more bytes: the one at the place had come before; or it is still to come; or it is among these
unfoldable pub watch_by : Option ℕ → Watch → List ℕ → Watch
watch_by (Some b) w bytes = w
watch_by None w bytes = cond (leb (length bytes) w.left) (still_to_come w (length bytes)) (has_come w (get_or bytes w.left 0))

unfoldable pub watch_on : Watch → List ℕ → Watch
watch_on w bytes = watch_by w.byte w bytes
