-- A text that lists a roster, read in pieces and watched. Its fields are private: other specs speak of it by these words.
use Rattle.std.specs.Prelude.{List, ℕ}
use Rattle.watch.specs.declared.Watch.{Watch}
use Rattle.watch.specs.Watches.{place_of, watch_at, watch_on}
use Rattle.typed.specs.declared.roster.Roster.{Roster}
use Rattle.typed.specs.declared.roster.Text.{Text}
use Rattle.typed.specs.Rosters.{begun, read_on}

-- what is known of the roster so far
abbrev pub roster_in : Text → Roster
roster_in t = t.roster

-- what watched the bytes that were read
abbrev pub watch_in : Text → Watch
watch_in t = t.watch

unfoldable pub text_begun : Watch → Text
text_begun w = record { roster = begun; watch = watch_at (place_of w) }

unfoldable pub text_on : Text → List ℕ → Text
text_on t piece = record { roster = read_on t.roster piece; watch = watch_on t.watch piece }
