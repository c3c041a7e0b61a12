-- A whole day: an opening, and files presented in turn.
use Rattle.std.specs.Prelude.{ℕ, ◌+◌, ◌-◌, Bool, ℤ, pos, length, take, drop, get_or}
use mathlib.Core.List.{List, [], ◌∷◌, ◌++◌, map, flat_map}
use Rattle.paper.specs.declared.ledger.Cell.{Cell}
use Rattle.paper.specs.Answers.{accepted}
use Rattle.paper.specs.Buffers.{written}
use Rattle.paper.specs.Listing.{listing}
use Rattle.paper.specs.Sessions.{Session, Reply, presenting}
use Rattle.export.specs.Spoken.{Delivered, spoken_of, delivered_of, pair_written, in_session}

-- a session, and the buffer with the answers so far
pub record Turns : Type 0 where
  pub session : Session
  pub answers : List ℕ

-- what is lent to a day: a buffer for the files' answers, and one for the figures of the cells
pub record Day : Type 0 where
  pub answers : List ℕ
  pub figures : List ℤ

-- a file is the bytes from the end of the one before up to its own end, as far as there are any
unfoldable pub between : ℕ → ℕ → List ℕ → List ℕ
between from end files = take (end - from) (drop from files)

-- a file's reply, number and place of its answer handed over
unfoldable pub turn : ℕ → Reply → List ℕ → Turns
turn i reply answers =
    let spoken = spoken_of 0 reply.answer in
    record { session = reply.session; answers = pair_written i spoken.number spoken.place answers }

-- the files that end at `ends`, the first of them number i and beginning at `from`
unfoldable pub turns_from : ℕ → ℕ → List ℕ → List ℕ → Turns → Turns
turns_from i from [] files t = t
turns_from i from (end ∷ ends) files t = turns_from (i + 1) end ends files (turn i (presenting t.session (between from end files)) t.answers)

-- the figures of a cell by their indices: position, sent, received; a later one is appended
unfoldable pub named_figures : List (Cell → ℤ)
named_figures = (λ (c : Cell). c.position) ∷ (λ (c : Cell). pos c.sent) ∷ (λ (c : Cell). pos c.received) ∷ []

unfoldable pub figure_of : ℕ → Cell → ℤ
figure_of f = get_or named_figures f (λ (c : Cell). pos 0)

-- the first figure of every cell, then the second of every cell, and so on
unfoldable pub figures_of : List Cell → List ℤ
figures_of cells = flat_map (λ (figure : Cell → ℤ). map figure cells) named_figures

-- as many as there is room for; the rest of a longer buffer stays
unfoldable pub figures_written : List ℤ → List ℤ → List ℤ
figures_written new buffer = take (length buffer) new ++ drop (length new) buffer

-- all files in turn, from this session on
unfoldable pub turns_of : List ℕ → List ℕ → Session → List ℕ → Turns
turns_of ends files session answers = turns_from 0 0 ends files record { session = session; answers = answers }

-- what is handed back after the last turn
unfoldable pub day_closed : Turns → List ℤ → Day
day_closed t figures = record { answers = t.answers; figures = figures_written (figures_of t.session.cells) figures }

-- of an opening, the ends of the files, their bytes, and what was lent
unfoldable pub day_of : ℕ → Bool → List ℕ → List ℕ → List ℕ → Day → Delivered Day
day_of date dollars entities ends files lent =
    in_session date dollars entities lent
    (λ (session : Session). record { spoken = spoken_of 0 accepted; lent = day_closed (turns_of ends files session lent.answers) lent.figures })

-- the same with a buffer lent for the listing of the session at the end
unfoldable pub day_listed : ℕ → Bool → List ℕ → List ℕ → List ℕ → List ℕ → Delivered (List ℕ)
day_listed date dollars entities ends files buffer =
    in_session date dollars entities buffer
    (λ (session : Session). delivered_of (written accepted (listing (turns_of ends files session []).session.cells) buffer))
