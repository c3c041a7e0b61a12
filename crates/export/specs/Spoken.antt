-- What is handed over the boundary.
use Rattle.std.specs.Prelude.{ℕ, ◌+◌, ◌*◌, ◌/◌, ◌<◌, Bool, cond, List, ◌≡◌, ltb, length, set, Result, Ok, Err}
use Rattle.paper.specs.Answers.{Output, Said, accepted, refused, refused_by, said}
use Rattle.paper.specs.Buffers.{Outcome}
use Rattle.paper.specs.Listing.{currency_if}
use Rattle.paper.specs.Reading.{reading}
use Rattle.paper.specs.Sessions.{Session, opening}
use Rattle.desk.specs.declared.Reply.{Reply}
use Rattle.desk.specs.Standing.{standing}
use Rattle.export.specs.declared.Spoken.{Spoken}

-- an answer on a file of so many records, as two numbers: 0 and the records, or the refusal number, which is never 0, and the place
unfoldable pub spoken_of : ℕ → Said → Spoken
spoken_of records accepted = record { number = 0; place = records }
spoken_of records (refused n place) = record { number = n; place = place }

-- the same of an answer that carries what was counted
abbrev pub spoken_by : Output → Spoken
spoken_by (Ok n) = spoken_of n accepted
spoken_by (Err r) = spoken_of 0 (refused_by r)

-- of a job: its answer, and what then stands in all that was lent to be written
pub record Delivered (Lent : Type 0) : Type 0 where
  pub spoken : Spoken
  pub lent : Lent

-- where the one thing lent is a buffer: the answer with the bytes written in place of the records
unfoldable pub delivered_of : Outcome → Delivered (List ℕ)
delivered_of o = record { spoken = spoken_of o.size o.answer; lent = o.buffer }

-- the two numbers of number i, where the buffer has room for both
unfoldable pub pair_written : ℕ → ℕ → ℕ → List ℕ → List ℕ
pair_written i first second buffer = cond (ltb i (length buffer / 2)) (set (set buffer (2 * i) first) (2 * i + 1) second) buffer

-- the greatest number of 64 bits: no record stands there
abbrev pub opening_place : ℕ
opening_place = 18446744073709551615

-- a refused opening: its number, at that place
unfoldable pub not_opened : ℕ → Spoken
not_opened n = record { number = n; place = opening_place }

-- an answer by which a caller knows that the opening was refused
abbrev pub OfOpening : Spoken → Type 0
OfOpening s = (0 < s.number) × (s.place ≡ opening_place)

-- the opening's answer, with nothing lent written, or else what is done
unfoldable pub after_opening : {Lent : Type 0} → Said → Lent → Delivered Lent → Delivered Lent
after_opening (refused n place) lent done = record { spoken = not_opened n; lent = lent }
after_opening accepted lent done = done

-- the opening's answer, or what is done in the session opened
unfoldable pub in_session : {Lent : Type 0} → ℕ → Bool → List ℕ → Lent → (Session → Delivered Lent) → Delivered Lent
in_session date dollars entities lent job =
    let opened = opening date (currency_if dollars) entities in
    after_opening opened.answer lent (job opened.session)

-- the session opened, or what is said of a refused opening
unfoldable pub session_if : Said → Session → Result Session Spoken
session_if accepted session = Ok session
session_if (refused n place) session = Err (not_opened n)

abbrev pub session_for : ℕ → Bool → List ℕ → Result Session Spoken
session_for date dollars entities = let opened = opening date (currency_if dollars) entities in session_if opened.answer opened.session

-- the same of what the desk hands back
abbrev pub session_of : Reply → Result Session Spoken
session_of r = session_if (said r.answer) (standing r.session)

-- what a job is handed of it
abbrev pub OpenedFor : ℕ → Bool → List ℕ → Reply → Type 0
OpenedFor date dollars entities r = session_of r ≡ session_for date dollars entities

-- a file read there; nothing is lent to be written
unfoldable pub read_of : ℕ → Bool → List ℕ → List ℕ → Delivered (Unit {0})
read_of date dollars entities file =
    in_session date dollars entities tt
    (λ (session : Session). record { spoken = spoken_of (length file / 94) (reading session.rules file); lent = tt })
