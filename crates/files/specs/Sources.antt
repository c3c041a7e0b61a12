-- A file that is being read. Its fields are private: other specs speak of it by these words.
use Rattle.std.specs.Prelude.{ℕ, ◌+◌, ◌^◌, ◌<◌, Bool, false, List, ◌≡◌, T, ltb, ℤ, length, take, is_some, option_map, unwrap_or, Result, IfOk, MatchResult}
use Rattle.std.specs.Int.Signed.{non_neg}
use Rattle.std.specs.Fd.{file_raw_fd}
use Rattle.io.specs.Counts.{IsPrefixLen}
use Rattle.watch.specs.declared.Watch.{Watch}
use Rattle.watch.specs.Watches.{place_of, watch_at, watch_on}
use Rattle.files.specs.declared.taking.Source.{Source}
use Rattle.files.specs.declared.taking.Failure.{Failure}

-- the bytes that it has handed over so far
abbrev pub handed_by : Source → ℕ
handed_by source = source.total

-- what watches them
abbrev pub watch_of : Source → Watch
watch_of source = source.watch

-- and the name that it was opened under
abbrev pub name_of : Source → Watch
name_of source = source.name

-- the name that could not be read
abbrev pub name_in : Failure → Watch
name_in failure = failure.name

-- its last filling met the end
abbrev pub has_ended : Source → Bool
has_ended source = source.ended

abbrev pub descriptor_of : Source → ℤ
descriptor_of source = file_raw_fd source.file

-- the descriptor whose place tells how far a pipe has come; a file's own where it has places
abbrev pub meter_of : Source → ℤ
meter_of source = unwrap_or (option_map file_raw_fd source.meter) (descriptor_of source)

-- what tells how far it has come is apart from the file: it has no places of its own
abbrev pub has_meter : Source → Bool
has_meter source = is_some source.meter

-- one that has handed over so many bytes is not read on
abbrev pub most_handed : ℕ
most_handed = 2 ^ 30

-- a text that has, at the place watched, what was watched there; whichever place that is
abbrev pub Watched : Watch → List ℕ → Type 0
Watched w text = w ≡ watch_on (watch_at (place_of w)) text

-- under this name, and nothing has been handed over; which place is watched is not said
pub record JustOpened (path : List ℕ) (source : Source) : Type 0 where
  pub name : Watched (name_of source) path
  pub descriptor : T (non_neg (descriptor_of source))
  pub meter : T (non_neg (meter_of source))
  pub total : handed_by source ≡ 0
  pub watch : watch_of source ≡ watch_at (place_of (watch_of source))
  pub ended : has_ended source ≡ false

abbrev pub AsOpened : List ℕ → Result Source Failure → Type 0
AsOpened path opened = MatchResult opened (JustOpened path) (λ failure. Watched (name_in failure) path)

-- these bytes were handed over: they are counted and watched; and the end was met or not
pub record GoneOn (before : Source) (bytes : List ℕ) (end : Bool) (after : Source) : Type 0 where
  pub total : handed_by after ≡ handed_by before + length bytes
  pub watch : watch_of after ≡ watch_on (watch_of before) bytes
  pub ended : has_ended after ≡ end
  pub descriptor : descriptor_of after ≡ descriptor_of before
  pub meter : meter_of after ≡ meter_of before
  pub name : name_of after ≡ name_of before

-- what was handed over is what the other has handed over; each has a descriptor of its own
pub record Copied (source copy : Source) : Type 0 where
  pub total : handed_by copy ≡ handed_by source
  pub watch : watch_of copy ≡ watch_of source
  pub ended : has_ended copy ≡ has_ended source
  pub name : name_of copy ≡ name_of source
  pub meter : has_meter copy ≡ has_meter source

-- so many bytes were handed over into the buffer: they are counted and watched, and the end was met where they do not fill it
pub record ReadFurther (before : Source) (n : ℕ) (buffer : List ℕ) (after : Source) : Type 0 where
  pub left : handed_by before + length buffer < most_handed
  pub fits : IsPrefixLen n buffer
  pub total : handed_by after ≡ handed_by before + n
  pub watch : watch_of after ≡ watch_on (watch_of before) (take n buffer)
  pub ended : has_ended after ≡ ltb n (length buffer)
  pub descriptor : descriptor_of after ≡ descriptor_of before
  pub meter : meter_of after ≡ meter_of before
  pub name : name_of after ≡ name_of before

abbrev pub AsFilled : Source → List ℕ → Result (Source × ℕ) Failure → Type 0
AsFilled before buffer filled = MatchResult filled (λ (after, n). ReadFurther before n buffer after) (λ failure. name_in failure ≡ name_of before)

-- this text was handed over since the source was opened
abbrev pub HandedOver : Source → List ℕ → Type 0
HandedOver source text = Watched (watch_of source) text

-- a file that is read at once: these bytes of the buffer are what was handed over since it was opened
pub record FileRead (buffer : List ℕ) (source : Source) (n : ℕ) : Type 0 where
  pub fits : IsPrefixLen n buffer
  pub given : HandedOver source (take n buffer)
  pub ended : has_ended source ≡ ltb n (length buffer)

abbrev pub AsFile : List ℕ → Result (Source × ℕ) Failure → Type 0
AsFile buffer filled = IfOk filled (λ (source, n). FileRead buffer source n)
