-- A roster as text: entity numbers separated by blanks or line ends.
use Rattle.std.specs.Prelude.{ℕ, ◌+◌, ◌^◌, Bool, true, false, cond, List, [], ◌∷◌, ◌++◌, map, ltb, get_or, take, set, replicate, Option, Some, None}
use Rattle.paper.specs.Fields.{within, among, number}
use Rattle.typed.specs.declared.roster.Progress.{Progress}
use Rattle.typed.specs.declared.roster.Roster.{Roster}
use Rattle.typed.specs.declared.roster.Wrong.{Wrong}
use Rattle.typed.specs.Words.{grown}

-- ---- what a text lists

-- tab, line feed, carriage return, blank
unfoldable pub separator : ℕ → Bool
separator b = among (9 ∷ 10 ∷ 13 ∷ 32 ∷ []) b

-- a word that has ended, where there was one
unfoldable pub ended : List ℕ → List (List ℕ) → List (List ℕ)
ended [] words = words
ended (b ∷ bs) words = (b ∷ bs) ∷ words

-- the words of a text, going on with the word begun
unfoldable pub words_from : List ℕ → List ℕ → List (List ℕ)
words_from word [] = ended word []
words_from word (b ∷ bs) = cond (separator b) (ended word (words_from [] bs)) (words_from (word ++ b ∷ []) bs)

-- their numbers; a word that is not all digits counts as 0, which is no entity
unfoldable pub roster_typed : List ℕ → List ℕ
roster_typed text = map number (words_from [] text)

-- ---- which of its words is wrong

-- a word by its place, from 1, and its bytes; or none
pub data WrongWord : Type 0 where
  no_word : WrongWord
  word_at : ℕ → List ℕ → WrongWord

-- the first that is no entity's number, with its first 64 bytes, where so many words stand before these
unfoldable pub wrong_among : ℕ → List (List ℕ) → WrongWord
wrong_among before [] = no_word
wrong_among before (word ∷ words) = cond (within 1 499 (number word)) (wrong_among (before + 1) words) (word_at (before + 1) (take 64 word))

unfoldable pub wrong_typed : List ℕ → WrongWord
wrong_typed text = wrong_among 0 (words_from [] text)

-- what the code says of it: its first bytes are those kept
unfoldable pub shown_in : Wrong → List ℕ
shown_in w = take w.kept w.bytes

abbrev pub told_in : Option Wrong → WrongWord
told_in None = no_word
told_in (Some w) = word_at w.place (shown_in w)

-- ---- how it is read, byte by byte

abbrev pub roster_of : List Bool → List ℕ → Progress → Roster
roster_of listed bytes progress = record { listed = listed; bytes = bytes; progress = progress }

unfoldable pub begun : Roster
begun = roster_of (replicate 500 false) (replicate 64 0) (record { word = false; number = 0; place = 0; kept = 0 })

-- a number that is no entity's is noted at 0
unfoldable pub noted : List Bool → ℕ → List Bool
noted listed n = set listed (cond (ltb n 500) n 0) true

-- such a one was noted
abbrev pub wrong_noted : List Bool → Bool
wrong_noted listed = get_or listed 0 false

-- where a word ends, its number is noted
unfoldable pub marks_after : Progress → List Bool → List Bool
marks_after p listed = cond p.word (noted listed p.number) listed

unfoldable pub progress_after : Progress → Progress
progress_after p = record { word = false; number = 0; place = p.place; kept = p.kept }

-- a word ends with the text too
unfoldable pub closed : Roster → Roster
closed r = roster_of (marks_after r.progress r.listed) r.bytes (progress_after r.progress)

-- places are counted up to 2^63, which no text comes to
unfoldable pub next_place : ℕ → ℕ
next_place place = cond (ltb place (2 ^ 63)) (place + 1) place

-- a word is being read, or begins
unfoldable pub begun_if : Bool → Progress → Progress
begun_if true p = p
begun_if false p = record { word = true; number = 0; place = next_place p.place; kept = 0 }

-- of its bytes the first 64 are kept
unfoldable pub bytes_with : Progress → ℕ → List ℕ → List ℕ
bytes_with p b bytes = cond (ltb p.kept 64) (set bytes p.kept b) bytes

unfoldable pub kept_with : Progress → ℕ
kept_with p = cond (ltb p.kept 64) (p.kept + 1) p.kept

unfoldable pub progress_with : Progress → ℕ → ℕ → Progress
progress_with p b kept = record { word = true; number = grown 499 p.number b; place = p.place; kept = kept }

-- a byte of a word; from the first wrong word on no place is counted, and no byte kept
unfoldable pub grown_if : Bool → Roster → ℕ → Roster
grown_if true r b = roster_of r.listed r.bytes (progress_with r.progress b r.progress.kept)
grown_if false r b =
    let word = begun_if r.progress.word r.progress in
    roster_of r.listed (bytes_with word b r.bytes) (progress_with word b (kept_with word))

unfoldable pub with_if : Bool → Roster → ℕ → Roster
with_if true r b = closed r
with_if false r b = grown_if (wrong_noted r.listed) r b

unfoldable pub read_on : Roster → List ℕ → Roster
read_on r [] = r
read_on r (b ∷ bs) = read_on (with_if (separator b) r b) bs

-- ---- what is handed out

-- the numbers marked, the first mark being that of e
unfoldable pub numbers_marked : ℕ → List Bool → List ℕ
numbers_marked e [] = []
numbers_marked e (b ∷ bs) = cond b (e ∷ numbers_marked (e + 1) bs) (numbers_marked (e + 1) bs)

unfoldable pub entities_in : Roster → List ℕ
entities_in r = numbers_marked 0 r.listed

-- the first wrong word, where there is one
abbrev pub wrong_kept : Roster → Wrong
wrong_kept r = record { place = r.progress.place; kept = r.progress.kept; bytes = r.bytes }

unfoldable pub wrong_in : Roster → Option Wrong
wrong_in r = cond (wrong_noted r.listed) (Some (wrong_kept r)) None
