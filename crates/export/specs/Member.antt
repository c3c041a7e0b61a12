-- What a member's desk is told over the boundary.
use Rattle.std.specs.Prelude.{ℕ, zero, suc, ◌+◌, ◌/◌, Bool, List, length}
use Rattle.paper.specs.declared.rules.Rules.{Rules}
use Rattle.paper.specs.Answers.{Said, accepted, refused, require}
use Rattle.paper.specs.Receiving.{receiving, showable, explains_at, TextPlace, nowhere, in_file, in_motives, text_at, Showing, shown_if, showing}
use Rattle.paper.specs.Sessions.{Session}
use Rattle.export.specs.declared.Spoken.{Spoken}
use Rattle.export.specs.declared.member.SpokenText.{SpokenText}
use Rattle.export.specs.Spoken.{Delivered, spoken_of, pair_written, in_session}

-- an extract received for e; nothing is lent to be written
unfoldable pub receive_of : ℕ → Bool → List ℕ → ℕ → List ℕ → Delivered (Unit {0})
receive_of date dollars entities e file =
    in_session date dollars entities tt
    (λ (session : Session). record { spoken = spoken_of (length file / 94) (receiving session.rules e file); lent = tt })

-- ---- one text

-- where a text begins: its source, and the byte of that
pub record TextStart : Type 0 where
  pub source : ℕ
  pub at : ℕ

-- the sources by number: 0 none, 1 the file, 2 the motive list
unfoldable pub start_of : TextPlace → TextStart
start_of nowhere = record { source = 0; at = 0 }
start_of (in_file at) = record { source = 1; at = at }
start_of (in_motives at) = record { source = 2; at = at }

-- the four numbers of an answer; in the place of what is lent stands where the text begins
abbrev pub heard_text : SpokenText → Delivered TextStart
heard_text r = record { spoken = record { number = r.number; place = r.place }; lent = record { source = r.source; at = r.at } }

abbrev pub without_text : Spoken → Delivered TextStart
without_text spoken = record { spoken = spoken; lent = start_of nowhere }

-- 0 and 44, the bytes of a text, or the refusal
unfoldable pub shown_of : Showing → Delivered TextStart
shown_of s = record { spoken = spoken_of 44 s.answer; lent = start_of s.text }

-- showing for e the reason in the record at a place
unfoldable pub show_of : ℕ → Bool → List ℕ → ℕ → List ℕ → List ℕ → ℕ → Delivered TextStart
show_of date dollars entities e file motives place =
    in_session date dollars entities (start_of nowhere) (λ (session : Session). shown_of (showing session.rules e file motives place))

-- ---- the texts of all records

-- where showing finds the text of a record
unfoldable pub text_found : List ℕ → ℕ → TextPlace
text_found file place = (shown_if (require (explains_at file place) 214 0) (text_at file place)).text

-- of n records from number i on, where each one's text begins, as far as there is room
unfoldable pub texts_from : (ℕ → TextPlace) → ℕ → ℕ → List ℕ → List ℕ
texts_from text zero i texts = texts
texts_from text (suc n) i texts = let start = start_of (text i) in texts_from text n (i + 1) (pair_written i start.source start.at texts)

-- what was lent stays where the answer is a refusal
unfoldable pub lent_after : {Lent : Type 0} → Said → Lent → Lent → Lent
lent_after accepted before after = after
lent_after (refused n place) before after = before

-- of every record what showing it says, once showing accepts the file
unfoldable pub reasons_in : Rules → ℕ → List ℕ → List ℕ → List ℕ → Delivered (List ℕ)
reasons_in rules e file motives texts =
    let asked = showable rules e file motives in
    let all = texts_from (λ (i : ℕ). (showing rules e file motives i).text) (length file / 94) 0 texts in
    record { spoken = spoken_of (length file / 94) asked; lent = lent_after asked texts all }

unfoldable pub reasons_of : ℕ → Bool → List ℕ → ℕ → List ℕ → List ℕ → List ℕ → Delivered (List ℕ)
reasons_of date dollars entities e file motives texts =
    in_session date dollars entities texts (λ (session : Session). reasons_in session.rules e file motives texts)
