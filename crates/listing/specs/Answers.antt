-- The lines that are printed for answers at the counter.
use Rattle.std.specs.Prelude.{ℕ, ◌||◌, cond, List, [], ◌++◌, map, leb, eqb, take}
use Rattle.paper.specs.Answers.{Said, accepted, refused}
use Rattle.paper.specs.Buffers.{Outcome}
use Rattle.paper.specs.Fields.{bytes}
use Rattle.paper.specs.Listing.{decimal, line_feed, refusal_line}

-- `ACCEPTED`, or `REFUSED 19 AT 2`
unfoldable pub answer_line : Said → List ℕ
answer_line accepted = bytes "ACCEPTED" ++ line_feed
answer_line (refused n place) = refusal_line n place

-- of a job that writes: `ACCEPTED 940 BYTES`
unfoldable pub bytes_line : Said → ℕ → List ℕ
bytes_line accepted n = bytes "ACCEPTED " ++ decimal n ++ bytes " BYTES" ++ line_feed
bytes_line (refused n place) size = refusal_line n place

unfoldable pub output_line : Outcome → List ℕ
output_line o = bytes_line o.answer o.size

-- of an opening: `OPENING REFUSED 75 AT 0`, and nothing where it is accepted
unfoldable pub opening_line : Said → List ℕ
opening_line accepted = []
opening_line (refused n place) = bytes "OPENING " ++ refusal_line n place

-- ---- with what is named

-- a control byte, 0 to 31 or 127, is shown as a question mark
unfoldable pub shown_byte : ℕ → ℕ
shown_byte b = cond (leb b 31 || eqb b 127) 63 b

unfoldable pub shown : List ℕ → List ℕ
shown text = map shown_byte text

-- an answer in its words, without the end of the line
unfoldable pub answer_words : Said → List ℕ
answer_words accepted = bytes "ACCEPTED"
answer_words (refused n place) = bytes "REFUSED " ++ decimal n ++ bytes " AT " ++ decimal place

-- of a file presented, with its name: `REFUSED 19 AT 2 samples/zero-amount.txt`; no name is longer than 4,096 bytes
unfoldable pub named_line : Said → List ℕ → List ℕ
named_line a name = answer_words a ++ bytes " " ++ shown (take 4096 name) ++ line_feed

-- of what is handed out to an entity: `402 470 BYTES`
unfoldable pub part_line : ℕ → ℕ → List ℕ
part_line entity size = decimal entity ++ bytes " " ++ decimal size ++ bytes " BYTES" ++ line_feed

-- of a word that is no entity's number, by its place in the roster's text: `WORD 17: 12O`; of a long one the first 64 bytes
unfoldable pub word_line : ℕ → List ℕ → List ℕ
word_line place word = bytes "WORD " ++ decimal place ++ bytes ": " ++ shown (take 64 word) ++ line_feed
