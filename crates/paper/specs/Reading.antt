-- The reading: 201, then records in order. In a record: characters, whether this type may stand here, then its fields. The first fault is the answer.
use Rattle.std.specs.Prelude.{ℕ, zero, suc, ◌+◌, ◌*◌, ◌/◌, ◌%◌, Bool, true, false, not, ◌&&◌, cond, List, [], ◌∷◌, eqb, length, take, drop}
use Rattle.paper.specs.declared.rules.Rules.{Rules}
use Rattle.paper.specs.declared.record.Kind.{Kind}
use Rattle.paper.specs.declared.record.Kind.TheVariants.{FileHeader, BatchHeader, Individual, Additional, BatchControl, FileControl, Other}
use Rattle.paper.specs.declared.record.Before.{Before}
use Rattle.paper.specs.declared.record.Before.TheVariants.{Nothing, Between, Opened, Flagged, Inside, Ended}
use Rattle.paper.specs.Answers.{Said, accepted, refused, and_then, require}
use Rattle.paper.specs.Checks.{Check, fine, wrong, need, ◌also◌}
use Rattle.paper.specs.Fields.{within, among, every, good}
use Rattle.paper.specs.Kinds.{opens_batch, is_individual, is_additional, closes_batch, kind_of, allowed}
use Rattle.paper.specs.Records.{ReadingRules, in_house, file_header, batch_header, number_in, individual, additional, flagged_in}
use Rattle.paper.specs.declared.record.Tally.{Tally}
use Rattle.paper.specs.Controls.{zeros, plus, with_individual, with_additional, batch_control, file_control}

-- what the controls count
pub record Reckoning : Type 0 where
  -- records, so that this is the next one's place
  pub place : ℕ
  -- the header of the last batch
  pub header : List ℕ
  pub batches : ℕ
  -- what the batch's control counts, and what the file control counts of the batches closed
  pub batch : Tally
  pub closed : Tally

unfoldable pub nothing_counted : Reckoning
nothing_counted = record { place = 0; header = []; batches = 0; batch = zeros; closed = zeros }

-- each figure after a record of a kind
abbrev pub header_next : Kind → List ℕ → List ℕ → List ℕ
header_next k header r = cond (opens_batch k) r header

abbrev pub batches_next : Kind → ℕ → ℕ
batches_next k batches = cond (opens_batch k) (suc batches) batches

abbrev pub batch_next : Kind → Tally → List ℕ → Tally
batch_next k batch r = cond (opens_batch k) zeros (cond (is_individual k) (with_individual batch r) (cond (is_additional k) (with_additional batch) batch))

abbrev pub closed_next : Kind → Tally → Tally → Tally
closed_next k closed batch = cond (closes_batch k) (plus closed batch) closed

unfoldable pub counted : Kind → Reckoning → List ℕ → Reckoning
counted k c r = record {
  place = c.place + 1;
  header = header_next k c.header r;
  batches = batches_next k c.batches;
  batch = batch_next k c.batch r;
  closed = closed_next k c.closed c.batch;
}

-- what the next record finds before it
pub record State : Type 0 where
  -- what stands there
  pub before : Before
  -- the last individual record
  pub individual : List ℕ
  -- the number in 88-94 of the last individual record of this batch, 0 as long as it has none
  pub counter : ℕ
  -- the numbers in 88-94 of all individual records of the file, the last first
  pub seen : List ℕ
  pub counts : Reckoning

unfoldable pub start : State
start = record { before = Nothing; individual = []; counter = 0; seen = []; counts = nothing_counted }

-- after a 6, by whether its position 79 is 1
unfoldable pub flag : Bool → Before
flag true = Flagged
flag false = Inside

unfoldable pub before_next : Kind → List ℕ → Before
before_next FileHeader r = Between
before_next BatchHeader r = Opened
before_next Individual r = flag (flagged_in r)
before_next Additional r = Inside
before_next BatchControl r = Between
before_next FileControl r = Ended
before_next Other r = Nothing

unfoldable pub last_individual : Kind → List ℕ → List ℕ → List ℕ
last_individual k i r = cond (is_individual k) r i

abbrev pub counter_next : Kind → ℕ → List ℕ → ℕ
counter_next k counter r = cond (opens_batch k) 0 (cond (is_individual k) (number_in r) counter)

abbrev pub seen_next : Kind → List ℕ → List ℕ → List ℕ
seen_next k seen r = cond (is_individual k) (number_in r ∷ seen) seen

-- the state after a record of a kind
abbrev pub state_next : Kind → State → List ℕ → State
state_next k s r = record {
  before = before_next k r;
  individual = last_individual k s.individual r;
  counter = counter_next k s.counter r;
  seen = seen_next k s.seen r;
  counts = counted k s.counts r;
}

unfoldable pub next : State → List ℕ → State
next s r = state_next (kind_of r) s r

-- the number in 88-94 occurs in no earlier individual record of the file
abbrev pub unseen : List ℕ → List ℕ → Check
unseen seen r = need (not (among seen (number_in r))) 27

-- a record's fields, by its type; one of no type may stand nowhere
unfoldable pub fields : Kind → ReadingRules → State → List ℕ → Check
fields FileHeader rules s r = file_header rules r
fields BatchHeader rules s r = batch_header rules s.counts.batches r
fields Individual rules s r = individual rules s.counts.header s.counter r also unseen s.seen r
fields Additional rules s r = additional s.individual r
fields BatchControl rules s r = batch_control s.counts.header s.counts.batch r
fields FileControl rules s r = file_control (s.counts.place + 1) s.counts.batches s.counts.closed r
fields Other rules s r = wrong 17

unfoldable pub judged : ReadingRules → State → List ℕ → Check
judged rules s r =
    need (every good r) 17
    also allowed s.before (kind_of r)
    also fields (kind_of r) rules s r

-- records that end before a 9 are 17 at the place one past the last
unfoldable pub finish : Before → ℕ → Said
finish Nothing place = refused 17 place
finish Between place = refused 17 place
finish Opened place = refused 17 place
finish Flagged place = refused 17 place
finish Inside place = refused 17 place
finish Ended place = accepted

-- a fault at its record's place
unfoldable pub at : ℕ → Check → Said
at place fine = accepted
at place (wrong n) = refused n place

-- the records from a state on
unfoldable pub reading_from : ReadingRules → State → List (List ℕ) → Said
reading_from rules s [] = finish s.before s.counts.place
reading_from rules s (r ∷ rs) = let rest = reading_from rules (next s r) rs in and_then (at s.counts.place (judged rules s r)) rest

-- the first n parts of a width
unfoldable pub parts : ℕ → ℕ → List ℕ → List (List ℕ)
parts width zero l = []
parts width (suc n) l = take width l ∷ parts width n (drop width l)

unfoldable pub records_of : List ℕ → List (List ℕ)
records_of file = parts 94 (length file / 94) file

-- the record at a place
unfoldable pub record_at : List ℕ → ℕ → List ℕ
record_at file place = take 94 (drop (place * 94) file)

unfoldable pub length_good : ℕ → Bool
length_good n = within 188 940000 n && eqb (n % 94) 0

-- by the house or at a member's desk
unfoldable pub reading_by : ReadingRules → List ℕ → Said
reading_by rules file = let records = reading_from rules start (records_of file) in and_then (require (length_good (length file)) 201 0) records

-- by the house
unfoldable pub reading : Rules → List ℕ → Said
reading rules file = reading_by (in_house rules) file
