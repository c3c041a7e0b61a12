-- What a state of the code means, and what a step of it says.
use Rattle.std.specs.Prelude.{ℕ, ◌*◌, ◌^◌, ◌+◌, ◌≤◌, ◌<◌, Bool, true, false, ◌&&◌, cond, List, [], ◌⊎◌, ◌≡◌, ltb, length, Result, Ok, Err}
use Rattle.paper.specs.declared.record.Before.{Before}
use Rattle.paper.specs.declared.record.Before.TheVariants.{Nothing, Between, Opened, Flagged, Inside, Ended}
use Rattle.paper.specs.declared.record.Kind.{Kind}
use Rattle.paper.specs.declared.record.Kind.TheVariants.{FileHeader, BatchHeader, Individual, Additional, BatchControl, FileControl, Other}
use Rattle.paper.specs.declared.answer.Fault.{Fault}
use Rattle.paper.specs.declared.answer.Fault.TheVariants.{Counter}
use Rattle.paper.specs.Answers.{number_of}
use Rattle.paper.specs.Checks.{Check, fine, wrong}
use Rattle.paper.specs.Fields.{among}
use Rattle.paper.specs.declared.record.Code.TheVariants.{Unknown}
use Rattle.paper.specs.declared.record.Tally.{Tally}
use Rattle.paper.specs.Kinds.{opens_batch, is_individual, is_additional, kind_of, known, collects}
use Rattle.paper.specs.Controls.{zeros, with_additional}
use Rattle.paper.specs.Records.{ReadingRules, number_in, flagged_in}
use Rattle.paper.specs.Reading as paper
use Rattle.paper.specs.Reading.{record_at}
use Rattle.controls.specs.Bounds.{Below}
use Rattle.repeats.specs.Numbers.{numbers_before, repeated, FreshTo, Looked}
use Rattle.entries.specs.declared.individual.Entry.{Entry}
use Rattle.entries.specs.Judging.{entry_of}
use Rattle.state.specs.declared.State.{State}

-- the paper's state: places stand for the records there
unfoldable pub meant : List ℕ → ℕ → State → paper.State
meant file place st = record {
  before = st.before;
  individual = record_at file st.individual;
  counter = st.counter;
  seen = numbers_before file place;
  counts = record {
    place = place;
    header = record_at file st.header;
    batches = st.batches;
    batch = st.batch;
    closed = st.closed;
  };
}

-- the state after a record without fault, or the number of its first
pub data AfterRecord : Type 0 where
  goes : paper.State → AfterRecord
  stops : ℕ → AfterRecord

unfoldable pub after_record : Check → paper.State → AfterRecord
after_record fine s = goes s
after_record (wrong n) s = stops n

-- one record further, or a fault in it
abbrev pub Step : Type 0
Step = Result State Fault

-- what a step says, at the next record's place
unfoldable pub step_says : List ℕ → ℕ → Step → AfterRecord
step_says file place (Ok st) = goes (meant file place st)
step_says file place (Err fault) = stops (number_of fault)

-- room: each of the records before this place adds at most ten digits
pub record RoomToCount (place : ℕ) (st : State) : Type 0 where
  pub batches : st.batches ≤ place
  pub batch : Below (10 ^ 10 * place) st.batch
  pub closed : Below (10 ^ 14 * place) st.closed

-- in a batch its header stands before this place, and after a flagged individual so does that one
unfoldable pub Preceded : Before → ℕ → State → Type 0
Preceded Nothing place st = Unit {0}
Preceded Between place st = Unit {0}
Preceded Opened place st = st.header < place
Preceded Flagged place st = (st.header < place) × (st.individual < place)
Preceded Inside place st = st.header < place
Preceded Ended place st = Unit {0}

-- what is known of the file's numbers: none before this place is larger than both, the largest of the batches before and the last
pub record KnownIn (file : List ℕ) (place : ℕ) (st : State) : Type 0 where
  pub below : (n : ℕ) → among (numbers_before file place) n ≡ true → (n ≤ st.highest) ⊎ (n ≤ st.counter)
  pub fresh : FreshTo file place st.fresh

-- what the records before a place came to has room, stands where it says, and knows of the numbers what it says
pub record Standing (file : List ℕ) (place : ℕ) (st : State) : Type 0 where
  pub room : RoomToCount place st
  pub preceded : Preceded st.before place st
  pub known : KnownIn file place st

-- what a step keeps for the next
unfoldable pub Kept : List ℕ → ℕ → Step → Type 0
Kept file place (Ok st) = Standing file place st
Kept file place (Err fault) = Unit {0}

-- a record at this place can be read
pub record Arrived (file : List ℕ) (place : ℕ) (st : State) : Type 0 where
  pub short : length file ≤ 940000
  pub inside : place * 94 + 94 ≤ length file
  pub standing : Standing file place st

-- a record in a batch stands after the batch's header, an additional one after its individual too
abbrev pub StandsAfter : Kind → ℕ → State → Type 0
StandsAfter FileHeader place st = Unit {0}
StandsAfter BatchHeader place st = Unit {0}
StandsAfter Individual place st = st.header < place
StandsAfter Additional place st = (st.header < place) × (st.individual < place)
StandsAfter BatchControl place st = st.header < place
StandsAfter FileControl place st = Unit {0}
StandsAfter Other place st = Unit {0}

-- what a step asks for: a record of its kind at this place, room to count it, and what stands before it
pub record Ready (kind : Kind) (file : List ℕ) (place : ℕ) (st : State) : Type 0 where
  pub short : length file ≤ 940000
  pub inside : place * 94 + 94 ≤ length file
  pub told : kind_of (record_at file place) ≡ kind
  pub room : RoomToCount place st
  pub stands : StandsAfter kind place st
  pub known : KnownIn file place st

-- what the record at a place comes to, where its characters are good and its type may stand there
unfoldable pub stepped : ReadingRules → List ℕ → ℕ → State → AfterRecord
stepped rules file place st =
    after_record
    (paper.fields (kind_of (record_at file place)) rules (meant file place st) (record_at file place))
    (paper.next (meant file place st) (record_at file place))

-- the places that the state holds: a header's and an individual record's own where it is one, else as they were
abbrev pub header_place : Kind → ℕ → ℕ → ℕ
header_place kind header place = cond (opens_batch kind) place header

abbrev pub individual_place : Kind → ℕ → ℕ → ℕ
individual_place kind individual place = cond (is_individual kind) place individual

-- the largest number of the batches before: at a header the last of the batch that ends is one of them
abbrev pub higher : Kind → ℕ → ℕ → ℕ
higher kind highest counter = cond (opens_batch kind && ltb highest counter) counter highest

-- the other figures, over what an individual record tells of itself: its numbers, and whether it is flagged; of any other nothing is asked
abbrev pub before_by : Kind → Bool → Before
before_by kind flagged = cond (is_individual kind) (paper.flag flagged) (paper.before_next kind [])

abbrev pub counter_by : Kind → ℕ → ℕ → ℕ
counter_by kind counter number = cond (opens_batch kind) 0 (cond (is_individual kind) number counter)

abbrev pub batches_by : Kind → ℕ → ℕ
batches_by kind batches = cond (opens_batch kind) (batches + 1) batches

abbrev pub with_entry : Tally → Entry → Tally
with_entry tally entry = record {
  records = tally.records + 1;
  destinations = tally.destinations + entry.destination;
  debits = tally.debits + cond (collects entry.code) entry.amount 0;
  credits = tally.credits + cond (collects entry.code) 0 entry.amount;
}

abbrev pub batch_by : Kind → Tally → Entry → Tally
batch_by kind batch entry = cond (opens_batch kind) zeros (cond (is_individual kind) (with_entry batch entry) (cond (is_additional kind) (with_additional batch) batch))

-- the code's state after a record of a kind; numbers are known to be new up to `fresh`
unfoldable pub after_by : Kind → ℕ → State → Entry → Bool → ℕ → State
after_by kind place st entry flagged fresh = record {
  before = before_by kind flagged;
  header = header_place kind st.header place;
  individual = individual_place kind st.individual place;
  counter = counter_by kind st.counter entry.counter;
  highest = higher kind st.highest st.counter;
  fresh = fresh;
  batches = batches_by kind st.batches;
  batch = batch_by kind st.batch entry;
  closed = paper.closed_next kind st.closed st.batch;
}

-- after one that tells nothing
abbrev pub past_by : Kind → ℕ → State → State
past_by kind place st = after_by kind place st (record { code = Unknown; destination = 0; amount = 0; counter = 0 }) false st.fresh

-- up to where numbers are known to be new: as far as before where the number is above `highest`, else one looks
pub record FreshBy (file : List ℕ) (place number highest known fresh : ℕ) : Type 0 where
  pub above : ltb highest number ≡ true → fresh ≡ known
  pub looked : ltb highest number ≡ false → Looked file place known fresh

-- the number is new, and so are those up to a place; or it stood before
unfoldable pub NumberSays : List ℕ → ℕ → ℕ → ℕ → ℕ → Result ℕ Fault → Type 0
NumberSays file place number highest known (Ok fresh) = (repeated file place ≡ false) × FreshBy file place number highest known fresh
NumberSays file place number highest known (Err fault) = (repeated file place ≡ true) × (fault ≡ Counter)

abbrev pub KnowsIf : Bool → List ℕ → ℕ → State → ℕ → Type 0
KnowsIf true file place st fresh = FreshBy file place (number_in (record_at file place)) st.highest st.fresh fresh
KnowsIf false file place st fresh = fresh ≡ st.fresh

abbrev pub Knows : Kind → List ℕ → ℕ → State → ℕ → Type 0
Knows kind file place st fresh = KnowsIf (is_individual kind) file place st fresh

-- what of the state the paper's says nothing of
pub record HeldBy (kind : Kind) (file : List ℕ) (place : ℕ) (st after : State) : Type 0 where
  pub header : after.header ≡ header_place kind st.header place
  pub individual : after.individual ≡ individual_place kind st.individual place
  pub highest : after.highest ≡ higher kind st.highest st.counter
  pub fresh : Knows kind file place st after.fresh

unfoldable pub Held : Kind → List ℕ → ℕ → State → Step → Type 0
Held kind file place st (Ok after) = HeldBy kind file place st after
Held kind file place st (Err fault) = Unit {0}

-- the numbers of an individual record of a known code
abbrev pub Entered : List ℕ → Entry → Type 0
Entered r entry = (entry ≡ entry_of r) × (known entry.code ≡ true)

-- what an individual record tells of itself, its number above the last of the batch; any other nothing
pub record EntryTold (kind : Kind) (counter : ℕ) (r : List ℕ) (entry : Entry) (flagged : Bool) : Type 0 where
  pub numbers : is_individual kind ≡ true → Entered r entry
  pub rises : is_individual kind ≡ true → counter < number_in r
  pub flag : is_individual kind ≡ true → flagged ≡ flagged_in r

-- the state after a record of a kind without fault
pub record Advances (kind : Kind) (file : List ℕ) (place : ℕ) (st next : State) : Type 0 where
  pub goes : meant file (place + 1) next ≡ paper.state_next kind (meant file place st) (record_at file place)
  pub kept : Standing file (place + 1) next
  pub held : HeldBy kind file place st next

-- what a step answers: what it says, what it keeps for the next, and what it holds
pub record Steps (kind : Kind) (rules : ReadingRules) (file : List ℕ) (place : ℕ) (st : State) (r : Step) : Type 0 where
  pub says : step_says file (place + 1) r ≡ stepped rules file place st
  pub kept : Kept file (place + 1) r
  pub held : Held kind file place st r
