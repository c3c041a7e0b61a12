-- The words in which the three demands are stated.
use Rattle.std.specs.Prelude.{ℕ, zero, suc, ◌*◌, ◌/◌, ◌≤◌, ◌<◌, ◌^◌, ◌≡◌, Bool, true, false, cond, ◌||◌, List, [], ◌∷◌, ◌++◌, map, ◌⊎◌, T, eqb, ℤ, pos, nat_abs, ◌+ℤ◌, length, get_or}
use Rattle.paper.specs.declared.rules.Rules.{Rules}
use Rattle.paper.specs.declared.rules.Currency.{Currency}
use Rattle.paper.specs.declared.ledger.Cell.{Cell}
use Rattle.paper.specs.declared.record.Before.TheVariants.{Ended}
use Rattle.paper.specs.declared.record.Kind.{Kind}
use Rattle.paper.specs.declared.record.Kind.TheVariants.{FileHeader, BatchHeader, Individual, Additional, BatchControl, FileControl, Other}
use Rattle.paper.specs.Answers.{Said, accepted, refused, table_numbers}
use Rattle.paper.specs.Checks.{fine, wrong}
use Rattle.paper.specs.Fields.{field, within, among}
use Rattle.paper.specs.Kinds.{kind_of}
use Rattle.paper.specs.Records.{ReadingRules, in_house, destination_in, sender_in}
use Rattle.paper.specs.Reading.{State, start, judged, next, records_of, length_good}
use Rattle.paper.specs.Postings.{Posting, postings, position, sent, received}
use Rattle.paper.specs.Sessions.{Session, opening, presenting, origin_of, identifier_of}
use Rattle.paper.specs.Writing.{spelled, blanks}
use Rattle.paper.specs.Extract.{Item, Batch, batches_of, items_to}
use Rattle.paper.specs.Trays.{batches_after, individuals_after, build}

-- ---- any input ends with an answer

-- "Places for 201, 206, 208, 209 and any refusal tied to no record are 0"
abbrev pub untied : List ℕ
untied = 201 ∷ 206 ∷ 208 ∷ 209 ∷ []

-- none of the records is a 9
abbrev pub NoFileControl : List (List ℕ) → Type 0
NoFileControl [] = Unit {0}
NoFileControl (r ∷ rs) = (kind_of r ≡ FileControl → ⊥) × NoFileControl rs

-- at 0 where the number is tied to no record; else at a record of the file, and one past the last only as 17 where the 9 is missing
abbrev pub StandsIf : Bool → List ℕ → ℕ → ℕ → Type 0
StandsIf true file n place = place ≡ 0
StandsIf false file n place = (place < length file / 94) ⊎ ((place ≡ length file / 94) × (n ≡ 17) × NoFileControl (records_of file))

-- where a refusal of a file stands
abbrev pub StandsAt : List ℕ → Said → Type 0
StandsAt file accepted = Unit {0}
StandsAt file (refused n place) = StandsIf (among untied n) file n place

-- where a refusal of an opening stands: at 0, "and so is that of 75 when opening"
abbrev pub StandsAtNought : Said → Type 0
StandsAtNought accepted = Unit {0}
StandsAtNought (refused n place) = place ≡ 0

-- where a refusal of building stands: 207 at 0 or at a record of the tray, all else as of the file that is built
abbrev pub BuildStandsIf : Bool → List ℕ → List ℕ → ℕ → ℕ → Type 0
BuildStandsIf true header tray n place = (place ≡ 0) ⊎ (place < length tray / 96)
BuildStandsIf false header tray n place = StandsAt (build header tray) (refused n place)

abbrev pub BuildStandsAt : List ℕ → List ℕ → Said → Type 0
BuildStandsAt header tray accepted = Unit {0}
BuildStandsAt header tray (refused n place) = BuildStandsIf (eqb n 207) header tray n place

-- acceptance, or a refusal number of the table at its place
abbrev pub Answered : (Said → Type 0) → Said → Type 0
Answered stands accepted = Unit {0}
Answered stands (refused n place) = T (among table_numbers n) × stands (refused n place)

-- ---- exactly when

-- the records from a state on are each without fault, and end with a 9
abbrev pub Faultless : ReadingRules → State → List (List ℕ) → Type 0
Faultless rules s [] = s.before ≡ Ended
Faultless rules s (r ∷ rs) = (judged rules s r ≡ fine) × Faultless rules (next s r) rs

-- the first fault among them has this number and place
abbrev pub FirstFault : ReadingRules → State → List (List ℕ) → ℕ → ℕ → Type 0
FirstFault rules s [] n place = (s.before ≡ Ended → ⊥) × (n ≡ 17) × (place ≡ s.counts.place)
FirstFault rules s (r ∷ rs) n place =
    ((judged rules s r ≡ wrong n) × (place ≡ s.counts.place)) ⊎ ((judged rules s r ≡ fine) × FirstFault rules (next s r) rs n place)

-- whoever reads accepts a file: its length is good, its records are each without fault, and they end with a 9
abbrev pub AcceptsBy : ReadingRules → List ℕ → Type 0
AcceptsBy rules file = T (length_good (length file)) × Faultless rules start (records_of file)

-- the first fault that is found in it: 201 at 0 for its length, else that of its records
abbrev pub FaultyBy : ReadingRules → List ℕ → ℕ → ℕ → Type 0
FaultyBy rules file n place =
    ((length_good (length file) ≡ false) × (n ≡ 201) × (place ≡ 0)) ⊎ ((length_good (length file) ≡ true) × FirstFault rules start (records_of file) n place)

-- 01 accepts a file, or finds its first fault: the house reads
abbrev pub Accepts : Rules → List ℕ → Type 0
Accepts rules file = AcceptsBy (in_house rules) file

abbrev pub Faulty : Rules → List ℕ → ℕ → ℕ → Type 0
Faulty rules file n place = FaultyBy (in_house rules) file n place

-- ---- after any calls

unfoldable pub with_accepted : Said → List (List ℕ) → List ℕ → List (List ℕ)
with_accepted accepted files file = files ++ file ∷ []
with_accepted (refused n place) files file = files

-- a session that came from opening and presenting, and the files accepted when presented, in order
pub data Arose : Session → List (List ℕ) → Type 0 where
  opened : (date : ℕ) (currency : Currency) (entities : List ℕ) → Arose (opening date currency entities).session []
  presented : {s : Session} {files : List (List ℕ)} → Arose s files → (file : List ℕ)
      → Arose (presenting s file).session (with_accepted (presenting s file).answer files file)

-- the individual records of the files, as postings
unfoldable pub postings_of : List (List ℕ) → List Posting
postings_of [] = []
postings_of (f ∷ fs) = postings f ++ postings_of fs

-- a cell holds what postings say of entity e
pub record Agrees (c : Cell) (e : ℕ) (ps : List Posting) : Type 0 where
  pub position : c.position ≡ position e ps
  pub sent : c.sent ≡ sent e ps
  pub received : c.received ≡ received e ps

-- the figures of a cell to which at most n sides of postings were put, of ten digits each
pub record Touched (n : ℕ) (c : Cell) : Type 0 where
  pub position : nat_abs c.position ≤ n * 10 ^ 10
  pub sent : c.sent ≤ n
  pub received : c.received ≤ n

-- how many sides the files of a session can have: 18,000 files of 10,000 records, two sides each
abbrev pub session_sides : ℕ
session_sides = 18000 * 20000

-- f 0 + f 1 + .. + f (n - 1)
unfoldable pub sum_to : ℕ → (ℕ → ℤ) → ℤ
sum_to zero f = pos 0
sum_to (suc n) f = sum_to n f +ℤ f n

-- ---- own records only

unfoldable pub all_records : List (List ℕ) → List (List ℕ)
all_records [] = []
all_records (f ∷ fs) = records_of f ++ all_records fs

-- an individual record names E as sender in 80-87, as receiver in 4-11
unfoldable pub names : Kind → ℕ → List ℕ → Bool
names FileHeader e r = false
names BatchHeader e r = false
names Individual e r = eqb e (sender_in r) || eqb e (destination_in r)
names Additional e r = false
names BatchControl e r = false
names FileControl e r = false
names Other e r = false

unfoldable pub naming : ℕ → List (List ℕ) → List (List ℕ)
naming e [] = []
naming e (r ∷ rs) = cond (names (kind_of r) e r) (r ∷ naming e rs) (naming e rs)

-- two cells hold the same
pub record Equal (c d : Cell) : Type 0 where
  pub position : c.position ≡ d.position
  pub sent : c.sent ≡ d.sent
  pub received : c.received ≡ d.received

-- the identifiers accepted from an origin, in order
unfoldable pub identifiers_from : ℕ → List (List ℕ) → List ℕ
identifiers_from origin [] = []
identifiers_from origin (f ∷ fs) = cond (eqb origin (origin_of f)) (identifier_of f ∷ identifiers_from origin fs) (identifiers_from origin fs)

unfoldable pub batch_if : List Item → Batch → List Batch → List Batch
batch_if [] b bs = bs
batch_if (i ∷ is) b bs = b ∷ bs

-- the batches that hold records to E, whole
unfoldable pub batches_holding : ℕ → List Batch → List Batch
batches_holding e [] = []
batches_holding e (b ∷ bs) = batch_if (items_to e b.items) b (batches_holding e bs)

-- two files have the same file header, and their batches that hold records to E have, in order, the same headers (numbers aside) and the same
-- records to E with their additionals
pub record SameTo (e : ℕ) (f g : List ℕ) : Type 0 where
  pub file_header : field f 1 94 ≡ field g 1 94
  pub headers : map (λ (b : Batch). field b.header 1 87) (batches_holding e (batches_of f))
      ≡ map (λ (b : Batch). field b.header 1 87) (batches_holding e (batches_of g))
  pub records : map (λ (b : Batch). items_to e b.items) (batches_holding e (batches_of f))
      ≡ map (λ (b : Batch). items_to e b.items) (batches_holding e (batches_of g))

-- ---- shared out

-- the individual records of a file, in order, each with its additionals
unfoldable pub items_in : List Batch → List Item
items_in [] = []
items_in (b ∷ bs) = b.items ++ items_in bs

unfoldable pub items_of : List ℕ → List Item
items_of file = items_in (batches_of file)

-- the records that a file carries for entities, its individual and additional ones: those of types 6 and 7, in order
unfoldable pub carried_by : Kind → List ℕ → List (List ℕ) → List (List ℕ)
carried_by FileHeader r rs = rs
carried_by BatchHeader r rs = rs
carried_by Individual r rs = r ∷ rs
carried_by Additional r rs = r ∷ rs
carried_by BatchControl r rs = rs
carried_by FileControl r rs = rs
carried_by Other r rs = rs

unfoldable pub carried : List (List ℕ) → List (List ℕ)
carried [] = []
carried (r ∷ rs) = carried_by (kind_of r) r (carried rs)

-- the entity that an item is addressed to
unfoldable pub addressee : Item → ℕ
addressee i = destination_in i.individual

-- items dealt to entities: each in turn is the first of what its addressee, an entity on the roster, still has to get, and of nobody else's
pub data SharedOut (roster : List Bool) : List Item → (ℕ → List Item) → Type 0 where
  nothing_left : {hands : ℕ → List Item} → ((e : ℕ) → hands e ≡ []) → SharedOut roster [] hands
  next_goes : {i : Item} {is : List Item} {hands later : ℕ → List Item} → T (within 1 499 (addressee i)) → T (get_or roster (addressee i) false)
      → hands (addressee i) ≡ i ∷ later (addressee i)
      → ((e : ℕ) → (e ≡ addressee i → ⊥) → hands e ≡ later e)
      → SharedOut roster is later → SharedOut roster (i ∷ is) hands

-- ---- numbered as building numbers, free control positions blank: b batches and n individuals stand before the record

abbrev pub Tidy : Kind → ℕ → ℕ → List ℕ → Type 0
Tidy FileHeader b n r = Unit {0}
Tidy BatchHeader b n r = field r 88 94 ≡ spelled 7 (suc b)
Tidy Individual b n r = field r 88 94 ≡ spelled 7 (suc n)
Tidy Additional b n r = field r 88 94 ≡ spelled 7 n
Tidy BatchControl b n r = (field r 55 79 ≡ blanks 25) × (field r 88 94 ≡ spelled 7 b)
Tidy FileControl b n r = field r 56 94 ≡ blanks 39
Tidy Other b n r = Unit {0}

abbrev pub AsBuilt : ℕ → ℕ → List (List ℕ) → Type 0
AsBuilt b n [] = Unit {0}
AsBuilt b n (r ∷ rs) = Tidy (kind_of r) b n r × AsBuilt (batches_after (kind_of r) b) (individuals_after (kind_of r) n) rs
