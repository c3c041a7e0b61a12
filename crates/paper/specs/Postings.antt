-- Who pays whom.
use Rattle.std.specs.Prelude.{ℕ, ◌+◌, Bool, true, false, not, cond, List, [], ◌∷◌, ◌++◌, eqb, ℤ, pos, ◌+ℤ◌, neg_ℤ}
use Rattle.paper.specs.declared.record.Kind.{Kind}
use Rattle.paper.specs.declared.record.Kind.TheVariants.{FileHeader, BatchHeader, Individual, Additional, BatchControl, FileControl, Other}
use Rattle.paper.specs.Kinds.{kind_of, code_of, collects}
use Rattle.paper.specs.Records.{amount_of, destination_in, sender_in}
use Rattle.paper.specs.Reading.{records_of}

-- an individual record's sender and destination, whether the sender collects, and the amount
pub record Posting : Type 0 where
  pub sender : ℕ
  pub destination : ℕ
  pub collects : Bool
  pub amount : ℕ

unfoldable pub posting : ℕ → List ℕ → Posting
posting sender r = record { sender = sender; destination = destination_in r; collects = collects (code_of r); amount = amount_of r }

-- each individual record is posted, under the sender of its batch
unfoldable pub posted_by : Kind → ℕ → List ℕ → List Posting
posted_by FileHeader sender r = []
posted_by BatchHeader sender r = []
posted_by Individual sender r = posting sender r ∷ []
posted_by Additional sender r = []
posted_by BatchControl sender r = []
posted_by FileControl sender r = []
posted_by Other sender r = []

unfoldable pub sender_after : Kind → ℕ → List ℕ → ℕ
sender_after FileHeader sender r = sender
sender_after BatchHeader sender r = sender_in r
sender_after Individual sender r = sender
sender_after Additional sender r = sender
sender_after BatchControl sender r = sender
sender_after FileControl sender r = sender
sender_after Other sender r = sender

unfoldable pub postings_from : ℕ → List (List ℕ) → List Posting
postings_from sender [] = []
postings_from sender (r ∷ rs) = posted_by (kind_of r) sender r ++ postings_from (sender_after (kind_of r) sender r) rs

-- before the first batch there is no sender
unfoldable pub postings : List ℕ → List Posting
postings file = postings_from 0 (records_of file)

-- each individual record names its sender itself, in 80-87: in an accepted file that of its batch
unfoldable pub own_postings : List (List ℕ) → List Posting
own_postings [] = []
own_postings (r ∷ rs) = posted_by (kind_of r) (sender_in r) r ++ own_postings rs

-- who collects rises by the amount, who does not falls by it
unfoldable pub signed : Bool → ℕ → ℤ
signed true amount = pos amount
signed false amount = neg_ℤ (pos amount)

-- what a posting does to an entity's position, as sender and as destination
unfoldable pub effect : ℕ → Posting → ℤ
effect e p =
    cond (eqb e p.sender) (signed p.collects p.amount) (pos 0)
    +ℤ cond (eqb e p.destination) (signed (not p.collects) p.amount) (pos 0)

unfoldable pub position : ℕ → List Posting → ℤ
position e [] = pos 0
position e (p ∷ ps) = effect e p +ℤ position e ps

-- how many postings pass a test
unfoldable pub how_many : (Posting → Bool) → List Posting → ℕ
how_many test [] = 0
how_many test (p ∷ ps) = cond (test p) 1 0 + how_many test ps

-- the numbers of individual records sent and received
abbrev pub sent : ℕ → List Posting → ℕ
sent e ps = how_many (λ p. eqb e p.sender) ps

abbrev pub received : ℕ → List Posting → ℕ
received e ps = how_many (λ p. eqb e p.destination) ps
