-- The numbers that individual records have in their file, and where one stands that stood before.
use Rattle.std.specs.Prelude.{ℕ, zero, suc, ◌/◌, ◌≤◌, ◌<◌, Bool, true, false, ◌&&◌, List, [], ◌≡◌, eqb, leb, length}
use Rattle.paper.specs.Fields.{among}
use Rattle.paper.specs.Kinds.{is_individual, kind_of}
use Rattle.paper.specs.Records.{number_in}
use Rattle.paper.specs.Reading.{record_at, seen_next}

-- those of the individual records before a place, the last first
unfoldable pub numbers_before : List ℕ → ℕ → List ℕ
numbers_before file zero = []
numbers_before file (suc k) = seen_next (kind_of (record_at file k)) (numbers_before file k) (record_at file k)

-- the number of an individual record at a place stands before it
unfoldable pub repeated : List ℕ → ℕ → Bool
repeated file k = is_individual (kind_of (record_at file k)) && among (numbers_before file k) (number_in (record_at file k))

-- the first place, from one on, where a test holds; or the number of records
pub record FirstFrom (test : ℕ → Bool) (records from r : ℕ) : Type 0 where
  pub further : from ≤ r
  pub within : r ≤ records
  pub new : (k : ℕ) → from ≤ k → k < r → test k ≡ false
  pub ends : r < records → test r ≡ true

-- from a place on, no number up to `fresh` stood before; the one at `fresh` did, where that is the place of a record
pub record FreshTo (file : List ℕ) (place fresh : ℕ) : Type 0 where
  pub new : (k : ℕ) → place ≤ k → k < fresh → repeated file k ≡ false
  pub ends : 0 < fresh → fresh < length file / 94 → repeated file fresh ≡ true

-- what is known once one looks at a place: as much as before, where that tells of it, else as much as there is to know
pub record Looked (file : List ℕ) (place known r : ℕ) : Type 0 where
  pub now : FreshTo file place r
  pub here : repeated file place ≡ eqb r place
  pub enough : leb place known ≡ true → r ≡ known
  pub more : leb place known ≡ false → FirstFrom (repeated file) (length file / 94) place r
