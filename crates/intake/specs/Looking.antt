-- What is taken piece by piece, by its form. No contract can name what the system hands over; but a source and a look are watched at the same place, and nobody
-- knows which, so that what was looked at is what was handed over, byte by byte.
use Rattle.std.specs.Prelude.{ℕ, ◌%◌, ◌≤◌, ◌<◌, true, List, ◌≡◌, length, take, Result, Err, MatchResult}
use Rattle.io.specs.Counts.{IsPrefixLen}
use Rattle.paper.specs.declared.answer.Refusal.{Refusal}
use Rattle.paper.specs.Answers.{Answer, said}
use Rattle.paper.specs.Buffers.{building}
use Rattle.company.specs.Files.{company}
use Rattle.looking.specs.declared.Form.{Form}
use Rattle.looking.specs.declared.Form.TheVariants.{Tray, Company}
use Rattle.looking.specs.declared.Look.{Look}
use Rattle.looking.specs.Forms.{width_of, limit_of}
use Rattle.looking.specs.Looks.{sought_in, watched_in, SeenOf, LookOn}
use Rattle.desk.specs.declared.Session.{Session}
use Rattle.desk.specs.Standing.{rules_of}
use Rattle.files.specs.declared.taking.Source.{Source}
use Rattle.files.specs.declared.taking.Failure.{Failure}
use Rattle.files.specs.Sources.{handed_by, has_ended, watch_of, name_of, name_in, most_handed, Watched, ReadFurther, HandedOver}
use Rattle.intake.specs.declared.long.Took.{Took}
use Rattle.intake.specs.declared.long.Took.TheVariants as took

-- ---- pieces

-- the bytes that were handed over into the buffer were looked at, and no others
pub record PieceLooked (seen : Look) (before : Source) (body buffer : List ℕ) (after : Source) (n : ℕ) (known : Look) : Type 0 where
  pub further : ReadFurther before n buffer after
  pub looked : LookOn seen body (take n buffer) known

abbrev pub LookedOn : Look → Source → List ℕ → List ℕ → Result (Source × ℕ × Look) Failure → Type 0
LookedOn seen before body buffer piece =
    MatchResult piece (λ p. PieceLooked seen before body buffer p.0 p.1 p.2) (λ failure. name_in failure ≡ name_of before)

-- these bytes were looked at: they are what the source handed over since it was opened under this name
pub record LookedAt (form : Form) (path body : List ℕ) (source : Source) (look : Look) (bytes : List ℕ) : Type 0 where
  pub name : Watched (name_of source) path
  pub seen : SeenOf form body (sought_in look) bytes
  pub watch : watched_in look ≡ watch_of source
  pub given : HandedOver source bytes
  pub counted : handed_by source ≡ length bytes

-- so far it is whole records, and more than the job can take
pub record LongSoFar (form : Form) (path body : List ℕ) (source : Source) (look : Look) : Type 0 where
  pub bytes : List ℕ
  pub whole : length bytes % width_of form ≡ 0
  pub long : limit_of form < length bytes
  pub looked : LookedAt form path body source look bytes

pub record LongToEnd (form : Form) (path body : List ℕ) (source : Source) (look : Look) : Type 0 where
  pub bytes : List ℕ
  pub long : limit_of form < length bytes
  pub looked : LookedAt form path body source look bytes
  pub ended : has_ended source ≡ true
  pub below : length bytes < most_handed

abbrev pub LookedThrough : Form → List ℕ → List ℕ → Result (Source × Look) Failure → Type 0
LookedThrough form path body reached =
    MatchResult reached (λ p. LongToEnd form path body p.0 p.1) (λ failure. Watched (name_in failure) path)

-- ---- what is handed over

-- all of it is so many bytes of the buffer
pub record WholeIn (path buffer : List ℕ) (n : ℕ) (source : Source) : Type 0 where
  pub name : Watched (name_of source) path
  pub fits : IsPrefixLen n buffer
  pub given : HandedOver source (take n buffer)
  pub ended : has_ended source ≡ true

-- the answer is the job's: of a tray, that of building from it, whatever the session and the buffer; of a company's file, that of making its tray in any buffer
-- of at most 960,000 bytes
abbrev pub AsDone : Form → List ℕ → List ℕ → Answer → Type 0
AsDone Tray header tray answer = (s : Session) (before : List ℕ) → said answer ≡ (building (rules_of s) header tray before).answer
AsDone (Company currency) lo file answer = (before : List ℕ) → length before ≤ 960000 → said answer ≡ (company currency lo file before).answer

-- it has an end, and the job refuses it so
pub record RefusedLong (form : Form) (path body : List ℕ) (refusal : Refusal) (source : Source) (look : Look) : Type 0 where
  pub to_end : LongToEnd form path body source look
  pub as_done : AsDone form body to_end.bytes (Err refusal)

-- all of it, or it is longer
abbrev pub TakenUp : Form → List ℕ → List ℕ → List ℕ → Took → Type 0
TakenUp form path body buffer (took.Whole n source) = WholeIn path buffer n source
TakenUp form path body buffer (took.Long refusal source look) = RefusedLong form path body refusal source look

-- of what stands under that name, or it could not be read
abbrev pub Takes : Form → List ℕ → List ℕ → List ℕ → Result Took Failure → Type 0
Takes form path body buffer took = MatchResult took (TakenUp form path body buffer) (λ failure. Watched (name_in failure) path)
