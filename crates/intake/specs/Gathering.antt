-- A roster as it is gathered: all entities, or those of a text that is read piece by piece to its end. No contract can name what the system hands over; but a
-- source and a text are watched at the same place, and nobody knows which, so that what was read is what was handed over, byte by byte.
use Rattle.std.specs.Prelude.{ℕ, ◌<◌, true, false, List, ◌≡◌, length, take, Option, Some, None, Result, MatchResult}
use Rattle.paper.specs.Buffers.{over}
use Rattle.paper.specs.Fields.{is}
use Rattle.paper.specs.Listing.{numbers_to}
use Rattle.watch.specs.Watches.{watch_at}
use Rattle.typed.specs.declared.roster.Text.{Text}
use Rattle.typed.specs.declared.roster.Wrong.{Wrong}
use Rattle.typed.specs.Rosters.{begun, read_on, closed, entities_in, wrong_in}
use Rattle.typed.specs.Texts.{roster_in, watch_in, text_begun, text_on}
use Rattle.files.specs.declared.taking.Source.{Source}
use Rattle.files.specs.declared.taking.Failure.{Failure}
use Rattle.files.specs.Sources.{handed_by, has_ended, watch_of, name_of, name_in, most_handed, Watched, ReadFurther, HandedOver}
use Rattle.intake.specs.declared.roster.Roll.{Roll}

-- ---- a piece of the text

-- the text goes on with the very bytes that were handed over into the buffer
pub record WentOn (before : Text) (source : Source) (buffer : List ℕ) (after : Source) (n : ℕ) (known : Text) : Type 0 where
  pub further : ReadFurther source n buffer after
  pub text : known ≡ text_on before (take n buffer)

abbrev pub PieceRead : Text → Source → List ℕ → Result (Source × ℕ × Text) Failure → Type 0
PieceRead before source buffer piece =
    MatchResult piece (λ p. WentOn before source buffer p.0 p.1 p.2) (λ failure. name_in failure ≡ name_of source)

-- these bytes were read: they are what the source handed over since it was opened under this name
pub record WholeRead (path : List ℕ) (source : Source) (text : Text) : Type 0 where
  pub name : Watched (name_of source) path
  pub bytes : List ℕ
  pub read : roster_in text ≡ read_on begun bytes
  pub watch : watch_in text ≡ watch_of source
  pub given : HandedOver source bytes
  pub counted : handed_by source ≡ length bytes
  pub below : length bytes < most_handed

pub record ReadToEnd (path : List ℕ) (source : Source) (text : Text) : Type 0 where
  pub whole : WholeRead path source text
  pub ended : has_ended source ≡ true

abbrev pub ToEnd : List ℕ → Result (Source × Text) Failure → Type 0
ToEnd path read = MatchResult read (λ p. ReadToEnd path p.0 p.1) (λ failure. Watched (name_in failure) path)

-- ---- what it lists

abbrev pub entities_of : Text → List ℕ
entities_of text = entities_in (closed (roster_in text))

-- its first word that is no entity's number
abbrev pub wrong_of : Text → Option Wrong
wrong_of text = wrong_in (closed (roster_in text))

-- ---- what is handed over

-- before any byte, where there is nothing to read
abbrev pub no_text : Text
no_text = text_begun (watch_at 0)

-- 1 to 499, for the word all and no other; or what the text lists
abbrev pub OnList : List ℕ → Option Source → Text → List ℕ → Type 0
OnList word None text entities = (is word "all" ≡ true) × (entities ≡ numbers_to 499) × (text ≡ no_text)
OnList word (Some source) text entities = (is word "all" ≡ false) × ReadToEnd word source text × (entities ≡ entities_of text)

-- so many entities, first in the buffer
pub record Given (word : List ℕ) (roll : Roll) (before after : List ℕ) : Type 0 where
  pub entities : List ℕ
  pub listed : OnList word roll.source roll.text entities
  pub counted : roll.count ≡ length entities
  pub there : after ≡ over entities before

-- they are in the buffer; or a text of that name could not be read, and the buffer is as it was
abbrev pub Gathers : List ℕ → Result Roll Failure → List ℕ → List ℕ → Type 0
Gathers word gathered before after =
    MatchResult gathered
    (λ roll. Given word roll before after)
    (λ failure. (is word "all" ≡ false) × Watched (name_in failure) word × (after ≡ before))
