-- Piece by piece to the end, of every form.
use Prim.Native.Nat.{ℕ, ◌+◌, ◌%◌, ◌<◌}
use native.Mathlib.Nat.{zero-mod, add-mod}
use native.Mathlib.Omega.{arith}
use mathlib.Core.Bool.{true, false}
use mathlib.Core.List.{List, [], ◌++◌}
use mathlib.Core.Path.{◌≡◌, refl, sym, ap, subst, ◌∙◌}
use lib.ListN.{length, take, length-append}
use lib.Seq.{length-take-le}
use Rattle.std.specs.Prelude.{Option, Some, None, IsSome, Err}
use Rattle.paper.specs.declared.answer.Refusal.{Refusal}
use Rattle.paper.specs.Answers.{Answer, said}
use Rattle.watch.specs.declared.Watch.{Watch}
use Rattle.watch.specs.Watches.{place_of, watch_at, watch_on}
use Rattle.looking.specs.declared.Form.{Form}
use Rattle.looking.specs.declared.Form.TheVariants.{Tray, Company}
use Rattle.looking.specs.declared.Look.{Look}
use Rattle.looking.specs.Forms.{width_of, limit_of, long_said}
use Rattle.looking.specs.Looks.{sought_in, TellsOf, LookBegun}
use Rattle.looking.proofs.Joined.{sought_none, sought_on, sought_told, sought_endless}
use Rattle.company.proofs.LongFiles.{long_company_lem}
use Rattle.demands.proofs.LongTrays.{long_built}
use Rattle.files.specs.declared.taking.Source.{Source}
use Rattle.files.specs.Sources.{has_ended, watch_of, JustOpened}
use Rattle.files.proofs.Parts.{handed_none, handed_on, same_name, full}
use Rattle.intake.specs.Looking.{PieceLooked, LookedAt, LongSoFar, LongToEnd, WholeIn, AsDone, RefusedLong}

-- ---- by form

-- a full buffer is whole records, and more than the job can take
buffer_whole : (form : Form) → 2508000 % width_of form ≡ 0
buffer_whole Tray = refl
buffer_whole (Company currency) = refl

buffer_long : (form : Form) → limit_of form < 2508000
buffer_long Tray = omega arith
buffer_long (Company currency) = omega arith

-- what is said of a long one is what its job answers
as_said : (form : Form) (body bytes : List ℕ) (a : Answer) → limit_of form < length bytes → said a ≡ long_said form body bytes → AsDone form body bytes a
as_said Tray body bytes a long e = λ session before. e ∙ sym (long_built session body bytes before long)
as_said (Company currency) body bytes a long e = λ before short. e ∙ sym (long_company_lem currency body bytes before long short)

-- ---- pieces

-- before any byte
pub nothing_looked : (form : Form) (path body : List ℕ) (source : Source) (look : Look) {w : Watch} → JustOpened path source → w ≡ watch_of source
    → LookBegun form w look → LookedAt form path body source look []
nothing_looked form path body source look j e b =
    record { name = j.name; seen = sought_none form body (sought_in look) b.seen; watch = b.watch ∙ ap (λ (x : Watch). watch_at (place_of x)) e ∙ sym j.watch; given = handed_none path source j; counted = j.total }

-- whole records, and then more of them
whole_sum : (a b w : ℕ) → a % w ≡ 0 → b % w ≡ 0 → (a + b) % w ≡ 0
whole_sum a b w h k = add-mod a b w ∙ ap (λ (x : ℕ). (x + b % w) % w) h ∙ ap (λ (x : ℕ). (0 + x) % w) k ∙ zero-mod w

module _ {seen : Look} {before after : Source} {body buffer : List ℕ} {n : ℕ} {known : Look} (p : PieceLooked seen before body buffer after n known) where
  read_length : length (take n buffer) ≡ n
  read_length = length-take-le n buffer p.further.fits.0

  further : {form : Form} {path : List ℕ} (bytes : List ℕ) → length bytes % width_of form ≡ 0 → LookedAt form path body before seen bytes
      → LookedAt form path body after known (bytes ++ take n buffer)
  further {form} {path} bytes w l =
      record {
        name = same_name path p.further.name l.name;
        seen = sought_on form body (sought_in seen) (sought_in known) bytes (take n buffer) l.seen w p.looked.seen;
        watch = p.looked.watch ∙ ap (λ (x : Watch). watch_on x (take n buffer)) l.watch ∙ sym p.further.watch;
        given = handed_on before after bytes buffer n l.given p.further;
        counted = omega (arith, l.counted, p.further.total, length-append bytes (take n buffer), read_length);
      }

  -- a further piece, the last or not
  pub ends : {form : Form} {path : List ℕ} → LongSoFar form path body before seen → has_ended after ≡ true → LongToEnd form path body after known
  ends so e =
      record {
        bytes = so.bytes ++ take n buffer;
        long = omega (arith, so.long, length-append so.bytes (take n buffer));
        looked = further so.bytes so.whole so.looked;
        ended = e;
        below = omega (arith, so.looked.counted, p.further.left, p.further.fits, length-append so.bytes (take n buffer), read_length);
      }

  module _ (e : has_ended after ≡ false) (l : length buffer ≡ 2508000) where
    full_length : length (take n buffer) ≡ 2508000
    full_length = read_length ∙ full before after n buffer p.further e ∙ l

    full_whole : (form : Form) (bytes : List ℕ) → length bytes % width_of form ≡ 0 → length (bytes ++ take n buffer) % width_of form ≡ 0
    full_whole form bytes w = rw (length-append bytes (take n buffer), full_length) (whole_sum (length bytes) 2508000 (width_of form) w (buffer_whole form))

    pub goes_on : {form : Form} {path : List ℕ} → LongSoFar form path body before seen → LongSoFar form path body after known
    goes_on {form} so =
        record {
          bytes = so.bytes ++ take n buffer;
          whole = full_whole form so.bytes so.whole;
          long = omega (arith, so.long, length-append so.bytes (take n buffer));
          looked = further so.bytes so.whole so.looked;
        }

    -- the first piece of more than the job can take
    pub is_long : {form : Form} {path : List ℕ} → LookedAt form path body before seen [] → LongSoFar form path body after known
    is_long {form} first =
        record {
          bytes = take n buffer;
          whole = full_whole form [] (zero-mod (width_of form));
          long = omega (arith, buffer_long form, full_length);
          looked = further [] (zero-mod (width_of form)) first;
        }

  -- the first piece is all
  pub is_whole : {form : Form} {path : List ℕ} → LookedAt form path body before seen [] → has_ended after ≡ true → WholeIn path buffer n after
  is_whole {form} first e = let l = further [] (zero-mod (width_of form)) first in record { name = l.name; fits = p.further.fits; given = l.given; ended = e }

-- ---- what is told

-- no source hands over more records than are looked at
pub answered : (form : Form) (path body : List ℕ) (source : Source) (look : Look) (known : Option Refusal) → LongToEnd form path body source look
    → TellsOf (sought_in look) body known → IsSome known
answered form path body source look (Some r) o t = refl
answered form path body source look None o t = absurd (omega (arith, sought_endless form body (sought_in look) o.bytes o.looked.seen t, o.below))

pub refuses : (form : Form) (path body : List ℕ) (source : Source) (look : Look) (known : Option Refusal) (r : Refusal) → LongToEnd form path body source look
    → TellsOf (sought_in look) body known → known ≡ Some r → RefusedLong form path body r source look
refuses form path body source look known r o t e =
    let told : TellsOf (sought_in look) body (Some r) = subst (λ (x : Option Refusal). TellsOf (sought_in look) body x) e t in
    record { to_end = o; as_done = as_said form body o.bytes (Err r) o.long (sought_told form body (sought_in look) o.bytes r o.looked.seen told) }
