-- A roster gathered: all entities copied, or a text's last piece reached turn by turn.
use Prim.Native.Nat.{ℕ, zero, suc, ◌≤◌}
use native.Mathlib.Omega.{arith}
use mathlib.Core.Bool.{true}
use mathlib.Core.List.{List, [], ◌∷◌, ◌++◌}
use mathlib.Core.Logic.{◌↔◌}
use mathlib.Core.Path.{◌≡◌, sym, ap, ◌∙◌}
use lib.ListN.{length, take, length-append}
use lib.Seq.{length-take-le}
use Rattle.paper.specs.declared.rules.Currency.{Currency}
use Rattle.paper.specs.Answers.{refused}
use Rattle.paper.specs.Buffers.{over}
use Rattle.paper.specs.Dates.{is_date}
use Rattle.paper.specs.Listing.{numbers_to}
use Rattle.paper.specs.Sessions.{opening}
use Rattle.watch.specs.declared.Watch.{Watch}
use Rattle.watch.specs.Watches.{watch_on}
use Rattle.typed.specs.declared.roster.Roster.{Roster}
use Rattle.typed.specs.declared.roster.Text.{Text}
use Rattle.typed.specs.Rosters.{ended, words_from, no_word, wrong_among, wrong_typed, told_in, begun, closed, read_on, wrong_in}
use Rattle.typed.specs.Texts.{roster_in, watch_in, text_begun, text_on}
use Rattle.typed.proofs.Rosters.{pieces}
use Rattle.typed.proofs.WrongWords.{wrong_typed_lem}
use Rattle.typed.proofs.WrongRosters.{refused_exactly}
use Rattle.files.specs.declared.taking.Source.{Source}
use Rattle.files.specs.Sources.{watch_of, JustOpened}
use Rattle.files.proofs.Parts.{handed_none, handed_on, same_name}
use Rattle.intake.specs.declared.roster.Roll.{Roll}
use Rattle.intake.specs.Gathering.{WentOn, WholeRead, ReadToEnd, entities_of, wrong_of, no_text, Given}

-- ---- all entities

pub numbers_length : (n : ℕ) → length (numbers_to n) ≡ n
unfolding numbers_to
numbers_length zero = omega arith
numbers_length (suc n) = length-append (numbers_to n) (suc n ∷ []) ∙ omega (arith, numbers_length n)

-- ---- a text

-- before any byte
pub nothing_read : (path : List ℕ) (source : Source) (text : Text) → JustOpened path source → text ≡ text_begun (watch_of source) → WholeRead path source text
unfolding text_begun read_on
nothing_read path source text j e =
    record {
      name = j.name;
      bytes = [];
      read = ap roster_in e;
      watch = ap watch_in e ∙ sym j.watch;
      given = handed_none path source j;
      counted = j.total;
      below = omega arith;
    }

-- with the bytes that were handed over into the buffer
pub read_to : {path : List ℕ} {source after : Source} {text now : Text} {buffer : List ℕ} {n : ℕ} → WholeRead path source text → WentOn text source buffer after n now
    → WholeRead path after now
unfolding text_on
read_to {path} {source} {after} {text} {now} {buffer} {n} r w =
    let size = length-take-le n buffer w.further.fits.0 in
    record {
      name = same_name path w.further.name r.name;
      bytes = r.bytes ++ take n buffer;
      read = ap roster_in w.text ∙ ap (λ (x : Roster). read_on x (take n buffer)) r.read ∙ pieces begun r.bytes (take n buffer);
      watch = ap watch_in w.text ∙ ap (λ (x : Watch). watch_on x (take n buffer)) r.watch ∙ sym w.further.watch;
      given = handed_on source after r.bytes buffer n r.given w.further;
      counted = rw (length-append r.bytes, size) (omega (arith, w.further.total, r.counted));
      below = rw (length-append r.bytes, size) (omega (arith, w.further.left, r.counted));
    }

-- ---- what is handed over

-- as many entities as are counted are there
pub inside : {word : List ℕ} {roll : Roll} {before after : List ℕ} → Given word roll before after → roll.count ≤ length after
unfolding over
inside given = rw (given.there, length-append given.entities) (omega (arith, given.counted))

-- ---- the first wrong word

-- of a text that was read to its end, that of its bytes
pub wrong_read : (path : List ℕ) (source : Source) (text : Text) (r : ReadToEnd path source text) → told_in (wrong_of text) ≡ wrong_typed r.whole.bytes
wrong_read path source text r =
    ap (λ (x : Roster). told_in (wrong_in (closed x))) r.whole.read ∙ wrong_typed_lem r.whole.bytes (omega (arith, r.whole.below))

-- with a good date, the opening answers 208 exactly where there is one
pub refused_read : (path : List ℕ) (source : Source) (text : Text) → ReadToEnd path source text → (date : ℕ) (currency : Currency) → is_date date ≡ true
    → ((opening date currency (entities_of text)).answer ≡ refused 208 0) ↔ (told_in (wrong_of text) ≡ no_word → ⊥)
refused_read path source text r date currency d =
    rw (wrong_read path source text r, r.whole.read) (refused_exactly r.whole.bytes date currency d)

-- of the word all there is none
pub wrong_all : told_in (wrong_of no_text) ≡ no_word
unfolding text_begun read_on wrong_typed words_from ended wrong_among
wrong_all = wrong_typed_lem [] (omega arith)
