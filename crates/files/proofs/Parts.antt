-- Parts of the buffers that files are read into, and the sources that they are read from.
use Prim.Native.Nat.{ℕ, ◌-◌, ◌≤◌, ◌<◌}
use native.Mathlib.Omega.{arith}
use mathlib.Core.Bool.{false}
use mathlib.Core.List.{List, [], ◌++◌}
use mathlib.Core.Path.{◌≡◌, sym, ap, subst, ◌∙◌}
use borrow.Author.Tests.{ltb-false}
use lib.Dec.{T}
use lib.IntN.{ℤ}
use lib.ListN.{length, take}
use lib.Signed.{non_neg}
use Rattle.std.specs.Prelude.{Result, Ok, Err, Option, None, Some, IfSome, unwrap_or, option_map}
use Rattle.std.specs.declared.fs.File.{File}
use Rattle.std.specs.Fd.{file_raw_fd}
use Rattle.watch.specs.declared.Watch.{Watch}
use Rattle.watch.specs.Watches.{place_of, watch_at, watch_on}
use Rattle.watch.proofs.Watching.{on_none, fresh, same_place, in_two}
use Rattle.files.specs.declared.taking.Source.{Source}
use Rattle.files.specs.declared.taking.Failure.{Failure}
use Rattle.files.specs.Sources.{handed_by, has_ended, watch_of, most_handed, Watched, JustOpened, ReadFurther, AsFilled, HandedOver, AsFile}

-- ---- sources

-- a meter of its own, or the file itself
pub metered : (meter : Option File) (d : ℤ) → IfSome meter (λ file. T (non_neg (file_raw_fd file))) → T (non_neg d) → T (non_neg (unwrap_or (option_map file_raw_fd meter) d))
metered None d m h = h
metered (Some file) d m h = m

-- nothing was watched yet
pub watched_none : (w : Watch) → w ≡ watch_at (place_of w) → Watched w []
watched_none w e = e ∙ sym (on_none (place_of w))

-- and then more
pub watched_on : (w v : Watch) (text more : List ℕ) → Watched w text → v ≡ watch_on w more → Watched v (text ++ more)
watched_on w v text more h e =
    let q : place_of v ≡ place_of w = ap place_of e ∙ same_place w more in
    e
    ∙ ap (λ (x : Watch). watch_on x more) h
    ∙ in_two (watch_at (place_of w)) text more
    ∙ ap (λ (place : ℕ). watch_on (watch_at place) (text ++ more)) (sym q)

-- a name watched from its first byte
pub named : (path : List ℕ) (place : ℕ) (begun name : Watch) → begun ≡ watch_at place → name ≡ watch_on begun path → Watched name path
named path place begun name b e = watched_on begun name [] path (watched_none begun (fresh begun place b)) e

-- the name stays
pub same_name : (path : List ℕ) {w v : Watch} → v ≡ w → Watched w path → Watched v path
same_name path e h = subst (λ (x : Watch). Watched x path) (sym e) h

-- before anything is read
pub handed_none : (path : List ℕ) (source : Source) → JustOpened path source → HandedOver source []
handed_none path source j = watched_none (watch_of source) j.watch

-- the bytes in the buffer come after those before
pub handed_on : (before after : Source) (text buffer : List ℕ) (n : ℕ) → HandedOver before text → ReadFurther before n buffer after → HandedOver after (text ++ take n buffer)
handed_on before after text buffer n h r = watched_on (watch_of before) (watch_of after) text (take n buffer) h r.watch

-- read at once
pub file_read : (path : List ℕ) (source : Source) (buffer : List ℕ) (r : Result (Source × ℕ) Failure) → JustOpened path source → AsFilled source buffer r → AsFile buffer r
file_read path source buffer (Ok (after, n)) j r =
    record { fits = r.fits; given = handed_on source after [] buffer n (handed_none path source j) r; ended = r.ended }
file_read path source buffer (Err failure) j r = tt

-- a filling that did not meet the end is full, and brings the bound nearer
module _ (before after : Source) (n : ℕ) (buffer : List ℕ) (r : ReadFurther before n buffer after) (e : has_ended after ≡ false) where
  pub full : n ≡ length buffer
  full = let l : length buffer ≤ n = ltb-false n (length buffer) (sym r.ended ∙ e) in omega (arith, r.fits)

  pub nearer : 0 < length buffer → most_handed - handed_by after < most_handed - handed_by before
  nearer l = omega (arith, full, r.left, r.total)
