-- The places that are noted rise, and are places of the file.
use Prim.Native.Nat.{ℕ, zero, suc, ◌+◌, ◌/◌, ◌≤◌}
use mathlib.Core.Bool.{Bool, true, false}
use mathlib.Core.List.{List, [], ◌∷◌, ◌++◌, append-nil}
use mathlib.Core.Path.{◌≡◌, refl}
use native.Mathlib.Omega.{arith}
use lib.ListN.{length, length-append}
use Rattle.paper.specs.declared.record.Kind.{Kind}
use Rattle.paper.specs.declared.record.Kind.TheVariants.{FileHeader, BatchHeader, Individual, Additional, BatchControl, FileControl, Other}
use Rattle.paper.specs.Kinds.{kind_of}
use Rattle.paper.specs.Extract.{is_to}
use Rattle.paper.specs.Reading.{record_at}
use Rattle.picking.specs.declared.Picking.{Picking}
use Rattle.picking.specs.Notes.{Notes, is_going, waiting, header_waits, record_goes, record_passes, notes_by, notes_with, notes_after, goes_to, headers_to}
use Rattle.picking.specs.Places.{Placed}
use Rattle.picking.specs.Picks.{Fits, InHand}

-- each above the one before it, from a number on, and below another
abbrev pub Rises : ℕ → ℕ → List ℕ → Type 0
Rises a b [] = a ≤ b
Rises a b (p ∷ ps) = (a ≤ p) × Rises (suc p) b ps

rises_few : (a b : ℕ) (ps : List ℕ) → Rises a b ps → a + length ps ≤ b
rises_few a b [] r = omega arith
rises_few a b (p ∷ ps) r = omega (arith, r.0, rises_few (suc p) b ps r.1)

rises_more : (a b c : ℕ) (ps : List ℕ) → b ≤ c → Rises a b ps → Rises a c ps
rises_more a b c [] l r = omega arith
rises_more a b c (p ∷ ps) l r = (r.0, rises_more (suc p) b c ps l r.1)

rises_front : (a b : ℕ) (ps qs : List ℕ) → Rises a b (ps ++ qs) → Rises a b ps
rises_front a b [] qs r = omega (arith, rises_few a b qs r)
rises_front a b (p ∷ ps) qs r = (r.0, rises_front (suc p) b ps qs r.1)

rises_on : (a b : ℕ) (ps : List ℕ) → Rises a b ps → Rises a (suc b) (ps ++ b ∷ [])
rises_on a b [] r = (r, omega arith)
rises_on a b (p ∷ ps) r = (r.0, rises_on (suc p) b ps r.1)

rises_placed : (file : List ℕ) (a b : ℕ) (ps : List ℕ) → 94 ≤ length file → b ≤ length file / 94 → Rises a b ps → Placed file ps
rises_placed file a b [] l h r i = l
rises_placed file a b (p ∷ ps) l h r zero = omega (arith, rises_few (suc p) b ps r.1)
rises_placed file a b (p ∷ ps) l h r (suc i) = rises_placed file (suc p) b ps l h r.1 i

-- whatever the record, one of four things is done
whichever : (P : Notes → Type 0) (e : ℕ) (k : Kind) (place : ℕ) (r : List ℕ) (n : Notes)
    → P n → P (header_waits place n) → P (record_goes place n) → P (record_passes n) → P (notes_by e k place r n)
unfolding notes_by
whichever P e FileHeader place r n s w g p = s
whichever P e BatchHeader place r n s w g p = w
whichever P e Individual place r n s w g p = go (is_to e r) refl
  where
    go : (b : Bool) → is_to e r ≡ b → P (notes_by e Individual place r n)
    go true q = rw q g
    go false q = rw q p
whichever P e Additional place r n s w g p = go (is_going n.stage) refl
  where
    go : (b : Bool) → is_going n.stage ≡ b → P (notes_by e Additional place r n)
    go true q = rw q g
    go false q = rw q s
whichever P e BatchControl place r n s w g p = s
whichever P e FileControl place r n s w g p = s
whichever P e Other place r n s w g p = s

-- of the records before a place
pub record Ordered (place : ℕ) (n : Notes) : Type 0 where
  pub rises : Rises 0 place (n.gone ++ waiting n.stage)
  pub one : length (waiting n.stage) ≤ 1
  pub headers : n.headers ≤ length n.gone

pub notes_ordered : (e : ℕ) (file : List ℕ) (place : ℕ) → Ordered place (notes_after e file place)
unfolding notes_after notes_with waiting
notes_ordered e file zero = record { rises = omega arith; one = omega arith; headers = omega arith }
notes_ordered e file (suc place) =
    let n : Notes = notes_after e file place in
    let o : Ordered place n = notes_ordered e file place in
    let all : List ℕ = n.gone ++ waiting n.stage in
    let more : Rises 0 (suc place) all = rises_more 0 place (suc place) all (omega arith) o.rises in
    let two = length-append n.gone (waiting n.stage) in
    whichever (Ordered (suc place)) e (kind_of (record_at file place)) place (record_at file place) n
    record { rises = more; one = o.one; headers = o.headers }
    record { rises = rises_on 0 place n.gone (rises_front 0 place n.gone (waiting n.stage) o.rises); one = omega arith; headers = o.headers }
    record {
      rises = rw append-nil (rises_on 0 place all o.rises);
      one = omega arith;
      headers = omega (arith, o.headers, two, length-append all (place ∷ []));
    }
    record { rises = more; one = o.one; headers = o.headers }

pub in_hand_fits : {place : ℕ} {n : Notes} {before after : List ℕ} {s : Picking} → Ordered place n → InHand n before s after → Fits place s
in_hand_fits {place} {n} o h =
    let two = length-append n.gone (waiting n.stage) in
    let few = rises_few 0 place (n.gone ++ waiting n.stage) o.rises in
    record {
      waits = omega (arith, h.count, h.next);
      one = omega (arith, h.count, h.next, o.one);
      next = omega (arith, h.next);
      batches = omega (arith, h.count, h.batches, o.headers);
    }

module _ (e : ℕ) (file : List ℕ) where
  all_ordered : Ordered (length file / 94) (notes_after e file (length file / 94))
  all_ordered = notes_ordered e file (length file / 94)

  pub goes_rise : Rises 0 (length file / 94) (goes_to e file)
  goes_rise = rises_front 0 (length file / 94) (goes_to e file) _ all_ordered.rises

  pub goes_placed : 94 ≤ length file → Placed file (goes_to e file)
  goes_placed l = rises_placed file 0 (length file / 94) (goes_to e file) l (omega arith) goes_rise

  pub goes_few : length (goes_to e file) ≤ length file / 94
  goes_few = omega (arith, rises_few 0 (length file / 94) (goes_to e file) goes_rise)

  pub headers_fewer : headers_to e file ≤ length (goes_to e file)
  headers_fewer = all_ordered.headers
