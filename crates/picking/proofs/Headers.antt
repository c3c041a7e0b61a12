-- The headers that are counted are the batch headers among what goes.
use Prim.Native.Nat.{ℕ, zero, suc, ◌+◌, ◌/◌}
use mathlib.Core.Bool.{Bool, true, false}
use mathlib.Core.List.{List, [], ◌∷◌, ◌++◌}
use mathlib.Core.Path.{◌≡◌, refl}
use native.Mathlib.Omega.{arith}
use lib.ListN.{length}
use Rattle.paper.specs.declared.record.Kind.{Kind}
use Rattle.paper.specs.declared.record.Kind.TheVariants.{FileHeader, BatchHeader, Individual, Additional, BatchControl, FileControl, Other}
use Rattle.paper.specs.Kinds.{kind_of}
use Rattle.paper.specs.Extract.{is_to}
use Rattle.paper.specs.Reading.{record_at}
use Rattle.picking.specs.Notes.{Notes, is_going, waiting, record_goes, notes_by, notes_with, notes_after, goes_to, headers_to}

abbrev one : Kind → ℕ
one FileHeader = 0
one BatchHeader = 1
one Individual = 0
one Additional = 0
one BatchControl = 0
one FileControl = 0
one Other = 0

-- how many of these places are batch headers'
abbrev pub headers_among : List ℕ → List ℕ → ℕ
headers_among file [] = 0
headers_among file (p ∷ ps) = one (kind_of (record_at file p)) + headers_among file ps

among_append : (file ps qs : List ℕ) → headers_among file (ps ++ qs) ≡ headers_among file ps + headers_among file qs
among_append file [] qs = omega arith
among_append file (p ∷ ps) qs = omega (arith, among_append file ps qs)

record Told (file : List ℕ) (n : Notes) : Type 0 where
  gone : n.headers ≡ headers_among file n.gone
  waits : length (waiting n.stage) ≡ headers_among file (waiting n.stage)

module _ (e : ℕ) (file : List ℕ) (place : ℕ) (n : Notes) (t : Told file n) where
  goes_told : one (kind_of (record_at file place)) ≡ 0 → Told file (record_goes place n)
  unfolding waiting
  goes_told z =
      let all : List ℕ = n.gone ++ waiting n.stage in
      record { gone = omega (arith, t.gone, t.waits, z, among_append file all (place ∷ []), among_append file n.gone (waiting n.stage)); waits = refl }

  by_told : (k : Kind) → kind_of (record_at file place) ≡ k → Told file (notes_by e k place (record_at file place) n)
  unfolding notes_by waiting
  by_told FileHeader q = t
  by_told BatchHeader q = record { gone = t.gone; waits = rw q refl }
  by_told Individual q = go (is_to e (record_at file place)) refl
    where
      go : (b : Bool) → is_to e (record_at file place) ≡ b → Told file (notes_by e Individual place (record_at file place) n)
      go true i = rw i (goes_told (rw q refl))
      go false i = rw i record { gone = t.gone; waits = t.waits }
  by_told Additional q = go (is_going n.stage) refl
    where
      go : (b : Bool) → is_going n.stage ≡ b → Told file (notes_by e Additional place (record_at file place) n)
      go true i = rw i (goes_told (rw q refl))
      go false i = rw i t
  by_told BatchControl q = t
  by_told FileControl q = t
  by_told Other q = t

told : (e : ℕ) (file : List ℕ) (place : ℕ) → Told file (notes_after e file place)
unfolding notes_after notes_with waiting
told e file zero = record { gone = refl; waits = refl }
told e file (suc place) = by_told e file place (notes_after e file place) (told e file place) (kind_of (record_at file place)) refl

pub headers_among_lem : (e : ℕ) (file : List ℕ) → headers_to e file ≡ headers_among file (goes_to e file)
headers_among_lem e file = (told e file (length file / 94)).gone
