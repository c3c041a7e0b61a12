-- A file looked through for a record to one entity, record by record.
use Prim.Native.Nat.{ℕ, suc, ◌+◌, ◌-◌, ◌*◌, ◌/◌, ◌≤◌, ◌<◌}
use native.Mathlib.Omega.{arith}
use mathlib.Core.Bool.{Bool, true, false, cond, ◌&&◌}
use mathlib.Core.List.{[], List, ◌∷◌, ◌++◌}
use mathlib.Core.Path.{◌≡◌, refl, sym, ◌∙◌}
use lib.Dec.{eqb, leb}
use lib.ListN.{length, take, drop, drop_of_length-le, length-take, length-drop}
use borrow.Author.Tests.{le-leb}
use types.Run.{OneOf}
use denote.Enum.Declared.{tag_of}
use Rattle.paper.specs.contracts.record.Kind as kind
use Rattle.paper.specs.declared.record.Kind.{Kind}
use Rattle.paper.specs.declared.record.Kind.TheVariants.{BatchHeader, Individual}
use Rattle.paper.specs.Kinds.{kind_of}
use Rattle.paper.specs.Records.{destination_in}
use Rattle.paper.specs.Reading.{parts, records_of}
use Rattle.paper.specs.Extract.{Groups, prepended, grouped, batches_of, is_to, items_to}
use Rattle.paper.specs.Demands.{items_in, items_of}
use Rattle.paper.proofs.Tests.{T_of}
use Rattle.paper.proofs.Lists.{length_parts}
use Rattle.paper.proofs.Places.{parts_from}
use Rattle.field.proofs.Arms.{in_kinds}
use Rattle.sharing.specs.Shares.{holds_to}

-- do records, cut into batches, hold one to E: in the batch that they begin inside of, or in a later one?
abbrev ahead : Bool → ℕ → Groups → Bool
ahead inside e g = leb 1 (length (items_to e (cond inside g.items [] ++ items_in g.batches)))

-- the same of the records from a place on
unfoldable pub from : Bool → ℕ → List ℕ → ℕ → Bool
from inside e file i = ahead inside e (grouped (drop i (records_of file)))

pub whole : (e : ℕ) (file : List ℕ) → holds_to e file ≡ from false e file 0
unfolding holds_to items_of batches_of from
whole e file = refl

pub none_left : (inside : Bool) (e : ℕ) (file : List ℕ) (i : ℕ) → length file / 94 ≤ i → from inside e file i ≡ false
unfolding records_of grouped items_in items_to from
none_left inside e file i l =
    rw (drop_of_length-le (parts 94 (length file / 94) file) {i = i} (omega (arith, length_parts 94 (length file / 94) file)))
    (go inside)
  where
    go : (b : Bool) → leb 1 (length (items_to e (cond b [] [] ++ []))) ≡ false
    go true = refl
    go false = refl

-- the record at a place, as a part of the file is lent
abbrev pub lent : List ℕ → ℕ → List ℕ
lent file i = take (i * 94 + 94 - i * 94) (drop (i * 94) file)

pub lent_size : (file : List ℕ) (i : ℕ) → i < length file / 94 → length (lent file i) ≡ 94
lent_size file i l = simp (length-take, length-drop) (omega arith)

-- a batch header: what follows is inside
header_next_lem : (inside : Bool) (e : ℕ) (r : List ℕ) (g : Groups) → ahead inside e (prepended BatchHeader r g) ≡ ahead true e g
unfolding prepended items_in
header_next_lem true e r g = refl
header_next_lem false e r g = refl

one_more : (n : ℕ) → leb 1 (suc n) ≡ true
one_more n = le-leb 1 (suc n) (omega arith)

-- an individual record to E in a batch
found : (inside : Bool) (e : ℕ) (r : List ℕ) (g : Groups) → (inside && is_to e r) ≡ true → ahead inside e (prepended Individual r g) ≡ true
unfolding prepended items_to
found true e r g h = rw h (one_more (length (items_to e (g.items ++ items_in g.batches))))
found false e r g h = let z : ◌≡◌ {A = Bool} false true = h in absurd (T_of z)

-- or one in no batch, or to somebody else
passed : (inside : Bool) (e : ℕ) (r : List ℕ) (g : Groups) → (inside && is_to e r) ≡ false → ahead inside e (prepended Individual r g) ≡ ahead inside e g
unfolding prepended items_to
passed true e r g h = rw h refl
passed false e r g h = refl

-- the record at place i, as it is lent
module _ (inside : Bool) (e : ℕ) (file : List ℕ) (i : ℕ) (l : i < length file / 94) where
  go_on : from inside e file i ≡ ahead inside e (prepended (kind_of (lent file i)) (lent file i) (grouped (drop (i + 1) (records_of file))))
  unfolding records_of grouped from
  go_on =
      let k : i + 1 ≡ suc i = omega arith in
      let w : i * 94 + 94 - i * 94 ≡ 94 = omega arith in
      rw (k, parts_from 94 (length file / 94) file i l, w) refl

  pub opens : {k : Kind} → k ≡ kind_of (lent file i) → k ≡ BatchHeader → from inside e file i ≡ from true e file (i + 1)
  unfolding from
  opens k b = go_on ∙ rw (← k, b) (header_next_lem inside e (lent file i) _)

  module _ {k : Kind} (q : k ≡ kind_of (lent file i)) (six : k ≡ Individual) {d : ℕ} (to : d ≡ destination_in (lent file i)) where
    pub finds : (inside && eqb d e) ≡ true → from inside e file i ≡ true
    unfolding is_to
    finds h = go_on ∙ rw (← q, six) (found inside e (lent file i) _ (rw (← to) h))

    pub passes : (inside && eqb d e) ≡ false → from inside e file i ≡ from inside e file (i + 1)
    unfolding is_to from
    passes h = go_on ∙ rw (← q, six) (passed inside e (lent file i) _ (rw (← to) h))

  pub others : {k : Kind} → k ≡ kind_of (lent file i) → OneOf (0 ∷ 3 ∷ 4 ∷ 5 ∷ 6 ∷ []) (tag_of kind.the_type k) → from inside e file i ≡ from inside e file (i + 1)
  unfolding prepended from
  others {k} q o =
      let g : Groups = grouped (drop (i + 1) (records_of file)) in
      let same = in_kinds (ahead inside e g) (λ k. ahead inside e (prepended k (lent file i) g)) (0 ∷ 3 ∷ 4 ∷ 5 ∷ 6 ∷ []) (refl, (refl, (refl, (refl, (refl, tt))))) k o in
      go_on ∙ rw (← q) (sym same)
