-- The batches of a file are made of whole records, each of its kind.
use Prim.Native.Nat.{ℕ}
use mathlib.Core.Bool.{Bool, true, false, cond}
use mathlib.Core.List.{[], List, ◌∷◌}
use mathlib.Core.Path.{◌≡◌, refl}
use lib.ListN.{length}
use Rattle.paper.specs.declared.record.Kind.{Kind}
use Rattle.paper.specs.declared.record.Kind.TheVariants.{FileHeader, BatchHeader, Individual, Additional, BatchControl, FileControl, Other}
use Rattle.paper.specs.declared.rules.Rules.{Rules}
use Rattle.paper.specs.Answers.{accepted}
use Rattle.paper.specs.Kinds.{kind_of}
use Rattle.paper.specs.Reading.{records_of, reading}
use Rattle.paper.specs.Extract.{Item, Batch, Groups, prepended, grouped, batches_of, is_to, items_to, holding, batches_to}
use Rattle.paper.proofs.Lists.{Sized}
use Rattle.paper.proofs.Accepted.{accepted_facts}

-- a whole record of a kind
abbrev pub Is : Kind → List ℕ → Type 0
Is k r = (kind_of r ≡ k) × (length r ≡ 94)

abbrev pub AdditionalsGood : List (List ℕ) → Type 0
AdditionalsGood [] = Unit {0}
AdditionalsGood (r ∷ rs) = Is Additional r × AdditionalsGood rs

abbrev pub ItemsGood : List Item → Type 0
ItemsGood [] = Unit {0}
ItemsGood (i ∷ is) = Is Individual i.individual × AdditionalsGood i.additionals × ItemsGood is

abbrev pub BatchesGood : List Batch → Type 0
BatchesGood [] = Unit {0}
BatchesGood (b ∷ bs) = Is BatchHeader b.header × ItemsGood b.items × BatchesGood bs

-- ---- all the batches of a file

abbrev GroupsGood : Groups → Type 0
GroupsGood g = AdditionalsGood g.additionals × ItemsGood g.items × BatchesGood g.batches

prepended_good : (k : Kind) (r : List ℕ) (g : Groups) → Is k r → GroupsGood g → GroupsGood (prepended k r g)
unfolding prepended
prepended_good FileHeader r g i q = q
prepended_good BatchHeader r g i q = (tt, tt, (i, q.1, q.2))
prepended_good Individual r g i q = (tt, (i, q.0, q.1), q.2)
prepended_good Additional r g i q = ((i, q.0), q.1, q.2)
prepended_good BatchControl r g i q = q
prepended_good FileControl r g i q = q
prepended_good Other r g i q = q

grouped_good : (rs : List (List ℕ)) → Sized 94 rs → GroupsGood (grouped rs)
unfolding grouped
grouped_good [] z = (tt, tt, tt)
grouped_good (r ∷ rs) z = prepended_good (kind_of r) r (grouped rs) (refl, z.0) (grouped_good rs z.1)

pub batches_good : (file : List ℕ) → Sized 94 (records_of file) → BatchesGood (batches_of file)
unfolding batches_of
batches_good file z = (grouped_good (records_of file) z).2

-- ---- those of an extract

items_to_good : (e : ℕ) (is : List Item) → ItemsGood is → ItemsGood (items_to e is)
unfolding items_to
items_to_good e [] g = tt
items_to_good e (i ∷ is) g = go (is_to e i.individual) (items_to_good e is g.2)
  where
    go : (b : Bool) → ItemsGood (items_to e is) → ItemsGood (cond b (i ∷ items_to e is) (items_to e is))
    go true q = (g.0, g.1, q)
    go false q = q

holding_good : (header : List ℕ) (is : List Item) (bs : List Batch) → Is BatchHeader header → ItemsGood is → BatchesGood bs
    → BatchesGood (holding header is bs)
unfolding holding
holding_good header [] bs h g q = q
holding_good header (i ∷ is) bs h g q = (h, g, q)

pub batches_to_good : (e : ℕ) (bs : List Batch) → BatchesGood bs → BatchesGood (batches_to e bs)
unfolding batches_to
batches_to_good e [] g = tt
batches_to_good e (b ∷ bs) g = holding_good b.header (items_to e b.items) (batches_to e bs) g.0 (items_to_good e b.items g.1) (batches_to_good e bs g.2)

pub extract_good : (rules : Rules) (e : ℕ) (file : List ℕ) → reading rules file ≡ accepted → BatchesGood (batches_to e (batches_of file))
extract_good rules e file h = batches_to_good e (batches_of file) (batches_good file (accepted_facts rules file h).sized)
