-- Extracts share a file out: each holds the file's items to its entity, and each item goes to one entity, on the roster.
use Prim.Native.Nat.{ℕ, suc, ◌≤◌}
use mathlib.Core.Bool.{Bool, true, false, cond, ◌&&◌}
use mathlib.Core.List.{[], List, ◌∷◌, ◌++◌}
use mathlib.Core.Path.{◌≡◌, refl, sym, ap, ◌∙◌, subst}
use lib.Dec.{T, leb, le→leb}
use borrow.Author.Tests.{eq-eqb, ne_eqb}
use lib.ListN.{get_or, take}
use Rattle.paper.specs.declared.record.Before.TheVariants.{Nothing}
use Rattle.paper.specs.declared.record.Kind.{Kind}
use Rattle.paper.specs.declared.record.Kind.TheVariants.{FileHeader, BatchHeader, Individual, Additional, BatchControl, FileControl, Other}
use Rattle.paper.specs.declared.rules.Rules.{Rules}
use Rattle.paper.specs.Answers.{accepted}
use Rattle.paper.specs.Fields.{within}
use Rattle.paper.specs.Kinds.{kind_of}
use Rattle.paper.specs.Reading.{nothing_counted, counted, records_of, reading}
use Rattle.paper.specs.Writing.{with_controls}
use Rattle.paper.specs.Extract.{Item, Batch, Groups, prepended, grouped, batches_of, is_to, items_to, holding, batches_to, item_records, batch_records, header_for, extract}
use Rattle.paper.specs.Demands.{items_in, items_of, carried_by, carried, addressee, SharedOut, nothing_left, next_goes}
use Rattle.paper.proofs.Facts.{Facts, AllFacts, file_facts, file_shaped}
use Rattle.paper.proofs.Grouping.{extract_good}
use Rattle.paper.proofs.Regrouping.{extract_cut, renumbered, extract_batches}
use Rattle.paper.proofs.Carried.{carried_batches, carried_controls, left}

-- ---- the items of an extract

to_append : (e : ℕ) (is js : List Item) → items_to e (is ++ js) ≡ items_to e is ++ items_to e js
unfolding items_to
to_append e [] js = refl
to_append e (i ∷ is) js = go (is_to e i.individual) (to_append e is js)
  where
    go : (b : Bool) → items_to e (is ++ js) ≡ items_to e is ++ items_to e js
        → cond b (i ∷ items_to e (is ++ js)) (items_to e (is ++ js)) ≡ cond b (i ∷ items_to e is) (items_to e is) ++ items_to e js
    go true q = ap (λ (l : List Item). i ∷ l) q
    go false q = q

in_holding : (header : List ℕ) (is : List Item) (bs : List Batch) → items_in (holding header is bs) ≡ is ++ items_in bs
unfolding items_in holding
in_holding header [] bs = refl
in_holding header (i ∷ is) bs = refl

pub items_in_to : (e : ℕ) (bs : List Batch) → items_in (batches_to e bs) ≡ items_to e (items_in bs)
unfolding items_in batches_to items_to
items_in_to e [] = refl
items_in_to e (b ∷ bs) =
    in_holding b.header (items_to e b.items) (batches_to e bs)
    ∙ ap (λ (l : List Item). items_to e b.items ++ l) (items_in_to e bs)
    ∙ sym (to_append e b.items (items_in bs))

in_renumbered : (n : ℕ) (bs : List Batch) → items_in (renumbered n bs) ≡ items_in bs
unfolding items_in renumbered
in_renumbered n [] = refl
in_renumbered n (b ∷ bs) = ap (λ (l : List Item). b.items ++ l) (in_renumbered (suc n) bs)

pub extract_items : (rules : Rules) (e : ℕ) (file : List ℕ) → reading rules file ≡ accepted
    → items_of (extract rules.currency e file) ≡ items_to e (items_of file)
unfolding items_of
extract_items rules e file h = ap items_in (extract_batches rules e file h) ∙ in_renumbered 0 (batches_to e (batches_of file)) ∙ items_in_to e (batches_of file)

-- ---- they are all of its individual and additional records

pub items_all : (rules : Rules) (file : List ℕ) → reading rules file ≡ accepted → item_records (items_of file) ≡ carried (records_of file)
unfolding items_of batches_of item_records
items_all rules file h = let q = left Nothing (records_of file) (file_shaped rules file h) in sym (q.all ∙ rw (q.loose.0, q.loose.1))

pub extract_records : (rules : Rules) (e : ℕ) (file : List ℕ) → reading rules file ≡ accepted
    → item_records (items_of (extract rules.currency e file)) ≡ carried (records_of (extract rules.currency e file))
unfolding items_of carried carried_by
extract_records rules e file h =
    let c = extract_cut rules e file h in
    let bs : List Batch = batches_to e (batches_of file) in
    let hd : List ℕ = header_for rules.currency e (take 94 file) in
    let rs : List (List ℕ) = with_controls (counted FileHeader nothing_counted hd) (batch_records 0 bs) in
    ap item_records (extract_items rules e file h ∙ sym (items_in_to e (batches_of file)))
    ∙ sym (ap carried c.records ∙ ap (λ (k : Kind). carried_by k hd (carried rs)) c.header.0 ∙ carried_controls (batch_records 0 bs) _ ∙ carried_batches bs 0 (extract_good rules e file h))

-- ---- every item is to an entity on the roster

abbrev AllListed : Rules → List Item → Type 0
AllListed rules [] = Unit {0}
AllListed rules (i ∷ is) = T (within 1 499 (addressee i)) × T (get_or rules.roster (addressee i) false) × AllListed rules is

listed_append : (rules : Rules) (is js : List Item) → AllListed rules is → AllListed rules js → AllListed rules (is ++ js)
listed_append rules [] js p q = q
listed_append rules (i ∷ is) js p q = (p.0, p.1, listed_append rules is js p.2 q)

pub within_of : (low high n : ℕ) → low ≤ n → n ≤ high → T (within low high n)
within_of low high n l h = go (leb low n) (le→leb low n l)
  where
    go : (b : Bool) → T b → T (b && leb n high)
    go true t = le→leb n high h
    go false t = elim t [ ]

prepended_listed : (rules : Rules) (k : Kind) (r : List ℕ) (g : Groups) → Facts rules k r → AllListed rules g.items × AllListed rules (items_in g.batches)
    → AllListed rules (prepended k r g).items × AllListed rules (items_in (prepended k r g).batches)
unfolding prepended items_in addressee
prepended_listed rules FileHeader r g f q = q
prepended_listed rules BatchHeader r g f q = (tt, listed_append rules g.items (items_in g.batches) q.0 q.1)
prepended_listed rules Individual r g f q = ((within_of 1 499 _ f.destination.low f.destination.high, f.destination.listed, q.0), q.1)
prepended_listed rules Additional r g f q = q
prepended_listed rules BatchControl r g f q = q
prepended_listed rules FileControl r g f q = q
prepended_listed rules Other r g f q = q

grouped_listed : (rules : Rules) (rs : List (List ℕ)) → AllFacts rules rs → AllListed rules (grouped rs).items × AllListed rules (items_in (grouped rs).batches)
unfolding grouped items_in
grouped_listed rules [] a = (tt, tt)
grouped_listed rules (r ∷ rs) a = prepended_listed rules (kind_of r) r (grouped rs) a.1 (grouped_listed rules rs a.2)

-- ---- sharing out

taken : (e : ℕ) (i : Item) (is : List Item) → addressee i ≡ e → items_to e (i ∷ is) ≡ i ∷ items_to e is
unfolding items_to is_to addressee
taken e i is q = rw (eq-eqb _ e q)

passed : (e : ℕ) (i : Item) (is : List Item) → (e ≡ addressee i → ⊥) → items_to e (i ∷ is) ≡ items_to e is
unfolding items_to is_to addressee
passed e i is n = rw (ne_eqb (addressee i) e (λ q. n (sym q)))

to_share : (rules : Rules) (is : List Item) → AllListed rules is → SharedOut rules.roster is (λ e. items_to e is)
unfolding items_to
to_share rules [] a = nothing_left (λ e. refl)
to_share rules (i ∷ is) a = next_goes a.0 a.1 (taken (addressee i) i is refl) (λ e n. passed e i is n) (to_share rules is a.2)

-- hands that hold the same share out the same
pub same_hands : {roster : List Bool} {is : List Item} {hands others : ℕ → List Item} → ((e : ℕ) → hands e ≡ others e)
    → SharedOut roster is hands → SharedOut roster is others
same_hands {roster} {is} q h = subst (SharedOut roster is) (λ i e. q e i) h

-- who is not on the roster gets nothing
pub nobody_gets : {roster : List Bool} {is : List Item} {hands : ℕ → List Item} → SharedOut roster is hands
    → (e : ℕ) → (T (within 1 499 e) → T (get_or roster e false) → ⊥) → hands e ≡ []
nobody_gets (nothing_left q) e n = q e
nobody_gets {roster} (next_goes {i} w l q others h) e n =
    others e (λ (p : e ≡ addressee i). n (subst (λ (x : ℕ). T (within 1 499 x)) (sym p) w) (subst (λ (x : ℕ). T (get_or roster x false)) (sym p) l))
    ∙ nobody_gets h e n

pub shared_out : (rules : Rules) (file : List ℕ) → reading rules file ≡ accepted
    → SharedOut rules.roster (items_of file) (λ e. items_of (extract rules.currency e file))
unfolding items_of batches_of
shared_out rules file h =
    same_hands (λ e. sym (extract_items rules e file h))
    (to_share rules (items_of file) (grouped_listed rules (records_of file) (file_facts rules file h)).1)
