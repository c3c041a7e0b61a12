-- What an extract holds, cut into records and grouped again: the batches that it was made of, numbered.
use Prim.Native.Nat.{ℕ, zero, suc}
use native.Mathlib.Omega.{arith}
use mathlib.Core.List.{[], List, ◌∷◌, ◌++◌, append_assoc, append-nil}
use mathlib.Core.Path.{◌≡◌, refl, sym, ap, ◌∙◌}
use lib.ListN.{length, take, length-append, length-take, length-drop}
use lib.Seq.{length-take-le}
use Rattle.paper.specs.declared.rules.Currency.{Currency}
use Rattle.paper.specs.declared.record.Kind.{Kind}
use Rattle.paper.specs.declared.record.Kind.TheVariants.{FileHeader, BatchHeader, Individual, Additional, BatchControl, FileControl, Other}
use Rattle.paper.specs.declared.rules.Rules.{Rules}
use Rattle.paper.specs.Answers.{accepted}
use Rattle.paper.specs.Kinds.{kind, kind_of}
use Rattle.paper.specs.Records.{in_house}
use Rattle.paper.specs.Reading.{Reckoning, nothing_counted, counted, records_of, reading}
use Rattle.paper.specs.Writing.{numbered, batch_control_of, file_control_of, owed, owed_before, ending, with_controls}
use Rattle.paper.specs.Extract.{Item, Batch, Groups, prepended, grouped, batches_of, batches_to, item_records, batch_records, header_for, extract}
use Rattle.paper.proofs.Lists.{Sized, sized_append, length_spelled, length_numbered, kind_numbered}
use Rattle.paper.proofs.Accepted.{first_header, accepted_facts}
use Rattle.paper.proofs.Closing.{after_writing, closing_records}
use Rattle.paper.proofs.Grouping.{Is, AdditionalsGood, ItemsGood, BatchesGood, extract_good}

-- ---- records of good batches are whole

additionals_sized : (rs : List (List ℕ)) → AdditionalsGood rs → Sized 94 rs
additionals_sized [] g = tt
additionals_sized (r ∷ rs) g = (g.0.1, additionals_sized rs g.1)

items_sized : (is : List Item) → ItemsGood is → Sized 94 (item_records is)
unfolding item_records
items_sized [] g = tt
items_sized (i ∷ is) g = (g.0.1, sized_append 94 i.additionals (item_records is) (additionals_sized i.additionals g.1) (items_sized is g.2))

pub batches_sized : (n : ℕ) (bs : List Batch) → BatchesGood bs → Sized 94 (batch_records n bs)
unfolding batch_records
batches_sized n [] g = tt
batches_sized n (b ∷ bs) g = (
  length_numbered (suc n) b.header (omega (arith, g.0.1)),
  sized_append 94 (item_records b.items) (batch_records (suc n) bs) (items_sized b.items g.1) (batches_sized (suc n) bs g.2),
)

-- ---- the file header of an extract

pub length_header : (currency : Currency) (e : ℕ) (r : List ℕ) → length r ≡ 94 → length (header_for currency e r) ≡ 94
unfolding header_for
length_header currency e r h = simp (length-append, length_spelled, length-take, length-drop, h)

kind_header : (currency : Currency) (e : ℕ) (r : List ℕ) → length r ≡ 94 → kind_of (header_for currency e r) ≡ kind_of r
unfolding header_for kind_of
kind_header currency e [] h = absurd (omega arith)
kind_header currency e (x ∷ r) h = refl

-- an extract of an accepted file is cut into a file header, and its batches' records with their controls
pub record Cut (currency : Currency) (e : ℕ) (file : List ℕ) : Type 0 where
  pub header : Is FileHeader (header_for currency e (take 94 file))
  pub records : records_of (extract currency e file)
      ≡ header_for currency e (take 94 file) ∷ with_controls (counted FileHeader nothing_counted (header_for currency e (take 94 file))) (batch_records 0 (batches_to e (batches_of file)))

pub extract_cut : (rules : Rules) (e : ℕ) (file : List ℕ) → reading rules file ≡ accepted → Cut rules.currency e file
unfolding extract
extract_cut rules e file h =
    let a = accepted_facts rules file h in
    let hd : List ℕ = header_for rules.currency e (take 94 file) in
    let l : length (take 94 file) ≡ 94 = length-take-le 94 file (omega arith) in
    let k : kind_of (take 94 file) ≡ FileHeader = first_header (in_house rules) (take 94 file) a.first.0 (rw a.first.1 at a.reads) in
    let w : length hd ≡ 94 = length_header rules.currency e (take 94 file) l in
    record {
      header = (kind_header rules.currency e (take 94 file) l ∙ k, w);
      records = closing_records hd (batch_records 0 (batches_to e (batches_of file))) w (batches_sized 0 (batches_to e (batches_of file)) (extract_good rules e file h));
    }

-- ---- what is gathered record by record, and nothing of a control, is gathered alike with controls and without

module _ {A : Type 0} (of : List (List ℕ) → A) (step : Kind → List ℕ → A → A) (each : (r : List ℕ) (rs : List (List ℕ)) → of (r ∷ rs) ≡ step (kind_of r) r (of rs))
    (closes : (r : List ℕ) (x : A) → step BatchControl r x ≡ x) (ends : (r : List ℕ) (x : A) → step FileControl r x ≡ x) where
  over_owed : (n : ℕ) (c : Reckoning) (rs : List (List ℕ)) → of (owed n c ++ rs) ≡ of rs
  unfolding owed batch_control_of kind_of kind
  over_owed zero c rs = refl
  over_owed (suc n) c rs = each (batch_control_of c.header c.batch) rs ∙ closes _ (of rs)

  over_before : (k : Kind) (c : Reckoning) (rs : List (List ℕ)) → of (owed_before k c ++ rs) ≡ of rs
  unfolding owed_before
  over_before FileHeader c rs = refl
  over_before BatchHeader c rs = over_owed c.batches c rs
  over_before Individual c rs = refl
  over_before Additional c rs = refl
  over_before BatchControl c rs = refl
  over_before FileControl c rs = refl
  over_before Other c rs = refl

  pub over_controls : (rs : List (List ℕ)) (c : Reckoning) → of (with_controls c rs) ≡ of rs
  unfolding with_controls ending file_control_of kind_of kind
  over_controls [] c = over_owed c.batches c _ ∙ each _ [] ∙ ends _ (of [])
  over_controls (r ∷ rs) c =
      over_before (kind_of r) c (r ∷ with_controls (after_writing (kind_of r) c r) rs)
      ∙ each r (with_controls (after_writing (kind_of r) c r) rs)
      ∙ ap (step (kind_of r) r) (over_controls rs (after_writing (kind_of r) c r))
      ∙ sym (each r rs)

grouped_controls : (rs : List (List ℕ)) (c : Reckoning) → grouped (with_controls c rs) ≡ grouped rs
unfolding grouped prepended
grouped_controls = over_controls grouped prepended (λ r rs. refl) (λ r g. refl) (λ r g. refl)

-- ---- the records of batches are grouped into them again

grouped_additionals : (xs rs : List (List ℕ)) → AdditionalsGood xs
    → grouped (xs ++ rs) ≡ record { additionals = xs ++ (grouped rs).additionals; items = (grouped rs).items; batches = (grouped rs).batches }
unfolding grouped prepended
grouped_additionals [] rs g = refl
grouped_additionals (x ∷ xs) rs g = rw g.0.0 (ap (prepended Additional x) (grouped_additionals xs rs g.1))

-- nothing stands before the first of these batches
abbrev only : List Item → List Batch → Groups
only is bs = record { additionals = []; items = is; batches = bs }

grouped_items : (is : List Item) (rs : List (List ℕ)) (bs : List Batch) → ItemsGood is → grouped rs ≡ only [] bs → grouped (item_records is ++ rs) ≡ only is bs
unfolding grouped prepended item_records
grouped_items [] rs bs g q = q
grouped_items (i ∷ is) rs bs g q =
    rw (g.0.0, append_assoc i.additionals (item_records is) rs)
    (ap (prepended Individual i.individual) (grouped_additionals i.additionals (item_records is ++ rs) g.1 ∙ rw (grouped_items is rs bs g.2 q, append-nil i.additionals)))

-- the batches with their headers numbered on from n
unfoldable pub renumbered : ℕ → List Batch → List Batch
renumbered n [] = []
renumbered n (b ∷ bs) = record { header = numbered (suc n) b.header; items = b.items } ∷ renumbered (suc n) bs

grouped_batches : (bs : List Batch) (n : ℕ) → BatchesGood bs → grouped (batch_records n bs) ≡ only [] (renumbered n bs)
unfolding grouped prepended batch_records renumbered
grouped_batches [] n g = refl
grouped_batches (b ∷ bs) n g =
    rw (kind_numbered (suc n) b.header (omega (arith, g.0.1)), g.0.0)
    (ap (prepended BatchHeader (numbered (suc n) b.header)) (grouped_items b.items (batch_records (suc n) bs) (renumbered (suc n) bs) g.1 (grouped_batches bs (suc n) g.2)))

-- so an extract's batches are those that it was made of, numbered from 1
pub extract_batches : (rules : Rules) (e : ℕ) (file : List ℕ) → reading rules file ≡ accepted
    → batches_of (extract rules.currency e file) ≡ renumbered 0 (batches_to e (batches_of file))
unfolding batches_of grouped prepended
extract_batches rules e file h =
    let c = extract_cut rules e file h in
    let bs : List Batch = batches_to e (batches_of file) in
    let hd : List ℕ = header_for rules.currency e (take 94 file) in
    let rs : List (List ℕ) = with_controls (counted FileHeader nothing_counted hd) (batch_records 0 bs) in
    ap (λ (g : Groups). g.batches)
    (ap grouped c.records ∙ ap (λ (k : Kind). prepended k hd (grouped rs)) c.header.0 ∙ grouped_controls (batch_records 0 bs) _ ∙ grouped_batches bs 0 (extract_good rules e file h))
