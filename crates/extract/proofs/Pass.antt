-- What goes to E of an accepted file are its batches to E.
use Prim.Native.Nat.{ℕ, zero, suc, ◌+◌, ◌/◌, ◌≤◌}
use mathlib.Core.Bool.{Bool, true, false}
use mathlib.Core.List.{List, [], ◌∷◌, ◌++◌, append-nil, append_assoc, map-append}
use mathlib.Core.Path.{◌≡◌, refl, ap, ◌∙◌}
use native.Mathlib.Omega.{arith}
use lib.ListN.{length, take, drop, drop_of_length-le}
use Rattle.paper.specs.declared.record.Before.{Before}
use Rattle.paper.specs.declared.record.Before.TheVariants.{Between}
use Rattle.paper.specs.declared.record.Kind.{Kind}
use Rattle.paper.specs.declared.record.Kind.TheVariants.{FileHeader, BatchHeader, Individual, Additional, BatchControl, FileControl, Other}
use Rattle.paper.specs.declared.rules.Rules.{Rules}
use Rattle.paper.specs.Answers.{accepted}
use Rattle.paper.specs.Kinds.{kind_of}
use Rattle.paper.specs.Records.{ReadingRules, in_house}
use Rattle.paper.specs.Reading.{State, start, before_next, next, parts, records_of, reading, record_at}
use Rattle.paper.specs.Extract.{Item, Batch, Groups, prepended, grouped, batches_of, is_to, items_to, holding, batches_to, item_records}
use Rattle.paper.specs.Demands.{Faultless}
use Rattle.paper.proofs.Accepted.{Follows, file_begins, batch_opens, file_ends, first_individual, its_additional, next_individual, batch_closes, judged_facts, first_header, after_last, accepted_facts}
use Rattle.paper.proofs.Lists.{length_parts}
use Rattle.paper.proofs.Places.{parts_from}
use Rattle.picking.specs.Notes.{Notes, Stage, passing, going, is_going, waiting, notes_by, notes_with, notes_after, goes_to, headers_to}
use Rattle.picking.specs.Places.{chosen}
use Rattle.picking.proofs.Chosen.{length_chosen}
use Rattle.extract.specs.Blocks.{flat}

-- ---- what is left to note, by the groups of what is left

-- a header that waits goes where an item does
abbrev header_left : List (List ℕ) → List Item → List (List ℕ)
header_left header [] = []
header_left header (i ∷ is) = header

nothing_waits : (is : List Item) → header_left [] is ≡ []
nothing_waits [] = refl
nothing_waits (i ∷ is) = refl

abbrev additionals_left : Stage → List (List ℕ) → List (List ℕ)
additionals_left (passing header) rs = []
additionals_left going rs = rs

no_additionals : (p : Stage) → additionals_left p [] ≡ []
no_additionals (passing header) = refl
no_additionals going = refl

unfoldable left : ℕ → List ℕ → Stage → Groups → List (List ℕ)
left e file p g =
    let is = items_to e g.items in
    additionals_left p g.additionals ++ (header_left (chosen file (waiting p)) is ++ (item_records is ++ flat (batches_to e g.batches)))

unfoldable headers_left : ℕ → List ℕ → Stage → Groups → ℕ
headers_left e file p g = length (header_left (chosen file (waiting p)) (items_to e g.items)) + length (batches_to e g.batches)

-- a batch that opens goes where it holds an item
batch_left : (header : List ℕ) (is : List Item) (bs : List Batch)
    → (header_left (header ∷ []) is ++ (item_records is ++ flat bs) ≡ flat (holding header is bs))
    × (length (header_left (header ∷ []) is) + length bs ≡ length (holding header is bs))
unfolding holding flat item_records
batch_left header [] bs = (refl, omega arith)
batch_left header (i ∷ is) bs = (refl, omega arith)

-- the records that go, with what is left of the groups
abbrev Same : ℕ → List ℕ → Notes → Groups → Notes → Groups → Type 0
Same e file n g m h =
    (chosen file n.gone ++ left e file n.stage g ≡ chosen file m.gone ++ left e file m.stage h)
    × (n.headers + headers_left e file n.stage g ≡ m.headers + headers_left e file m.stage h)

module _ (e : ℕ) (file : List ℕ) (place : ℕ) (g : Groups) where
  step : (k : Kind) (n : Notes) → Same e file (notes_by e k place (record_at file place) n) g n (prepended k (record_at file place) g)
  unfolding notes_by is_going waiting prepended left headers_left items_to batches_to item_records
  step FileHeader n = (refl, refl)
  step BatchHeader n =
      let b = batch_left (record_at file place) (items_to e g.items) (batches_to e g.batches) in
      (rw (no_additionals n.stage) (ap (λ (l : List (List ℕ)). chosen file n.gone ++ l) b.0), omega (arith, b.1))
  step Individual n = go (is_to e (record_at file place)) refl
    where
      go : (b : Bool) → is_to e (record_at file place) ≡ b
          → Same e file (notes_by e Individual place (record_at file place) n) g n (prepended Individual (record_at file place) g)
      go true q = (rw q (simp (map-append, append_assoc, nothing_waits, no_additionals)), rw (q, nothing_waits (items_to e g.items)) (omega (arith, length_chosen file (waiting n.stage))))
      go false q = (rw (q, no_additionals n.stage) refl, rw q refl)
  step Additional n = go n.stage refl
    where
      go : (p : Stage) → n.stage ≡ p → Same e file (notes_by e Additional place (record_at file place) n) g n (prepended Additional (record_at file place) g)
      go (passing w) q = (rw q refl, rw q refl)
      go going q = (rw q (simp (map-append, append_assoc)), rw q (omega arith))
  step BatchControl n = (refl, refl)
  step FileControl n = (refl, refl)
  step Other n = (refl, refl)

module _ (e : ℕ) (file : List ℕ) where
  -- from each place on, it is what was left at first
  so_far : (place : ℕ) → place ≤ length file / 94
      → Same e file (notes_after e file place) (grouped (drop place (records_of file))) (notes_after e file 0) (grouped (records_of file))
  unfolding notes_after notes_with records_of record_at grouped
  so_far zero l = (refl, refl)
  so_far (suc place) l =
      let r : List ℕ = record_at file place in
      let earlier = rw (parts_from 94 (length file / 94) file place l) at (so_far place (omega arith)) in
      let now = step e file place (grouped (drop (suc place) (records_of file))) (kind_of r) (notes_after e file place) in
      (now.0 ∙ earlier.0, now.1 ∙ earlier.1)

  -- at the end nothing is left
  whole : (chosen file (goes_to e file) ≡ left e file (passing []) (grouped (records_of file))) × (headers_to e file ≡ headers_left e file (passing []) (grouped (records_of file)))
  unfolding notes_after records_of grouped left headers_left items_to batches_to item_records flat
  whole =
      let n : ℕ = length file / 94 in
      let none : drop n (parts 94 n file) ≡ [] = drop_of_length-le (parts 94 n file) {i = n} (omega (arith, length_parts 94 n file)) in
      let all = rw (none, no_additionals (notes_after e file n).stage, append-nil) at (so_far n (omega arith)) in
      (all.0, omega (arith, all.1))

-- ---- in an accepted file no individual record stands before the first batch

none_before : (rules : ReadingRules) (s : State) (rs : List (List ℕ)) → s.before ≡ Between → Faultless rules s rs → (grouped rs).items ≡ []
unfolding grouped prepended next before_next
none_before rules s [] e h = refl
none_before rules s (r ∷ rs) e h = go Between (kind_of r) (rw e at (judged_facts rules s r h.0).order) refl refl
  where
    go : (b : Before) (k : Kind) → Follows b k → b ≡ Between → kind_of r ≡ k → (prepended (kind_of r) r (grouped rs)).items ≡ []
    go b k file_begins x q = cc
    go b k batch_opens x q = rw q refl
    go b k first_individual x q = cc
    go b k next_individual x q = cc
    go b k its_additional x q = cc
    go b k batch_closes x q = cc
    go b k file_ends x q = rw (q, after_last rules (next s r) rs (ap (λ (y : Kind). before_next y r) q) h.1) refl

no_items_first : (rules : Rules) (file : List ℕ) → reading rules file ≡ accepted → (grouped (records_of file)).items ≡ []
unfolding grouped prepended next before_next
no_items_first rules file h =
    let a = accepted_facts rules file h in
    let hd : List ℕ = take 94 file in
    let e = a.first.1 in
    let rd : Faultless (in_house rules) start (hd ∷ a.first.0) = rw e at a.reads in
    let k : kind_of hd ≡ FileHeader = first_header (in_house rules) hd a.first.0 rd in
    rw (e, k) (none_before (in_house rules) (next start hd) a.first.0 (ap (λ (x : Kind). before_next x hd) k) rd.1)

pub picked_batches : (rules : Rules) (e : ℕ) (file : List ℕ) → reading rules file ≡ accepted → chosen file (goes_to e file) ≡ flat (batches_to e (batches_of file))
unfolding batches_of left waiting item_records items_to
picked_batches rules e file h = (whole e file).0 ∙ rw (no_items_first rules file h)

pub opened_batches : (rules : Rules) (e : ℕ) (file : List ℕ) → reading rules file ≡ accepted → headers_to e file ≡ length (batches_to e (batches_of file))
unfolding batches_of headers_left waiting items_to
opened_batches rules e file h = (whole e file).1 ∙ rw (no_items_first rules file h) (omega arith)
