-- One record: what its characters and its type's place say of the whole.
use Prim.Native.Nat.{ℕ, ◌+◌, ◌-◌, ◌*◌, ◌≤◌}
use mathlib.Core.Bool.{true}
use mathlib.Core.List.{List}
use mathlib.Core.Path.{◌≡◌, refl, sym, ap, ◌∙◌}
use native.Mathlib.Omega.{arith}
use borrow.Author.Tests.{leb-true}
use lib.Dec.{leb}
use lib.ListN.{length, take, drop, length-drop, take-append-drop}
use lib.Seq.{length-take-le, take-length, take-add, take-append-le, drop-append-le}
use Rattle.paper.specs.declared.record.Before.{Before}
use Rattle.paper.specs.declared.record.Before.TheVariants.{Nothing}
use Rattle.paper.specs.declared.record.Kind.{Kind}
use Rattle.paper.specs.declared.record.Kind.TheVariants.{FileHeader, BatchHeader, Individual, Additional, BatchControl, FileControl, Other}
use Rattle.paper.specs.Checks.{Check, fine, wrong, need, ◌also◌}
use Rattle.paper.specs.Fields.{every, good}
use Rattle.paper.specs.Kinds.{kind_of, allowed}
use Rattle.paper.specs.Records.{ReadingRules}
use Rattle.paper.specs.Reading.{judged, record_at}
use Rattle.paper.proofs.Tests.{not_both, T_of, of_T}
use Rattle.paper.proofs.Digits.{every_append}
use Rattle.paper.proofs.Every.{every_drop, every_take}
use Rattle.paper.proofs.Exactly.{wrong_not_fine}
use Rattle.paper.proofs.Accepted.{Follows, follows, file_begins, batch_opens, file_ends, first_individual, its_additional, next_individual, batch_closes}
use Rattle.state.specs.declared.State.{State}
use Rattle.state.specs.States.{Step, meant, stops, after_record, stepped, Preceded, StandsAfter, Arrived, Ready, Steps}
use Rattle.reading.specs.Taken.{taken, Comes, Clean, is_entry}

-- ---- characters

-- a record that ends within the front that is good
pub front_record : (file : List ℕ) (front place : ℕ) → Clean file front → leb ((place + 1) * 94) front ≡ true → every good (record_at file place) ≡ true
unfolding record_at
front_record file front place c h =
    let p = place * 94 in
    let a = take front file in
    let ends : (place + 1) * 94 ≤ front = leb-true ((place + 1) * 94) front h in
    let l : length a ≡ front = length-take-le front file c.short in
    let m : length (drop p a) ≡ front - p = simp (length-drop, l) in
    let cut : take 94 (drop p file) ≡ take 94 (drop p a) =
    ap (λ (x : List ℕ). take 94 (drop p x)) (sym (take-append-drop front file))
    ∙ (ap (take 94) (drop-append-le p a (drop front file) (omega arith)) ∙ take-append-le 94 (drop p a) (drop front file) (omega arith)) in
    rw cut (of_T (every good (take 94 (drop p a))) (every_take good 94 (drop p a) (every_drop good p a (T_of c.good))))

-- ---- the front, one block further

pub nothing_tested : (file : List ℕ) → Clean file 0
unfolding every
nothing_tested file = record { short = omega arith; good = refl }

pub block_tested : (file : List ℕ) (front size : ℕ) → front + size ≤ length file → Clean file front → every good (take size (drop front file)) ≡ true → Clean file (front + size)
block_tested file front size h c e =
    record {
      short = h;
      good = rw (take-add front size file, every_append good (take front file) (take size (drop front file)), c.good) e;
    }

pub all_tested : (file : List ℕ) (front : ℕ) → Clean file front → every good (drop front file) ≡ true → Clean file (length file)
all_tested file front c e =
    let whole : every good file ≡ true =
    ap (every good) (sym (take-append-drop front file)) ∙ rw (every_append good (take front file) (drop front file), c.good) e in
    record { short = omega arith; good = rw (take-length file) whole }

-- ---- order

-- what stands before a record, by its kind
stands_before : {b : Before} {k : Kind} (place : ℕ) (st : State) → Follows b k → Preceded b place st → StandsAfter k place st
unfolding Preceded
stands_before place st file_begins s = tt
stands_before place st batch_opens s = tt
stands_before place st file_ends s = tt
stands_before place st first_individual s = s
stands_before place st its_additional s = s
stands_before place st next_individual s = s
stands_before place st batch_closes s = s

-- what a record's step asks, where its type may stand
pub ready : {file : List ℕ} {place : ℕ} {st : State} {kind : Kind} → Arrived file place st → kind_of (record_at file place) ≡ kind
    → allowed st.before kind ≡ fine → Ready kind file place st
ready {place = place} {st = st} {kind = kind} a told may = record {
  short = a.short;
  inside = a.inside;
  told = told;
  room = a.standing.room;
  stands = stands_before place st (follows st.before kind may) a.standing.preceded;
  known = a.standing.known;
}

-- a step as the reading takes it
pub comes : {kind : Kind} {rules : ReadingRules} {file : List ℕ} {place : ℕ} {st : State} {r : Step}
    → Steps kind rules file place st r → Comes (stepped rules file place st) file place r
comes s = record { says = s.says; kept = s.kept }

-- no entry may be the first record
pub no_first : (b : Before) (kind : Kind) → b ≡ Nothing → is_entry kind ≡ true → allowed b kind ≡ fine → ⊥
unfolding allowed
no_first b kind e i h = go kind i (rw e at h)
  where
    go : (k : Kind) → is_entry k ≡ true → allowed Nothing k ≡ fine → ⊥
    go FileHeader j m = not_both j refl
    go BatchHeader j m = not_both j refl
    go Individual j m = wrong_not_fine m
    go Additional j m = wrong_not_fine m
    go BatchControl j m = not_both j refl
    go FileControl j m = not_both j refl
    go Other j m = not_both j refl

-- ---- the whole

-- characters, then whether this type may stand here
abbrev pub first : List ℕ → ℕ → State → Check
first file place st = need (every good (record_at file place)) 17 also allowed st.before (kind_of (record_at file place))

module _ (rules : ReadingRules) (file : List ℕ) (place : ℕ) (st : State) where
  pub stands : first file place st ≡ fine → stepped rules file place st ≡ taken rules file place st
  unfolding stepped judged meant ◌also◌
  stands h = rw h

  pub falls : {n : ℕ} → first file place st ≡ wrong n → stops n ≡ taken rules file place st
  unfolding after_record judged meant ◌also◌
  falls h = rw h
