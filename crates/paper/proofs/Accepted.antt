-- What an accepted file guarantees: its length, its records one by one, the order of their types.
use Prim.Native.Nat.{ℕ, zero, suc, ◌*◌, ◌≤◌, ◌<◌, ◌/◌, ◌%◌, ◌^◌}
use native.Mathlib.Nat.{div-add-mod'}
use native.Mathlib.Omega.{arith}
use mathlib.Core.Bool.{◌&&◌, ◌||◌}
use mathlib.Core.List.{[], List, ◌∷◌}
use mathlib.Core.Path.{◌≡◌, refl}
use lib.Dec.{eqb, ltb, T, eqb→eq}
use lib.ListN.{length, take, drop}
use Rattle.paper.specs.declared.record.Before.{Before}
use Rattle.paper.specs.declared.record.Before.TheVariants.{Nothing, Between, Opened, Flagged, Inside, Ended}
use Rattle.paper.specs.declared.record.Kind.{Kind}
use Rattle.paper.specs.declared.record.Kind.TheVariants.{FileHeader, BatchHeader, Individual, Additional, BatchControl, FileControl}
use Rattle.paper.specs.declared.rules.Rules.{Rules}
use Rattle.paper.specs.Answers.{accepted}
use Rattle.paper.specs.Checks.{wrong, fine}
use Rattle.paper.specs.Fields.{field, within, every, good, digits, same, is, spells}
use Rattle.paper.specs.Dates.{date_field}
use Rattle.paper.specs.Entities.{of_currency, entity_field, on_roster}
use Rattle.paper.specs.Kinds.{kind_of, code_of, known, allowed}
use Rattle.paper.specs.Records.{ReadingRules, in_house, member, member_field, number_good, batch_header, amount_of, counter_good, addressed, destination, transfer, individual}
use Rattle.paper.specs.declared.record.Tally.{Tally}
use Rattle.paper.specs.Controls.{batch_control, blocks, file_control}
use Rattle.paper.specs.Reading.{State, start, fields, judged, parts, records_of, length_good, reading_by, reading}
use Rattle.paper.specs.Writing.{joined}
use Rattle.paper.specs.Demands.{Faultless}
use Rattle.paper.proofs.Types.{each_kind}
use Rattle.paper.proofs.Tests.{and_l, and_r, within_range}
use Rattle.paper.proofs.Lists.{Sized, joined_parts, sized_parts}
use Rattle.paper.proofs.Exactly.{also_l, also_r, need_T, wrong_not_fine, accepted_by}

-- ---- facts of one record, by its type

pub record IndividualRead (rules : Rules) (header : List ℕ) (before : ℕ) (r : List ℕ) : Type 0 where
  pub code : T (known (code_of r))
  pub destination : T (entity_field (field r 4 11))
  pub currency : T (of_currency rules.currency (field r 4 11))
  pub listed : T (on_roster rules.roster (field r 4 11))
  pub amount : T (digits (field r 30 39) && ltb 0 (amount_of r))
  pub flag : T (is (field r 79 79) "0" || is (field r 79 79) "1")
  pub tail : T (digits (field r 80 94))
  pub counter : T (counter_good header before r)

pub individual_read : (rules : Rules) (header : List ℕ) (before : ℕ) (r : List ℕ) → individual (in_house rules) header before r ≡ fine
    → IndividualRead rules header before r
unfolding individual transfer destination addressed
individual_read rules header before r h = search (also_l, also_r, need_T) depth 20

-- as one of its file
pub entry_read : (rules : Rules) (s : State) (r : List ℕ) → fields Individual (in_house rules) s r ≡ fine → IndividualRead rules s.counts.header s.counter r
unfolding fields
entry_read rules s r h = individual_read rules s.counts.header s.counter r (also_l _ _ h)

pub record ControlRead (header : List ℕ) (t : Tally) (r : List ℕ) : Type 0 where
  pub service : T (same (field r 2 4) (field header 2 4))
  pub records : T (spells (field r 5 10) t.records)
  pub destinations : T (spells (field r 11 20) (t.destinations % 10 ^ 10))
  pub debits : T (spells (field r 21 32) t.debits)
  pub credits : T (spells (field r 33 44) t.credits)
  pub tax : T (same (field r 45 54) (field header 41 50))
  pub sender : T (same (field r 80 87) (field header 80 87))
  pub number : T (same (field r 88 94) (field header 88 94))

pub control_read : (header : List ℕ) (t : Tally) (r : List ℕ) → batch_control header t r ≡ fine → ControlRead header t r
unfolding batch_control
control_read header t r h = search (also_l, also_r, need_T) depth 12

pub record TotalRead (all count : ℕ) (t : Tally) (r : List ℕ) : Type 0 where
  pub batches : T (spells (field r 2 7) count)
  pub blocks : T (spells (field r 8 13) (blocks all))
  pub records : T (spells (field r 14 21) t.records)
  pub destinations : T (spells (field r 22 31) (t.destinations % 10 ^ 10))
  pub debits : T (spells (field r 32 43) t.debits)
  pub credits : T (spells (field r 44 55) t.credits)

pub total_read : (all batches : ℕ) (t : Tally) (r : List ℕ) → file_control all batches t r ≡ fine → TotalRead all batches t r
unfolding file_control
total_read all batches t r h = search (also_l, also_r, need_T) depth 12

pub record BatchRead (rules : Rules) (r : List ℕ) : Type 0 where
  pub service : T (digits (field r 2 4))
  pub tax : T (digits (field r 41 50))
  pub date : T (date_field (field r 70 75))
  pub sender : T (entity_field (field r 80 87))
  pub currency : T (of_currency rules.currency (field r 80 87))
  pub listed : T (on_roster rules.roster (field r 80 87))
  pub number : T (digits (field r 88 94))

pub batch_read : (rules : Rules) (before : ℕ) (r : List ℕ) → batch_header (in_house rules) before r ≡ fine → BatchRead rules r
unfolding batch_header number_good member_field member
batch_read rules before r h = search (also_l, also_r, need_T) depth 14

-- ---- the order of types

pub data Follows : Before → Kind → Type 0 where
  file_begins : Follows Nothing FileHeader
  batch_opens : Follows Between BatchHeader
  file_ends : Follows Between FileControl
  first_individual : Follows Opened Individual
  its_additional : Follows Flagged Additional
  next_individual : Follows Inside Individual
  batch_closes : Follows Inside BatchControl

no : {A : Type 0} {n : ℕ} → wrong n ≡ fine → A
no h = absurd (wrong_not_fine h)

-- a row for what stands before, a column for each type
pub follows : (b : Before) (k : Kind) → allowed b k ≡ fine → Follows b k
unfolding allowed
follows Nothing = each_kind (λ k. allowed Nothing k ≡ fine → Follows Nothing k) (λ h. file_begins) no no no no no no
follows Between = each_kind (λ k. allowed Between k ≡ fine → Follows Between k) no (λ h. batch_opens) no no no (λ h. file_ends) no
follows Opened = each_kind (λ k. allowed Opened k ≡ fine → Follows Opened k) no no (λ h. first_individual) no no no no
follows Flagged = each_kind (λ k. allowed Flagged k ≡ fine → Follows Flagged k) no no no (λ h. its_additional) no no no
follows Inside = each_kind (λ k. allowed Inside k ≡ fine → Follows Inside k) no no (λ h. next_individual) no (λ h. batch_closes) no no
follows Ended = λ k. no

pub record Judged (rules : ReadingRules) (s : State) (r : List ℕ) : Type 0 where
  pub good : T (every good r)
  pub allowed : allowed s.before (kind_of r) ≡ fine
  pub order : Follows s.before (kind_of r)
  pub fields : fields (kind_of r) rules s r ≡ fine

pub judged_facts : (rules : ReadingRules) (s : State) (r : List ℕ) → judged rules s r ≡ fine → Judged rules s r
unfolding judged
judged_facts rules s r h = search (also_l, also_r, need_T, follows)

-- the first record of an accepted file is a header
pub first_header : (rules : ReadingRules) (r : List ℕ) (rs : List (List ℕ)) → Faultless rules start (r ∷ rs) → kind_of r ≡ FileHeader
unfolding start
first_header rules r rs h = go (kind_of r) (judged_facts rules start r h.0).order
  where
    go : (k : Kind) → Follows Nothing k → k ≡ FileHeader
    go k file_begins = refl

-- Nothing stands after a 9
pub after_last : (rules : ReadingRules) (s : State) (rs : List (List ℕ)) → s.before ≡ Ended → Faultless rules s rs → rs ≡ []
unfolding allowed
after_last rules s [] e h = refl
after_last rules s (r ∷ rs) e h = absurd (wrong_not_fine (rw e at (judged_facts rules s r h.0).allowed))

-- ---- an accepted file

pub record Accepted (rules : ReadingRules) (file : List ℕ) : Type 0 where
  pub long : 188 ≤ length file
  pub short : length file ≤ 940000
  pub even : length file % 94 ≡ 0
  pub reads : Faultless rules start (records_of file)
  -- it is its records, of 94 bytes each
  pub sized : Sized 94 (records_of file)
  pub whole : joined (records_of file) ≡ file
  -- the first of them
  pub first : (rest : List (List ℕ)) × (records_of file ≡ take 94 file ∷ rest)

pub facts_by : (rules : ReadingRules) (file : List ℕ) → reading_by rules file ≡ accepted → Accepted rules file
unfolding length_good records_of parts
facts_by rules file h =
    let x = (accepted_by rules file).0 h in
    let w = within_range 188 940000 (length file) (and_l (within 188 940000 (length file)) (eqb (length file % 94) 0) x.0) in
    let e : length file % 94 ≡ 0 = eqb→eq (length file % 94) 0 (and_r (within 188 940000 (length file)) (eqb (length file % 94) 0) x.0) in
    let m : length file ≡ length file / 94 * 94 = omega (arith, div-add-mod' (length file) 94) in
    record {
      long = w.0;
      short = w.1;
      even = e;
      reads = x.1;
      sized = sized_parts 94 (length file / 94) file (omega (arith, m));
      whole = joined_parts 94 (length file / 94) file m;
      first = cut (length file / 94) (omega arith);
    }
  where
    cut : (n : ℕ) → 0 < n → (rest : List (List ℕ)) × (parts 94 n file ≡ take 94 file ∷ rest)
    cut zero p = absurd (omega arith)
    cut (suc n) p = (parts 94 n (drop 94 file), refl)

pub accepted_facts : (rules : Rules) (file : List ℕ) → reading rules file ≡ accepted → Accepted (in_house rules) file
unfolding reading
accepted_facts rules file h = facts_by (in_house rules) file h
