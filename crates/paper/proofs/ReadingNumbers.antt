-- The numbers of the reading: 201 for the length, else one of its records' faults; never one that is a job's own.
use Prim.Native.Nat.{ℕ}
use mathlib.Core.Bool.{Bool, true, false}
use mathlib.Core.List.{[], List, ◌∷◌}
use mathlib.Core.Logic.{◌⊎◌, inl, inr, ⊎_map}
use mathlib.Core.Path.{◌≡◌, sym, subst}
use lib.Dec.{T}
use lib.ListN.{length}
use Rattle.paper.specs.declared.record.Before.{Before}
use Rattle.paper.specs.declared.record.Before.TheVariants.{Nothing, Between, Opened, Flagged, Inside, Ended}
use Rattle.paper.specs.declared.record.Kind.{Kind}
use Rattle.paper.specs.declared.record.Kind.TheVariants.{FileHeader, BatchHeader, Individual, Additional, BatchControl, FileControl, Other}
use Rattle.paper.specs.declared.rules.Rules.{Rules}
use Rattle.paper.specs.declared.rules.Reader.{Reader}
use Rattle.paper.specs.declared.rules.Reader.TheVariants.{House, Desk}
use Rattle.paper.specs.Answers.{refused}
use Rattle.paper.specs.Checks.{Check, fine, wrong, need, ◌also◌}
use Rattle.paper.specs.Fields.{among, every, good}
use Rattle.paper.specs.Kinds.{kind_of, code_of, rejects, allowed}
use Rattle.paper.specs.Records.{ReadingRules, in_house, member, member_field, headed, file_header, batch_header, addressed, destination, transfer, individual, additional99, additional05, additional_by, additional}
use Rattle.paper.specs.declared.record.Tally.{Tally}
use Rattle.paper.specs.Controls.{batch_control, file_control}
use Rattle.paper.specs.Reading.{State, start, next, fields, judged, records_of, length_good, reading_by, reading}
use Rattle.paper.specs.Demands.{FirstFault}
use Rattle.paper.proofs.Types.{each_kind}
use Rattle.paper.proofs.Exactly.{refused_by}

abbrev pub record_numbers : List ℕ
record_numbers = 17 ∷ 19 ∷ 25 ∷ 27 ∷ 75 ∷ 77 ∷ 78 ∷ 79 ∷ 87 ∷ 203 ∷ 204 ∷ []

-- ---- a check that finds a fault gives it one of these

unfoldable Named : Check → Type 0
Named fine = Unit {0}
Named (wrong n) = T (among record_numbers n)

named_need : (b : Bool) (n : ℕ) → T (among record_numbers n) → Named (need b n)
unfolding need Named
named_need true n t = tt
named_need false n t = t

named_also : (a b : Check) → Named a → Named b → Named (a also b)
unfolding ◌also◌
named_also fine b p q = q
named_also (wrong n) b p q = p

headed_named : (reader : Reader) (rules : Rules) (r : List ℕ) → Named (headed reader rules r)
unfolding headed member among
headed_named House rules r = search (named_also, named_need) depth 20
headed_named (Desk e) rules r = search (named_also, named_need) depth 20

addressed_named : (reader : Reader) (roster : List Bool) (f : List ℕ) → Named (addressed reader roster f)
unfolding addressed among
addressed_named House roster f = search (named_also, named_need) depth 20
addressed_named (Desk e) roster f = search (named_also, named_need) depth 20

header_named : (rules : ReadingRules) (r : List ℕ) → Named (file_header rules r)
unfolding file_header among
header_named rules r = search (named_also, named_need, headed_named) depth 20

batch_named : (rules : ReadingRules) (before : ℕ) (r : List ℕ) → Named (batch_header rules before r)
unfolding batch_header member_field member among
batch_named rules before r = search (named_also, named_need) depth 20

individual_named : (rules : ReadingRules) (header : List ℕ) (previous : ℕ) (r : List ℕ) → Named (individual rules header previous r)
unfolding individual transfer destination among
individual_named rules header previous r = search (named_also, named_need, addressed_named) depth 20

additional_named : (after r : List ℕ) (b : Bool) → Named (additional_by b after r)
unfolding additional_by additional99 additional05 among
additional_named after r true = search (named_also, named_need) depth 20
additional_named after r false = search (named_also, named_need) depth 20

control_named : (header : List ℕ) (t : Tally) (r : List ℕ) → Named (batch_control header t r)
unfolding batch_control among
control_named header t r = search (named_also, named_need) depth 20

total_named : (all batches : ℕ) (t : Tally) (r : List ℕ) → Named (file_control all batches t r)
unfolding file_control among
total_named all batches t r = search (named_also, named_need) depth 20

fields_named : (k : Kind) (rules : ReadingRules) (s : State) (r : List ℕ) → Named (fields k rules s r)
unfolding fields additional Named among
fields_named FileHeader rules s r = header_named rules r
fields_named BatchHeader rules s r = batch_named rules s.counts.batches r
fields_named Individual rules s r = named_also _ _ (individual_named rules s.counts.header s.counter r) (named_need _ 27 tt)
fields_named Additional rules s r = additional_named s.individual r (rejects (code_of s.individual))
fields_named BatchControl rules s r = control_named s.counts.header s.counts.batch r
fields_named FileControl rules s r = total_named _ s.counts.batches s.counts.closed r
fields_named Other rules s r = tt

-- what may stand after what, column by column
allowed_named : (b : Before) (k : Kind) → Named (allowed b k)
unfolding allowed Named among
allowed_named Nothing = each_kind (λ k. Named (allowed Nothing k)) tt tt tt tt tt tt tt
allowed_named Between = each_kind (λ k. Named (allowed Between k)) tt tt tt tt tt tt tt
allowed_named Opened = each_kind (λ k. Named (allowed Opened k)) tt tt tt tt tt tt tt
allowed_named Flagged = each_kind (λ k. Named (allowed Flagged k)) tt tt tt tt tt tt tt
allowed_named Inside = each_kind (λ k. Named (allowed Inside k)) tt tt tt tt tt tt tt
allowed_named Ended = λ k. tt

judged_named : (rules : ReadingRules) (s : State) (r : List ℕ) → Named (judged rules s r)
unfolding judged among
judged_named rules s r =
    named_also (need (every good r) 17 also allowed s.before (kind_of r)) (fields (kind_of r) rules s r)
    (named_also (need (every good r) 17) (allowed s.before (kind_of r)) (named_need (every good r) 17 tt) (allowed_named s.before (kind_of r)))
    (fields_named (kind_of r) rules s r)

-- ---- so has the first fault of a file

pub first_named : (rules : ReadingRules) (rs : List (List ℕ)) (s : State) (n place : ℕ) → FirstFault rules s rs n place → T (among record_numbers n)
unfolding Named among
first_named rules [] s n place f = subst (λ (m : ℕ). T (among record_numbers m)) (sym f.1) tt
first_named rules (r ∷ rs) s n place (inl f) = subst Named f.0 (judged_named rules s r)
first_named rules (r ∷ rs) s n place (inr f) = first_named rules rs (next s r) n place f.1

-- "No other circumstance gives a refusal": the reading has no 206, 207, 208 or 209, and 201 for the length only
pub number_by : (rules : ReadingRules) (file : List ℕ) {n place : ℕ} → reading_by rules file ≡ refused n place
    → ((length_good (length file) ≡ false) × (n ≡ 201)) ⊎ T (among record_numbers n)
number_by rules file {n} {place} h =
    ⊎_map (λ x. (x.0, x.1)) (λ x. first_named rules (records_of file) start n place x.1) ((refused_by rules file).0 h)

pub reading_number : (rules : Rules) (file : List ℕ) {n place : ℕ} → reading rules file ≡ refused n place
    → ((length_good (length file) ≡ false) × (n ≡ 201)) ⊎ T (among record_numbers n)
unfolding reading
reading_number rules file h = number_by (in_house rules) file h
