-- What each record of an accepted file is, with no state: its characters, its entities, its amount, what it stands after.
use Prim.Native.Nat.{ℕ, ◌≤◌, ◌<◌, ◌%◌, ◌^◌}
use native.Mathlib.Omega.{arith}
use mathlib.Core.Bool.{Bool, true, false, ◌||◌}
use mathlib.Core.List.{[], List, ◌∷◌}
use mathlib.Core.Path.{◌≡◌, sym}
use lib.Dec.{ltb, T, ltb→lt}
use lib.ListN.{length, get_or, length-take, length-drop}
use Rattle.paper.specs.declared.record.Before.{Before}
use Rattle.paper.specs.declared.record.Before.TheVariants.{Nothing, Between, Opened, Flagged, Inside, Ended}
use Rattle.paper.specs.declared.record.Kind.{Kind}
use Rattle.paper.specs.declared.record.Kind.TheVariants.{FileHeader, BatchHeader, Individual, Additional, BatchControl, FileControl, Other}
use Rattle.paper.specs.declared.rules.Rules.{Rules}
use Rattle.paper.specs.Answers.{accepted}
use Rattle.paper.specs.Checks.{fine}
use Rattle.paper.specs.Fields.{field, within, every, good, digits, same, is}
use Rattle.paper.specs.Entities.{entity_value, of_currency, entity_field, entity, on_roster}
use Rattle.paper.specs.Kinds.{kind_of, code_of, known}
use Rattle.paper.specs.Records.{ReadingRules, in_house, file_header, amount_of, counter_good}
use Rattle.paper.specs.Reading.{counted, State, start, flag, before_next, next, fields, records_of, reading}
use Rattle.paper.specs.Demands.{Faultless}
use Rattle.paper.proofs.Tests.{and_l, and_r, or_go, within_range, same→eq}
use Rattle.paper.proofs.Lists.{Sized}
use Rattle.paper.proofs.Digits.{number_bound}
use Rattle.paper.proofs.Accepted.{IndividualRead, entry_read, BatchRead, batch_read, Follows, file_begins, batch_opens, file_ends, first_individual, its_additional, next_individual, batch_closes, judged_facts, accepted_facts}

-- an entity of the session
pub record Entity (rules : Rules) (f : List ℕ) : Type 0 where
  pub digits : T (digits f)
  pub low : 1 ≤ entity f
  pub high : entity f ≤ 499
  pub listed : T (get_or rules.roster (entity f) false)

pub entity_of : (rules : Rules) (f : List ℕ) → T (entity_field f) → T (on_roster rules.roster f) → Entity rules f
unfolding entity_field of_currency on_roster entity
entity_of rules f t r =
    let v : ℕ = entity_value f in
    let range : (1 ≤ v % 500) × (v % 500 ≤ 499) = or_go (within 1 499 v) (within 501 999 v) (and_r (digits f) _ t)
    (λ x. let w = within_range 1 499 v x in omega arith)
    (λ x. let w = within_range 501 999 v x in omega arith) in
    record { digits = and_l (digits f) _ t; low = range.0; high = range.1; listed = r }

-- an individual record
pub record IndividualFacts (rules : Rules) (r : List ℕ) : Type 0 where
  pub code : T (known (code_of r))
  pub destination : Entity rules (field r 4 11)
  pub sender : Entity rules (field r 80 87)
  pub digits : T (digits (field r 30 39))
  pub some : 1 ≤ amount_of r
  pub below : amount_of r < 10 ^ 10
  pub flag : T (is (field r 79 79) "0" || is (field r 79 79) "1")

abbrev pub Facts : Rules → Kind → List ℕ → Type 0
Facts rules FileHeader r = file_header (in_house rules) r ≡ fine
Facts rules BatchHeader r = BatchRead rules r
Facts rules Individual r = IndividualFacts rules r
Facts rules Additional r = Unit {0}
Facts rules BatchControl r = Unit {0}
Facts rules FileControl r = Unit {0}
Facts rules Other r = ⊥

abbrev pub AllFacts : Rules → List (List ℕ) → Type 0
AllFacts rules [] = Unit {0}
AllFacts rules (r ∷ rs) = T (every good r) × Facts rules (kind_of r) r × AllFacts rules rs

-- the batch that a record stands in has a good header
abbrev In : Rules → Before → List ℕ → Type 0
In rules Nothing b = Unit {0}
In rules Between b = Unit {0}
In rules Opened b = BatchRead rules b
In rules Flagged b = BatchRead rules b
In rules Inside b = BatchRead rules b
In rules Ended b = Unit {0}

-- the counter begins with the sender's field
pub own_sender : (header : List ℕ) (n : ℕ) (r : List ℕ) → T (counter_good header n r) → field r 80 87 ≡ field header 80 87
unfolding counter_good
own_sender header n r t = same→eq (field r 80 87) (field header 80 87) (and_l (same (field r 80 87) (field header 80 87)) _ t)

individual_of : (rules : Rules) (header r : List ℕ) (n : ℕ) → length r ≡ 94 → BatchRead rules header → IndividualRead rules header n r
    → IndividualFacts rules r
unfolding amount_of
individual_of rules header r n l b o =
    let d : T (digits (field r 30 39)) = and_l (digits (field r 30 39)) _ o.amount in
    let e : field header 80 87 ≡ field r 80 87 = sym (own_sender header n r o.counter) in
    record {
      code = o.code;
      destination = entity_of rules (field r 4 11) o.destination o.listed;
      sender = entity_of rules (field r 80 87) (rw e at b.sender) (rw e at b.listed);
      digits = d;
      some = ltb→lt 0 (amount_of r) (and_r (digits (field r 30 39)) (ltb 0 (amount_of r)) o.amount);
      below = number_bound 10 (field r 30 39) (simp (length-take, length-drop, l));
      flag = o.flag;
    }

all_facts : (rules : Rules) (rs : List (List ℕ)) (s : State) → Sized 94 rs → In rules s.before s.counts.header → Faultless (in_house rules) s rs
    → AllFacts rules rs
unfolding next before_next counted fields flag
all_facts rules [] s z i h = tt
all_facts rules (r ∷ rs) s z i h =
    let j = judged_facts (in_house rules) s r h.0 in
    let p = go s.before (kind_of r) j.order i j.fields in
    (j.good, p.0, all_facts rules rs (next s r) z.1 p.1 h.1)
  where
    inside : (b : Bool) → BatchRead rules s.counts.header → In rules (flag b) s.counts.header
    inside true x = x
    inside false x = x

    go : (b : Before) (k : Kind) → Follows b k → In rules b s.counts.header → fields k (in_house rules) s r ≡ fine
        → Facts rules k r × In rules (before_next k r) (counted k s.counts r).header
    go b k file_begins i f = (f, tt)
    go b k batch_opens i f = (let b = batch_read rules s.counts.batches r f in (b, b))
    go b k file_ends i f = (tt, tt)
    go b k first_individual i f = (individual_of rules s.counts.header r s.counter z.0 i (entry_read rules s r f), inside (is (field r 79 79) "1") i)
    go b k its_additional i f = (tt, i)
    go b k next_individual i f = (individual_of rules s.counts.header r s.counter z.0 i (entry_read rules s r f), inside (is (field r 79 79) "1") i)
    go b k batch_closes i f = (tt, tt)

-- everything an accepted file says of its records
pub file_facts : (rules : Rules) (file : List ℕ) → reading rules file ≡ accepted → AllFacts rules (records_of file)
unfolding start
file_facts rules file h = let a = accepted_facts rules file h in all_facts rules (records_of file) start a.sized tt a.reads

-- the order of types alone: each record may stand after the one before it, and the last is a 9
abbrev pub Shaped : Before → List (List ℕ) → Type 0
Shaped b [] = b ≡ Ended
Shaped b (r ∷ rs) = Follows b (kind_of r) × Shaped (before_next (kind_of r) r) rs

shaped : (rules : ReadingRules) (rs : List (List ℕ)) (s : State) → Faultless rules s rs → Shaped s.before rs
unfolding next
shaped rules [] s h = h
shaped rules (r ∷ rs) s h = ((judged_facts rules s r h.0).order, shaped rules rs (next s r) h.1)

pub file_shaped : (rules : Rules) (file : List ℕ) → reading rules file ≡ accepted → Shaped Nothing (records_of file)
unfolding start
file_shaped rules file h = shaped (in_house rules) (records_of file) start (accepted_facts rules file h).reads
