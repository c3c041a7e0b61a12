-- By place: record i of a file is the 94 bytes at 94 * i. And the postings of an accepted file: senders, destinations, amounts.
use Prim.Native.Nat.{ℕ, zero, suc, ◌+◌, ◌*◌, ◌≤◌, ◌<◌, ◌/◌, ◌^◌}
use native.Mathlib.Nat.{suc-mul, zero-mul}
use native.Mathlib.Omega.{arith}
use mathlib.Core.Bool.{Bool, true, false}
use mathlib.Core.List.{[], List, ◌∷◌, ◌++◌}
use mathlib.Core.Path.{◌≡◌, refl, sym, ap, ◌∙◌, ap₂}
use lib.ListN.{length, take, drop, length-append}
use lib.Seq.{drop-drop}
use Rattle.paper.specs.declared.record.Before.{Before}
use Rattle.paper.specs.declared.record.Before.TheVariants.{Nothing, Between, Opened, Flagged, Inside, Ended}
use Rattle.paper.specs.declared.record.Kind.{Kind}
use Rattle.paper.specs.declared.record.Kind.TheVariants.{FileHeader, BatchHeader, Individual, Additional, BatchControl, FileControl, Other}
use Rattle.paper.specs.declared.rules.Rules.{Rules}
use Rattle.paper.specs.Answers.{accepted}
use Rattle.paper.specs.Checks.{fine}
use Rattle.paper.specs.Fields.{field, is}
use Rattle.paper.specs.Entities.{entity}
use Rattle.paper.specs.Kinds.{kind_of}
use Rattle.paper.specs.Records.{in_house}
use Rattle.paper.specs.Reading.{counted, State, start, flag, before_next, next, fields, parts, records_of, reading}
use Rattle.paper.specs.Postings.{Posting, posting, posted_by, sender_after, postings_from, postings, own_postings}
use Rattle.paper.specs.Demands.{Faultless}
use Rattle.paper.proofs.Lists.{length_parts}
use Rattle.paper.proofs.Accepted.{entry_read, Follows, file_begins, batch_opens, file_ends, first_individual, its_additional, next_individual, batch_closes, judged_facts, accepted_facts}
use Rattle.paper.proofs.Facts.{Facts, AllFacts, own_sender, file_facts}

-- ---- by place

-- the step of a loop over the records: from place i the first is the w bytes at i * w
pub parts_from : (w n : ℕ) (l : List ℕ) (i : ℕ) → i < n → drop i (parts w n l) ≡ take w (drop (i * w) l) ∷ drop (suc i) (parts w n l)
unfolding parts
parts_from w zero l i h = absurd (omega arith)
parts_from w (suc n) l zero h = ap (λ (k : ℕ). take w (drop k l) ∷ parts w n (drop w l)) (sym (zero-mul w))
parts_from w (suc n) l (suc i) h =
    let e : w + i * w ≡ suc i * w = omega (arith, suc-mul i w) in
    parts_from w n (drop w l) i (omega arith)
    ∙ ap (λ (x : List ℕ). take w x ∷ drop (suc i) (parts w n (drop w l))) (drop-drop (i * w) w l ∙ ap (λ (k : ℕ). drop k l) e)

-- ---- each individual record names its own sender

-- the sender in hand is that of the batch
abbrev Sent : Before → List ℕ → ℕ → Type 0
Sent Nothing b n = Unit {0}
Sent Between b n = Unit {0}
Sent Opened b n = n ≡ entity (field b 80 87)
Sent Flagged b n = n ≡ entity (field b 80 87)
Sent Inside b n = n ≡ entity (field b 80 87)
Sent Ended b n = Unit {0}

own_postings_lem : (rules : Rules) (rs : List (List ℕ)) (s : State) (n : ℕ) → Sent s.before s.counts.header n → Faultless (in_house rules) s rs
    → postings_from n rs ≡ own_postings rs
unfolding postings_from own_postings next before_next counted fields flag posted_by sender_after
own_postings_lem rules [] s n i h = refl
own_postings_lem rules (r ∷ rs) s n i h =
    let j = judged_facts (in_house rules) s r h.0 in
    let p = go s.before (kind_of r) j.order i j.fields in
    ap₂ ◌++◌ p.0 (own_postings_lem rules rs (next s r) (sender_after (kind_of r) n r) p.1 h.1)
  where
    inside : (b : Bool) → n ≡ entity (field s.counts.header 80 87) → Sent (flag b) s.counts.header n
    inside true x = x
    inside false x = x

    six : n ≡ entity (field s.counts.header 80 87) → fields Individual (in_house rules) s r ≡ fine
        → posted_by Individual n r ≡ posted_by Individual (entity (field r 80 87)) r
    six i f =
        let o = entry_read rules s r f in
        ap (λ (m : ℕ). posted_by Individual m r) (i ∙ ap entity (sym (own_sender s.counts.header s.counter r o.counter)))

    go : (b : Before) (k : Kind) → Follows b k → Sent b s.counts.header n → fields k (in_house rules) s r ≡ fine
        → (posted_by k n r ≡ posted_by k (entity (field r 80 87)) r) × Sent (before_next k r) (counted k s.counts r).header (sender_after k n r)
    go b k file_begins i f = (refl, tt)
    go b k batch_opens i f = (refl, refl)
    go b k file_ends i f = (refl, tt)
    go b k first_individual i f = (six i f, inside (is (field r 79 79) "1") i)
    go b k its_additional i f = (refl, i)
    go b k next_individual i f = (six i f, inside (is (field r 79 79) "1") i)
    go b k batch_closes i f = (refl, tt)

pub postings_own : (rules : Rules) (file : List ℕ) → reading rules file ≡ accepted → postings file ≡ own_postings (records_of file)
unfolding postings start
postings_own rules file h = own_postings_lem rules (records_of file) start 0 tt (accepted_facts rules file h).reads

-- ---- bounds

pub record Sound (rules : Rules) (p : Posting) : Type 0 where
  pub sender_low : 1 ≤ p.sender
  pub destination_low : 1 ≤ p.destination
  pub some : 1 ≤ p.amount
  pub below : p.amount < 10 ^ 10

abbrev pub AllSound : Rules → List Posting → Type 0
AllSound rules [] = Unit {0}
AllSound rules (p ∷ ps) = Sound rules p × AllSound rules ps

pub sound_append : (rules : Rules) (a b : List Posting) → AllSound rules a → AllSound rules b → AllSound rules (a ++ b)
sound_append rules [] b p q = q
sound_append rules (x ∷ a) b p q = (p.0, sound_append rules a b p.1 q)

sound_by : (rules : Rules) (k : Kind) (r : List ℕ) → Facts rules k r → AllSound rules (posted_by k (entity (field r 80 87)) r)
unfolding posted_by posting
sound_by rules FileHeader r f = tt
sound_by rules BatchHeader r f = tt
sound_by rules Individual r f = (
  record {
    sender_low = f.sender.low;
    destination_low = f.destination.low;
    some = f.some;
    below = f.below;
  },
  tt,
)
sound_by rules Additional r f = tt
sound_by rules BatchControl r f = tt
sound_by rules FileControl r f = tt
sound_by rules Other r f = tt

sound_own : (rules : Rules) (rs : List (List ℕ)) → AllFacts rules rs → AllSound rules (own_postings rs)
unfolding own_postings
sound_own rules [] a = tt
sound_own rules (r ∷ rs) a = sound_append rules (posted_by (kind_of r) (entity (field r 80 87)) r) (own_postings rs) (sound_by rules (kind_of r) r a.1) (sound_own rules rs a.2)

pub postings_sound : (rules : Rules) (file : List ℕ) → reading rules file ≡ accepted → AllSound rules (postings file)
postings_sound rules file h = rw (postings_own rules file h) (sound_own rules (records_of file) (file_facts rules file h))

-- no more postings than records
by_one : (k : Kind) (n : ℕ) (r : List ℕ) → length (posted_by k n r) ≤ 1
unfolding posted_by
by_one FileHeader n r = omega arith
by_one BatchHeader n r = omega arith
by_one Individual n r = omega arith
by_one Additional n r = omega arith
by_one BatchControl n r = omega arith
by_one FileControl n r = omega arith
by_one Other n r = omega arith

from_count : (rs : List (List ℕ)) (n : ℕ) → length (postings_from n rs) ≤ length rs
unfolding postings_from
from_count [] n = omega arith
from_count (r ∷ rs) n = rw length-append (omega (arith, by_one (kind_of r) n r, from_count rs (sender_after (kind_of r) n r)))

pub postings_count : (rules : Rules) (file : List ℕ) → reading rules file ≡ accepted → length (postings file) ≤ 10000
unfolding postings records_of
postings_count rules file h =
    let a = accepted_facts rules file h in
    omega (arith, from_count (records_of file) 0, length_parts 94 (length file / 94) file, a.short)
