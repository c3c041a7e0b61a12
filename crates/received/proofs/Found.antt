-- What the house found in an accepted file, batch by batch.
use Prim.Native.Nat.{ℕ, ◌+◌, ◌≤◌, ◌<◌, ◌^◌}
use native.Mathlib.Omega.{arith}
use mathlib.Core.Bool.{Bool, true, false}
use mathlib.Core.List.{List, [], ◌∷◌}
use mathlib.Core.Path.{◌≡◌, refl, subst}
use lib.Dec.{T}
use borrow.Author.Tests.{not-true}
use lib.ListN.{length, take, drop, length-drop}
use lib.Seq.{length-take-le}
use Rattle.paper.specs.declared.record.Before.{Before}
use Rattle.paper.specs.declared.record.Before.TheVariants.{Nothing, Between, Opened, Flagged, Inside, Ended}
use Rattle.paper.specs.declared.record.Kind.{Kind}
use Rattle.paper.specs.declared.record.Kind.TheVariants.{BatchHeader, Individual, Additional, BatchControl, FileControl}
use Rattle.paper.specs.declared.record.Tally.{Tally}
use Rattle.paper.specs.declared.rules.Rules.{Rules}
use Rattle.paper.specs.Answers.{accepted}
use Rattle.paper.specs.Checks.{fine}
use Rattle.paper.specs.Fields.{spells}
use Rattle.paper.specs.Kinds.{kind_of}
use Rattle.paper.specs.Records.{in_house, batch_header, individual, flagged_in}
use Rattle.paper.specs.Controls.{zeros, plus, batch_control, file_control}
use Rattle.paper.specs.Reading.{nothing_counted, counted, State, start, flag, before_next, last_individual, state_next, next, fields, records_of, reading}
use Rattle.paper.specs.Extract.{Batch, Groups, prepended, grouped, batches_of}
use Rattle.paper.specs.Demands.{Faultless}
use Rattle.paper.proofs.Tests.{of_T}
use Rattle.paper.proofs.Lists.{Sized}
use Rattle.paper.proofs.Exactly.{also_l, also_r, need_T}
use Rattle.paper.proofs.Accepted.{control_read, total_read, Follows, file_begins, batch_opens, file_ends, first_individual, its_additional, next_individual, batch_closes, Judged, judged_facts, accepted_facts}
use Rattle.paper.proofs.Spelling.{spells_below}
use Rattle.received.proofs.Written.{Fits}
use Rattle.received.proofs.Tallies.{noted, tallied, totalled}
use Rattle.received.proofs.Batches.{Followed, seen_after, ItemsRead, BatchesRead}

-- ---- what a control says fits its fields

-- of a record: a number that a part of it spells
part_below : (r : List ℕ) → length r ≡ 94 → (a w n : ℕ) → a + w ≤ 94 → T (spells (take w (drop a r)) n) → n < 10 ^ w
part_below r l a w n h t = spells_below w n (take w (drop a r)) (length-take-le w (drop a r) (rw length-drop (omega arith))) t

control_fits : (header : List ℕ) (t : Tally) (r : List ℕ) → length r ≡ 94 → batch_control header t r ≡ fine → Fits 6 t
control_fits header t r l h =
    let c = control_read header t r h in
    let below = part_below r l in
    record {
      records = below 4 6 t.records (omega arith) c.records;
      debits = below 20 12 t.debits (omega arith) c.debits;
      credits = below 32 12 t.credits (omega arith) c.credits;
    }

total_fits : (all batches : ℕ) (t : Tally) (r : List ℕ) → length r ≡ 94 → file_control all batches t r ≡ fine → Fits 8 t
total_fits all batches t r l h =
    let c = total_read all batches t r h in
    let below = part_below r l in
    record {
      records = below 13 8 t.records (omega arith) c.records;
      debits = below 31 12 t.debits (omega arith) c.debits;
      credits = below 43 12 t.credits (omega arith) c.credits;
    }

-- ---- what is ahead of a state

abbrev pub Opens : Rules → Batch → Type 0
Opens rules b = (before : ℕ) × (batch_header (in_house rules) before b.header ≡ fine)

abbrev pub Reads : Rules → List ℕ → ℕ → List ℕ → Type 0
Reads rules header previous r = individual (in_house rules) header previous r ≡ fine

-- between batches: batches
record Outside (rules : Rules) (s : State) (g : Groups) : Type 0 where
  additionals : g.additionals ≡ []
  items : g.items ≡ []
  batches : BatchesRead (Opens rules) (Reads rules) s.seen g.batches
  total : Fits 8 (totalled s.counts.closed g.batches)

-- in a batch that has counted t: its further items, then batches
record Within (rules : Rules) (s : State) (t : Tally) (g : Groups) : Type 0 where
  items : ItemsRead (Opens rules) (Reads rules) s.counts.header s.counter s.seen g.items
  fits : Fits 6 (tallied t g.items)
  batches : BatchesRead (Opens rules) (Reads rules) (seen_after s.seen g.items) g.batches
  total : Fits 8 (totalled (plus s.counts.closed (tallied t g.items)) g.batches)

abbrev InBatch : Rules → Bool → State → Groups → Type 0
InBatch rules flagged s g = Followed flagged s.individual g.additionals × Within rules s (noted s.counts.batch g.additionals) g

abbrev Ahead : Rules → Before → State → Groups → Type 0
Ahead rules Nothing s g = Outside rules s g
Ahead rules Between s g = Outside rules s g
Ahead rules Opened s g = InBatch rules false s g
Ahead rules Flagged s g = InBatch rules true s g
Ahead rules Inside s g = InBatch rules false s g
Ahead rules Ended s g = (g.additionals ≡ []) × (g.items ≡ []) × (g.batches ≡ [])

unfollowed : (i : List ℕ) (xs : List (List ℕ)) → Followed false i xs → xs ≡ []
unfollowed i [] f = refl
unfollowed i (x ∷ xs) f = let q : false ≡ true = f.0 in cc

flag_ahead : (rules : Rules) (b : Bool) (s : State) (g : Groups) → Ahead rules (flag b) s g → InBatch rules b s g
unfolding flag
flag_ahead rules true s g a = a
flag_ahead rules false s g a = a

module _ (rules : Rules) (s : State) (r : List ℕ) (l : length r ≡ 94) (g : Groups) (j : Judged (in_house rules) s r) where
  -- one record back
  abbrev Back : Before → Kind → Type 0
  Back w k = kind_of r ≡ k → fields k (in_house rules) s r ≡ fine → Ahead rules (before_next k r) (state_next k s r) g → Ahead rules w s (prepended k r g)

  opened : Back Between BatchHeader
  unfolding before_next last_individual counted prepended fields noted totalled seen_after
  opened k f a =
      let none = unfollowed s.individual g.additionals a.0 in
      let t : State = state_next BatchHeader s r in
      let w : Within rules t zeros g = subst (λ (xs : List (List ℕ)). Within rules t (noted zeros xs) g) none a.1 in
      record {
        additionals = refl;
        items = refl;
        batches = (record { whole = (k, l); good = j.good; opens = (s.counts.batches, f); items = w.items; fits = w.fits }, w.batches);
        total = w.total;
      }

  entered : Back Inside Individual
  unfolding before_next last_individual counted prepended fields noted tallied totalled seen_after
  entered k f a =
      let p = flag_ahead rules (flagged_in r) (state_next Individual s r) g a in
      let w = p.1 in
      (refl, record { items = (record { kind = k; good = j.good; reads = also_l _ _ f; new = not-true _ (of_T _ (need_T _ 27 (also_r _ _ f))); followed = p.0 }, w.items); fits = w.fits; batches = w.batches; total = w.total })

  added : Back Flagged Additional
  unfolding before_next last_individual counted prepended fields noted tallied totalled seen_after
  added k f a =
      let w = a.1 in
      ((refl, k, j.good, f, unfollowed s.individual g.additionals a.0), record { items = w.items; fits = w.fits; batches = w.batches; total = w.total })

  closed : Back Inside BatchControl
  unfolding before_next last_individual counted prepended fields noted tallied totalled seen_after
  closed k f a = (
    rw a.additionals refl,
    record {
      items = rw a.items tt;
      fits = rw (a.additionals, a.items) (control_fits s.counts.header s.counts.batch r l f);
      batches = rw a.items a.batches;
      total = rw (a.additionals, a.items) a.total;
    },
  )

  ended : Back Between FileControl
  unfolding before_next last_individual counted prepended fields noted tallied totalled seen_after
  ended k f a = record {
    additionals = a.0;
    items = a.1;
    batches = rw a.2 tt;
    total = rw a.2 (total_fits (s.counts.place + 1) s.counts.batches s.counts.closed r l f);
  }

  back : (w : Before) (k : Kind) → Follows w k → Back w k
  unfolding before_next last_individual counted prepended
  back w k file_begins q f a = record { additionals = a.additionals; items = a.items; batches = a.batches; total = a.total }
  back w k batch_opens q f a = opened q f a
  back w k file_ends q f a = ended q f a
  back w k first_individual q f a = entered q f a
  back w k its_additional q f a = added q f a
  back w k next_individual q f a = entered q f a
  back w k batch_closes q f a = closed q f a

ahead : (rules : Rules) (rs : List (List ℕ)) (s : State) → Sized 94 rs → Faultless (in_house rules) s rs → Ahead rules s.before s (grouped rs)
unfolding grouped next
ahead rules [] s z h = rw h (refl, refl, refl)
ahead rules (r ∷ rs) s z h =
    let j = judged_facts (in_house rules) s r h.0 in
    back rules s r z.0 (grouped rs) j s.before (kind_of r) j.order refl j.fields (ahead rules rs (next s r) z.1 h.1)

-- an accepted file's batches
pub record Found (rules : Rules) (file : List ℕ) : Type 0 where
  pub batches : BatchesRead (Opens rules) (Reads rules) [] (batches_of file)
  pub total : Fits 8 (totalled zeros (batches_of file))

pub found : (rules : Rules) (file : List ℕ) → reading rules file ≡ accepted → Found rules file
unfolding batches_of start nothing_counted
found rules file h =
    let a = accepted_facts rules file h in
    let o = ahead rules (records_of file) start a.sized a.reads in
    record { batches = o.batches; total = o.total }
