-- What is written of batches that read without fault at a desk reads there without fault.
use Prim.Native.Nat.{ℕ, suc}
use native.Mathlib.Omega.{arith}
use mathlib.Core.Bool.{Bool, not}
use mathlib.Core.List.{List, [], ◌∷◌, ◌++◌, append_assoc}
use mathlib.Core.Path.{◌≡◌, refl, ap, ◌∙◌, subst, ap₂}
use lib.Dec.{T}
use lib.ListN.{length}
use Rattle.paper.specs.declared.record.Before.{Before}
use Rattle.paper.specs.declared.record.Before.TheVariants.{Opened, Flagged, Inside}
use Rattle.paper.specs.declared.record.Kind.TheVariants.{BatchHeader, Individual, Additional}
use Rattle.paper.specs.declared.record.Tally.{Tally}
use Rattle.paper.specs.declared.rules.Rules.{Rules}
use Rattle.paper.specs.Checks.{fine}
use Rattle.paper.specs.Fields.{among, every, good}
use Rattle.paper.specs.Kinds.{kind_of, allowed}
use Rattle.paper.specs.Records.{at_desk, number_in, flagged_in}
use Rattle.paper.specs.Controls.{zeros, plus, with_individual, with_additional}
use Rattle.paper.specs.Reading.{Reckoning, counted, State, flag, before_next, last_individual, state_next, fields}
use Rattle.paper.specs.Writing.{numbered, settled, owed_before, settled_before}
use Rattle.paper.specs.Extract.{Item, Batch, item_records, batch_records}
use Rattle.paper.proofs.Lists.{length_numbered, kind_numbered}
use Rattle.paper.proofs.Exactly.{fine_also, need_met}
use Rattle.received.proofs.Written.{Fits}
use Rattle.received.proofs.Handed.{good_numbered}
use Rattle.received.proofs.Tallies.{noted, tallied, totalled}
use Rattle.received.proofs.Batches.{Followed, seen_after, ItemRead, ItemsRead, BatchesRead}
use Rattle.received.proofs.Chosen.{Filled, OpensAt, ReadsAt}
use Rattle.received.proofs.Steps.{Closable, settled_kept, Runs, judged_fine, step, head, end}

-- where a reader stands in batch n, under its header h, after batches that counted c: what is before it, the last number p, the numbers seen ns, and that the batch has counted b
record Stands (h : List ℕ) (n : ℕ) (c : Tally) (t : State) (w : Before) (p : ℕ) (ns : List ℕ) (b : Tally) : Type 0 where
  before : t.before ≡ w
  header : t.counts.header ≡ h
  counter : t.counter ≡ p
  seen : t.seen ≡ ns
  batches : t.counts.batches ≡ n
  batch : t.counts.batch ≡ b
  closed : t.counts.closed ≡ c

module _ (rules : Rules) (e : ℕ) (header : List ℕ) (n : ℕ) (c : Tally) where
  abbrev There : State → Before → ℕ → List ℕ → Tally → Type 0
  There t w p ns b = Stands (numbered n header) n c t w p ns b

  -- the additionals of an individual record
  additionals_run : (r : List ℕ) (xs rs : List (List ℕ)) (t : State) (w : Bool) (p : ℕ) (ns : List ℕ) (b : Tally) → There t (flag w) p ns b → t.individual ≡ r → Followed w r xs
      → ((u : State) → There u Inside p ns (noted b xs) → Runs (at_desk e rules) u rs) → Runs (at_desk e rules) t (xs ++ rs)
  unfolding flag noted owed_before settled_before counted allowed fields before_next
  additionals_run r [] rs t w p ns b s o f later = later t (subst (λ (x : Bool). There t (flag x) p ns b) f s)
  additionals_run r (x ∷ xs) rs t w p ns b s o f later =
      let before : t.before ≡ Flagged = s.before ∙ ap flag f.0 in
      rw f.4
      (step (at_desk e rules) t x rs Additional f.1 refl refl refl refl (judged_fine (at_desk e rules) t x Additional f.1 f.2 (rw before refl) (rw o f.3))
      (later (state_next Additional t x) (rw f.4 (record {
        before = refl;
        header = s.header;
        counter = s.counter;
        seen = s.seen;
        batches = s.batches;
        batch = ap with_additional s.batch;
        closed = s.closed;
      }))))

  -- an item
  item_run : (i : Item) (rs : List (List ℕ)) (t : State) (w : Before) (p : ℕ) (ns : List ℕ) (b : Tally) → There t w p ns b → allowed w Individual ≡ fine
      → ItemRead (OpensAt rules e) (ReadsAt rules e) header p ns i
      → ((u : State) → There u Inside (number_in i.individual) (number_in i.individual ∷ ns) (tallied b (i ∷ [])) → Runs (at_desk e rules) u rs)
      → Runs (at_desk e rules) t (i.individual ∷ (i.additionals ++ rs))
  unfolding tallied owed_before settled_before counted fields before_next last_individual
  item_run i rs t w p ns b s a h later =
      let r : List ℕ = i.individual in
      let new : T (not (among t.seen (number_in r))) = rw (s.seen, h.new) tt in
      let reads : fields Individual (at_desk e rules) t r ≡ fine = fine_also _ _ (rw (s.header, s.counter) (h.reads n)) (need_met _ 27 new) in
      let judged = judged_fine (at_desk e rules) t r Individual h.kind h.good (rw s.before a) reads in
      let there : There (state_next Individual t r) (flag (flagged_in r)) (number_in r) (number_in r ∷ ns) (with_individual b r) = record {
        before = refl;
        header = s.header;
        counter = refl;
        seen = ap (λ (ms : List ℕ). number_in r ∷ ms) s.seen;
        batches = s.batches;
        batch = ap (λ (x : Tally). with_individual x r) s.batch;
        closed = s.closed;
      } in
      step (at_desk e rules) t r (i.additionals ++ rs) Individual h.kind refl refl refl refl judged
      (additionals_run r i.additionals rs (state_next Individual t r) (flagged_in r) (number_in r) (number_in r ∷ ns) (with_individual b r) there refl h.followed later)

  inside_filled : (is : List Item) → Filled Inside is
  inside_filled [] = refl
  inside_filled (i ∷ is) = tt

  -- items, to where the batch may close
  items_run : (is : List Item) (rs : List (List ℕ)) (t : State) (w : Before) (p : ℕ) (ns : List ℕ) (b : Tally) → There t w p ns b → allowed w Individual ≡ fine → Filled w is
      → ItemsRead (OpensAt rules e) (ReadsAt rules e) header p ns is
      → ((u : State) (q : ℕ) → There u Inside q (seen_after ns is) (tallied b is) → Runs (at_desk e rules) u rs)
      → Runs (at_desk e rules) t (item_records is ++ rs)
  unfolding item_records tallied seen_after allowed
  items_run [] rs t w p ns b s a o h later = later t p (subst (λ (x : Before). There t x p ns b) o s)
  items_run (i ∷ is) rs t w p ns b s a o h later =
      let next : ℕ = number_in i.individual in
      rw (append_assoc i.additionals (item_records is) rs)
      (item_run i (item_records is ++ rs) t w p ns b s a h.0 (λ u v. items_run is rs u Inside next (next ∷ ns) (tallied b (i ∷ [])) v refl (inside_filled is) h.1 later))

-- ---- batches

-- a reader between batches, the control of the last perhaps ahead of it: the numbers seen, how many batches, and what they have counted
pub record Reached (t : State) (ns : List ℕ) (n : ℕ) (c : Tally) : Type 0 where
  pub seen : t.seen ≡ ns
  pub batches : t.counts.batches ≡ n
  pub closed : (settled t.counts.batches t.counts).closed ≡ c
  pub ready : Closable t.counts.batches t

-- after the items of a batch
reached : (header : List ℕ) (n p : ℕ) (ns : List ℕ) (c b : Tally) (t : State) → length header ≡ 94 → T (every good header) → Fits 6 b
    → Stands (numbered (suc n) header) (suc n) c t Inside p ns b → Reached t ns (suc n) (plus c b)
unfolding settled counted
reached header n p ns c b t l g f s = record {
  seen = s.seen;
  batches = s.batches;
  closed = rw s.batches (ap₂ plus s.closed s.batch);
  ready = rw s.batches (s.before, rw s.batch f, rw s.header (length_numbered (suc n) header (omega arith)), rw s.header (good_numbered (suc n) header g));
}

-- after the header of the next
opened : (t u : State) (r : List ℕ) (ns : List ℕ) (n : ℕ) (c : Tally) → Reached t ns n c → u.seen ≡ t.seen → u.counts ≡ settled t.counts.batches t.counts
    → Stands r (suc n) c (state_next BatchHeader u r) Opened 0 ns zeros
unfolding counted before_next
opened t u r ns n c s o q = record {
  before = refl;
  header = refl;
  counter = refl;
  seen = o ∙ s.seen;
  batches = ap (λ (x : Reckoning). suc x.batches) q ∙ settled_kept (λ x. suc x.batches) (λ x. refl) t.counts.batches t.counts ∙ ap suc s.batches;
  batch = refl;
  closed = ap (λ (x : Reckoning). x.closed) q ∙ s.closed;
}

pub batches_run : (rules : Rules) (e : ℕ) (bs : List Batch) (t : State) (ns : List ℕ) (n : ℕ) (c : Tally) → Reached t ns n c
    → BatchesRead (OpensAt rules e) (ReadsAt rules e) ns bs → Fits 8 (totalled c bs) → Runs (at_desk e rules) t (batch_records n bs)
unfolding batch_records totalled allowed
batches_run rules e [] t ns n c s h f = end (at_desk e rules) t s.ready (rw s.closed f)
batches_run rules e (b ∷ bs) t ns n c s h f =
    let r : List ℕ = numbered (suc n) b.header in
    let l : length b.header ≡ 94 = h.0.whole.1 in
    let k : kind_of r ≡ BatchHeader = kind_numbered (suc n) b.header (omega arith) ∙ h.0.whole.0 in
    head (at_desk e rules) t r (item_records b.items ++ batch_records (suc n) bs) k s.ready (good_numbered (suc n) b.header h.0.good)
    (λ lt. rw s.batches (h.0.opens.1 n (omega arith)))
    (λ u o q. items_run rules e b.header (suc n) c b.items (batch_records (suc n) bs) (state_next BatchHeader u r) Opened 0 ns zeros (opened t u r ns n c s o q) refl h.0.opens.0 h.0.items
    (λ v q x. batches_run rules e bs v (seen_after ns b.items) (suc n) (plus c (tallied zeros b.items))
    (reached b.header n q (seen_after ns b.items) c (tallied zeros b.items) v l h.0.good h.0.fits x) h.1 f))
