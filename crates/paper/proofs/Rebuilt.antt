-- What is stripped from a file and built again is the file in its normal form, record by record.
use Prim.Native.Nat.{ℕ, zero, suc, ◌+◌}
use native.Mathlib.Omega.{arith}
use mathlib.Core.Bool.{Bool, true, false}
use mathlib.Core.List.{[], List, ◌∷◌, ◌++◌, map}
use mathlib.Core.Path.{◌≡◌, refl, sym, ap, ◌∙◌, subst, ap₂}
use lib.ListN.{length, drop}
use Rattle.paper.specs.declared.record.Before.{Before}
use Rattle.paper.specs.declared.record.Before.TheVariants.{Nothing, Between, Opened, Flagged, Inside, Ended}
use Rattle.paper.specs.declared.record.Kind.{Kind}
use Rattle.paper.specs.declared.record.Kind.TheVariants.{BatchHeader, Individual, Additional, BatchControl, FileControl}
use Rattle.paper.specs.Checks.{fine}
use Rattle.paper.specs.Fields.{field, is}
use Rattle.paper.specs.Kinds.{kind_of}
use Rattle.paper.specs.declared.record.Tally.{Tally}
use Rattle.paper.specs.Controls.{plus, with_individual, with_additional}
use Rattle.paper.specs.Records.{ReadingRules}
use Rattle.paper.specs.Reading.{Reckoning, counted, State, flag, before_next, next, fields}
use Rattle.paper.specs.Writing.{numbered, batch_control_of, file_control_of, owed, settled, owed_before, settled_before, ending, with_controls}
use Rattle.paper.specs.Trays.{batches_after, individuals_after, numbered_by, numbering, zeroed, marked, stripped}
use Rattle.paper.specs.Demands.{Faultless}
use Rattle.paper.proofs.Lists.{Sized, kind_numbered}
use Rattle.paper.proofs.Accepted.{control_read, total_read, Follows, file_begins, batch_opens, file_ends, first_individual, its_additional, next_individual, batch_closes, judged_facts, after_last}
use Rattle.paper.proofs.Normal.{normal, normals, numbered_zeroed, with_individual_numbered, control_normal, total_normal}

-- ---- the reader's counts and the writer's, side by side

-- between batches the reader has seen the control that the writer still owes
pub record Beside (a c : Reckoning) : Type 0 where
  pub place : a.place ≡ (settled c.batches c).place
  pub batches : a.batches ≡ (settled c.batches c).batches
  pub closed : a.closed ≡ (settled c.batches c).closed

-- inside a batch they have counted the same
pub record Together (a c : Reckoning) : Type 0 where
  pub place : a.place ≡ c.place
  pub batches : a.batches ≡ c.batches
  pub batch : a.batch ≡ c.batch
  pub closed : a.closed ≡ c.closed
  pub some : (n : ℕ) × (c.batches ≡ suc n)
  pub header : c.header ≡ numbered c.batches a.header
  pub long : length a.header ≡ 94

abbrev pub Link : Before → Reckoning → Reckoning → Type 0
Link Nothing a c = ⊥
Link Between a c = Beside a c
Link Opened a c = Together a c
Link Flagged a c = Together a c
Link Inside a c = Together a c
Link Ended a c = ⊥

-- what the writer owes
abbrev pub owes : Before → Reckoning → List (List ℕ)
owes Nothing c = []
owes Between c = owed c.batches c
owes Opened c = []
owes Flagged c = []
owes Inside c = []
owes Ended c = []

abbrev pub bodies : List (List ℕ) → List (List ℕ)
bodies rs = map (drop 2) (stripped rs)

abbrev pub Rebuilt : ReadingRules → List (List ℕ) → Type 0
Rebuilt rules rs = (s : State) (c : Reckoning) (n : ℕ) (w : Before) → s.before ≡ w → Link w s.counts c → Faultless rules s rs
    → with_controls c (numbering c.batches n (bodies rs)) ≡ owes w c ++ normals c.batches n rs

link_flag : (x : Bool) (a c : Reckoning) → Together a c → Link (flag x) a c
unfolding flag
link_flag true a c i = i
link_flag false a c i = i

owes_flag : (x : Bool) (c : Reckoning) → owes (flag x) c ≡ []
unfolding flag
owes_flag true c = refl
owes_flag false c = refl

pub kind_zeroed : (r : List ℕ) → length r ≡ 94 → kind_of (zeroed r) ≡ kind_of r
unfolding zeroed kind_of
kind_zeroed [] l = absurd (omega arith)
kind_zeroed (x ∷ r) l = refl

settled_batches : (n : ℕ) (c : Reckoning) → (settled n c).batches ≡ c.batches
unfolding settled counted
settled_batches zero c = refl
settled_batches (suc n) c = refl

module _ (rules : ReadingRules) (r : List ℕ) (rs : List (List ℕ)) (l : length r ≡ 94) (ih : Rebuilt rules rs) (s : State) (c : Reckoning) (n : ℕ) where
  -- a record of the tray is written under its number
  numbered_kind : (m : ℕ) → kind_of (numbered m r) ≡ kind_of r
  numbered_kind m = kind_numbered m r (omega arith)

  step5 : kind_of r ≡ BatchHeader → Beside s.counts c → Faultless rules (next s r) rs
      → with_controls c (numbering c.batches n (bodies (r ∷ rs))) ≡ owed c.batches c ++ normals c.batches n (r ∷ rs)
  unfolding with_controls numbering numbered_by batches_after individuals_after stripped marked normals normal owed_before settled_before next counted before_next
  step5 k i h =
      let m : ℕ = suc c.batches in
      let d : Reckoning = counted BatchHeader (settled c.batches c) (numbered m r) in
      let q : d.batches ≡ m = ap suc (settled_batches c.batches c) in
      let link : Together (next s r).counts d = rw k (record {
        place = ap (λ (x : ℕ). x + 1) i.place;
        batches = ap suc i.batches;
        batch = refl;
        closed = i.closed;
        some = ((settled c.batches c).batches, refl);
        header = ap (λ (x : ℕ). numbered x r) (sym q);
        long = l;
      }) in
      rw (k, kind_zeroed r l, k, numbered_zeroed m r l, numbered_kind m, k)
      (ap (λ (x : List (List ℕ)). owed c.batches c ++ numbered m r ∷ x)
      (subst (λ (x : ℕ). with_controls d (numbering x n (bodies rs)) ≡ normals x n rs) q (ih (next s r) d n Opened (ap (λ (x : Kind). before_next x r) k) link h)))

  step6 : kind_of r ≡ Individual → Together s.counts c → Faultless rules (next s r) rs
      → with_controls c (numbering c.batches n (bodies (r ∷ rs))) ≡ normals c.batches n (r ∷ rs)
  unfolding with_controls numbering numbered_by batches_after individuals_after stripped marked normals normal owed_before settled_before next counted before_next
  step6 k i h =
      let d : Reckoning = counted Individual c (numbered (suc n) r) in
      let x : Bool = is (field r 79 79) "1" in
      let link : Together (next s r).counts d = rw k (record {
        place = ap (λ (x : ℕ). x + 1) i.place;
        batches = i.batches;
        batch = ap (λ (t : Tally). with_individual t r) i.batch ∙ sym (with_individual_numbered c.batch (suc n) r l);
        closed = i.closed;
        some = i.some;
        header = i.header;
        long = i.long;
      }) in
      rw (k, kind_zeroed r l, k, numbered_zeroed (suc n) r l, numbered_kind (suc n), k)
      (ap (λ (y : List (List ℕ)). numbered (suc n) r ∷ y)
      (ih (next s r) d (suc n) (flag x) (ap (λ (y : Kind). before_next y r) k) (link_flag x (next s r).counts d link) h ∙ ap (λ (o : List (List ℕ)). o ++ normals c.batches (suc n) rs) (owes_flag x d)))

  step7 : kind_of r ≡ Additional → Together s.counts c → Faultless rules (next s r) rs
      → with_controls c (numbering c.batches n (bodies (r ∷ rs))) ≡ normals c.batches n (r ∷ rs)
  unfolding with_controls numbering numbered_by batches_after individuals_after stripped marked normals normal owed_before settled_before next counted before_next
  step7 k i h =
      let d : Reckoning = counted Additional c (numbered n r) in
      let link : Together (next s r).counts d = rw k (record {
        place = ap (λ (x : ℕ). x + 1) i.place;
        batches = i.batches;
        batch = ap with_additional i.batch;
        closed = i.closed;
        some = i.some;
        header = i.header;
        long = i.long;
      }) in
      rw (k, kind_zeroed r l, k, numbered_zeroed n r l, numbered_kind n, k)
      (ap (λ (y : List (List ℕ)). numbered n r ∷ y) (ih (next s r) d n Inside (ap (λ (y : Kind). before_next y r) k) link h))

  step8 : kind_of r ≡ BatchControl → Together s.counts c → fields BatchControl rules s r ≡ fine → Faultless rules (next s r) rs
      → with_controls c (numbering c.batches n (bodies (r ∷ rs))) ≡ normals c.batches n (r ∷ rs)
  unfolding stripped marked normals batches_after individuals_after next counted before_next fields owed settled
  step8 k i f h =
      let m : ℕ = i.some.0 in
      let e : c.batches ≡ suc m = i.some.1 in
      let link : Beside (next s r).counts c = rw (k, e) (record {
        place = ap (λ (x : ℕ). x + 1) i.place;
        batches = i.batches ∙ e;
        closed = ap₂ plus i.closed i.batch;
      }) in
      let own : owed c.batches c ≡ normal BatchControl c.batches n r ∷ [] =
      ap (λ (m : ℕ). owed m c) e
      ∙ ap (λ (x : List ℕ). x ∷ []) (ap₂ batch_control_of i.header (sym i.batch) ∙ control_normal r l c.batches n s.counts.header s.counts.batch i.long k (control_read s.counts.header s.counts.batch r f)) in
      rw k (ih (next s r) c n Between (ap (λ (y : Kind). before_next y r) k) link h ∙ ap (λ (o : List (List ℕ)). o ++ normals c.batches n rs) own)

  step9 : kind_of r ≡ FileControl → Beside s.counts c → fields FileControl rules s r ≡ fine → rs ≡ []
      → with_controls c (numbering c.batches n (bodies (r ∷ rs))) ≡ owed c.batches c ++ normals c.batches n (r ∷ rs)
  unfolding with_controls numbering stripped marked normals ending fields
  step9 k i f e =
      rw (k, e) (ap (λ (x : List ℕ). owed c.batches c ++ x ∷ [])
      (ap₂ (λ (x : ℕ) (t : Tally). file_control_of (x + 1) (settled c.batches c).batches t) (sym i.place) (sym i.closed)
      ∙ ap (λ (x : ℕ). file_control_of (s.counts.place + 1) x s.counts.closed) (sym i.batches)
      ∙ total_normal r l c.batches n (s.counts.place + 1) s.counts.batches s.counts.closed k (total_read (s.counts.place + 1) s.counts.batches s.counts.closed r f)))

pub rebuilt : (rules : ReadingRules) (rs : List (List ℕ)) → Sized 94 rs → Rebuilt rules rs
unfolding next before_next
rebuilt rules [] z s c n w e link h = absurd (subst (λ (x : Before). Link x s.counts c) (sym e ∙ h) link)
rebuilt rules (r ∷ rs) z s c n w e link h =
    let j = judged_facts rules s r h.0 in
    let o : Follows w (kind_of r) = subst (λ (x : Before). Follows x (kind_of r)) e j.order in
    go w (kind_of r) o refl link j.fields (rebuilt rules rs z.1)
  where
    go : (w : Before) (k : Kind) → Follows w k → kind_of r ≡ k → Link w s.counts c → fields k rules s r ≡ fine → Rebuilt rules rs
        → with_controls c (numbering c.batches n (bodies (r ∷ rs))) ≡ owes w c ++ normals c.batches n (r ∷ rs)
    go w k file_begins q i f ih = absurd i
    go w k batch_opens q i f ih = step5 rules r rs z.0 ih s c n q i h.1
    go w k first_individual q i f ih = step6 rules r rs z.0 ih s c n q i h.1
    go w k next_individual q i f ih = step6 rules r rs z.0 ih s c n q i h.1
    go w k its_additional q i f ih = step7 rules r rs z.0 ih s c n q i h.1
    go w k batch_closes q i f ih = step8 rules r rs z.0 ih s c n q i f h.1
    go w k file_ends q i f ih = step9 rules r rs z.0 ih s c n q i f (after_last rules (next s r) rs (ap (λ (x : Kind). before_next x r) q) h.1)
