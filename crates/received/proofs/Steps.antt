-- Reading what is written, a step at a time: the reader has counted what the writer has.
use Prim.Native.Nat.{ℕ, zero, suc, ◌+◌, ◌≤◌, ◌<◌}
use native.Mathlib.Omega.{arith}
use mathlib.Core.List.{List, [], ◌∷◌, ◌++◌}
use mathlib.Core.Path.{◌≡◌, refl, sym, ap, ◌∙◌, subst}
use lib.Dec.{T}
use lib.ListN.{length, length-append}
use Rattle.paper.specs.declared.record.Before.TheVariants.{Between, Inside}
use Rattle.paper.specs.declared.record.Kind.{Kind}
use Rattle.paper.specs.declared.record.Kind.TheVariants.{BatchHeader, BatchControl, FileControl}
use Rattle.paper.specs.Checks.{fine}
use Rattle.paper.specs.Fields.{every, good}
use Rattle.paper.specs.Kinds.{kind_of, allowed}
use Rattle.paper.specs.Records.{ReadingRules, batch_header}
use Rattle.paper.specs.Controls.{blocks, file_control}
use Rattle.paper.specs.Reading.{Reckoning, counted, State, before_next, state_next, next, fields, judged}
use Rattle.paper.specs.Writing.{batch_control_of, file_control_of, owed, settled, owed_before, settled_before, ending, with_controls}
use Rattle.paper.specs.Demands.{Faultless}
use Rattle.paper.proofs.Exactly.{fine_also, need_met}
use Rattle.received.proofs.Written.{Fits, batch_control_kind, batch_control_fine, batch_control_good, file_control_kind, file_control_fine, file_control_good}

pub next_after : (t : State) (r : List ℕ) (k : Kind) → kind_of r ≡ k → next t r ≡ state_next k t r
unfolding next
next_after t r k q = rw q

-- no batch is open, or one whose control can be written
abbrev pub Closable : ℕ → State → Type 0
Closable zero t = t.before ≡ Between
Closable (suc n) t = (t.before ≡ Inside) × Fits 6 t.counts.batch × (length t.counts.header ≡ 94) × T (every good t.counts.header)

-- ---- the writer's counts with the control that is owed

-- what a control does not change
pub settled_kept : {A : Type 0} (of : Reckoning → A) → ((c : Reckoning) → of (counted BatchControl c []) ≡ of c) → (n : ℕ) (c : Reckoning) → of (settled n c) ≡ of c
unfolding settled
settled_kept of same zero c = refl
settled_kept of same (suc n) c = same c

settled_place : (n : ℕ) (c : Reckoning) → (settled n c).place ≡ c.place + length (owed n c)
unfolding settled counted owed
settled_place zero c = omega arith
settled_place (suc n) c = refl

module _ (rules : ReadingRules) where
  -- what is written from here on reads without fault, in a file of at most 10,000 records
  abbrev pub Runs : State → List (List ℕ) → Type 0
  Runs t rs = t.counts.batches ≤ t.counts.place → t.counts.place + length (with_controls t.counts rs) ≤ 10000 → Faultless rules t (with_controls t.counts rs)

  pub judged_fine : (t : State) (r : List ℕ) (k : Kind) → kind_of r ≡ k → T (every good r) → allowed t.before k ≡ fine → fields k rules t r ≡ fine
      → judged rules t r ≡ fine
  unfolding judged
  judged_fine t r k q g a f = rw q (fine_also _ _ (fine_also _ _ (need_met (every good r) 17 g) a) f)

  -- a record before which no control is owed
  pub step : (t : State) (r : List ℕ) (rs : List (List ℕ)) (k : Kind) → kind_of r ≡ k → owed_before k t.counts ≡ [] → settled_before k t.counts ≡ t.counts
      → (counted k t.counts r).batches ≡ t.counts.batches → (counted k t.counts r).place ≡ t.counts.place + 1
      → judged rules t r ≡ fine → Runs (state_next k t r) rs → Runs t (r ∷ rs)
  unfolding with_controls
  step t r rs k q o s b p j later few room =
      let left = rw (q, o, s) at room in
      rw (q, o, s, next_after t r k q) (j, later (omega arith) (omega arith))

  -- ---- the control that is owed

  settle : (t : State) (n : ℕ) → Closable n t → (rs : List (List ℕ)) → ((u : State) → u.before ≡ Between → u.seen ≡ t.seen → u.counts ≡ settled n t.counts → Faultless rules u rs)
      → Faultless rules t (owed n t.counts ++ rs)
  unfolding owed settled allowed before_next counted fields
  settle t zero c rs later = later t c refl refl
  settle t (suc n) c rs later =
      let h : List ℕ = t.counts.header in
      let r : List ℕ = batch_control_of h t.counts.batch in
      let kind = batch_control_kind h t.counts.batch c.2 in (
        judged_fine t r BatchControl kind (batch_control_good h t.counts.batch c.2 c.3) (rw c.0 refl) (batch_control_fine h t.counts.batch c.2 c.1),
        rw (next_after t r BatchControl kind) (later (state_next BatchControl t r) refl refl refl),
      )

  -- ---- a batch header, after the control of the batch before it

  pub head : (t : State) (r : List ℕ) (rs : List (List ℕ)) → kind_of r ≡ BatchHeader → Closable t.counts.batches t → T (every good r)
      → (t.counts.batches < 10000 → batch_header rules t.counts.batches r ≡ fine)
      → ((u : State) → u.seen ≡ t.seen → u.counts ≡ settled t.counts.batches t.counts → Runs (state_next BatchHeader u r) rs) → Runs t (r ∷ rs)
  unfolding with_controls owed_before settled_before counted allowed fields
  head t r rs q c g f later few room =
      let n : ℕ = t.counts.batches in
      let d : Reckoning = settled n t.counts in
      let rest : Reckoning → List (List ℕ) = λ x. with_controls (counted BatchHeader x r) rs in
      let left = length-append (owed n t.counts) (r ∷ rest d) in
      let most = rw q at room in
      rw q
      (settle t n c (r ∷ rest d) (λ u w o e.
      let b : u.counts.batches ≡ n = ap (λ (x : Reckoning). x.batches) e ∙ settled_kept (λ x. x.batches) (λ x. refl) n t.counts in
      let p : u.counts.place ≡ t.counts.place + length (owed n t.counts) = ap (λ (x : Reckoning). x.place) e ∙ settled_place n t.counts in
      let same : length (rest u.counts) ≡ length (rest d) = ap (λ (x : Reckoning). length (rest x)) e in
      let ran : Faultless rules (state_next BatchHeader u r) (rest d) =
      subst (λ (x : Reckoning). Faultless rules (state_next BatchHeader u r) (rest x)) e (later u o e (omega arith) (omega arith)) in
      (judged_fine u r BatchHeader q g (rw w refl) (rw b (f (omega arith))), rw (next_after u r BatchHeader q) ran)
      ))

  -- ---- the end

  pub end : (t : State) → Closable t.counts.batches t → Fits 8 (settled t.counts.batches t.counts).closed → Runs t []
  unfolding with_controls ending allowed fields blocks before_next counted
  end t c f few room =
      let n : ℕ = t.counts.batches in
      let d : Reckoning = settled n t.counts in
      let r : List ℕ = file_control_of (d.place + 1) d.batches d.closed in
      let kind = file_control_kind (d.place + 1) d.batches d.closed in
      let left = length-append (owed n t.counts) (r ∷ []) in
      let b = settled_kept (λ x. x.batches) (λ x. refl) n t.counts in
      let p = settled_place n t.counts in
      let right : file_control (d.place + 1) d.batches d.closed r ≡ fine = file_control_fine (d.place + 1) d.batches d.closed (omega arith) (omega arith) f in
      settle t n c (r ∷ []) (λ u w o e.
      let mine = subst (λ (x : Reckoning). file_control (x.place + 1) x.batches x.closed r ≡ fine) (sym e) right in
      (judged_fine u r FileControl kind (file_control_good (d.place + 1) d.batches d.closed) (rw w refl) mine, ap (λ (x : State). x.before) (next_after u r FileControl kind))
      )
