-- What the numbers of individual records come to: all different in an accepted file, and as before where they ascend through the file.
use Prim.Native.Nat.{ℕ, ◌≤◌, ◌<◌}
use native.Mathlib.Omega.{arith}
use mathlib.Core.Bool.{Bool, true, false, not, ◌&&◌, ◌||◌, cond}
use mathlib.Core.List.{List, [], ◌∷◌}
use mathlib.Core.Logic.{◌↔◌}
use mathlib.Core.Path.{◌≡◌, refl, sym, ap, ◌∙◌}
use lib.Dec.{T, eqb, ltb, ltb→lt, lt→ltb}
use borrow.Author.Tests.{not-true, eq-eqb, eqb-true}
use Rattle.paper.specs.declared.record.Kind.{Kind}
use Rattle.paper.specs.declared.record.Kind.TheVariants.{FileHeader, BatchHeader, Individual, Additional, BatchControl, FileControl, Other}
use Rattle.paper.specs.Answers.{accepted}
use Rattle.paper.specs.Checks.{fine}
use Rattle.paper.specs.Fields.{field, among, same, value_from, number}
use Rattle.paper.specs.Kinds.{opens_batch, is_individual, kind_of}
use Rattle.paper.specs.Records.{ReadingRules, number_in, counter_good, individual}
use Rattle.paper.specs.Reading.{State, start, last_individual, counter_next, seen_next, state_next, next, fields, judged, records_of, reading_by}
use Rattle.paper.specs.Demands.{Faultless}
use Rattle.paper.specs.Counters.{numbers_in, all_different, ascending, fields_above, judged_above, FaultlessAbove, AcceptsOtherwise, previous_number, FormerlyAccepts}
use Rattle.paper.proofs.Tests.{not_both, and_l, and_r, and_both, of_T}
use Rattle.paper.proofs.Exactly.{also_l, also_r, need_T, fine_also, need_met, accepted_by}

-- ---- an individual record after another number

pub exceeds : (rules : ReadingRules) (header : List ℕ) (p : ℕ) (r : List ℕ) → individual rules header p r ≡ fine → p < number_in r
unfolding individual counter_good
exceeds rules header p r h =
    ltb→lt p (number_in r) (and_r (same (field r 80 87) (field header 80 87)) (ltb p (number_in r)) (need_T _ 27 (also_r _ _ h)))

-- after one that it exceeds too
individual_above : (rules : ReadingRules) (header : List ℕ) (p q : ℕ) (r : List ℕ) → q < number_in r → individual rules header p r ≡ fine → individual rules header q r ≡ fine
unfolding individual counter_good
individual_above rules header p q r lt h =
    let s : Bool = same (field r 80 87) (field header 80 87) in
    let t : T (s && ltb p (number_in r)) = need_T _ 27 (also_r _ _ h) in
    fine_also _ _ (also_l _ _ h) (need_met _ 27 (and_both s (ltb q (number_in r)) (and_l s (ltb p (number_in r)) t) (lt→ltb q (number_in r) lt)))

-- ---- all different

-- each is new after those seen before it
abbrev New : List ℕ → List ℕ → Type 0
New seen [] = Unit {0}
New seen (n ∷ ns) = (among seen n ≡ false) × New (n ∷ seen) ns

-- what is seen does not come again
not_again : (seen ns : List ℕ) (m : ℕ) → among seen m ≡ true → New seen ns → among ns m ≡ false
unfolding among
not_again seen [] m h w = refl
not_again seen (n ∷ ns) m h w = go (eqb m n) refl (λ e. not_again (n ∷ seen) ns m (rw e h) w.1)
  where
    go : (b : Bool) → eqb m n ≡ b → (eqb m n ≡ false → among ns m ≡ false) → b || among ns m ≡ false
    go true e later = sym h ∙ ap (among seen) (eqb-true m n e) ∙ w.0
    go false e later = later e

new_different : (seen ns : List ℕ) → New seen ns → T (all_different ns)
unfolding all_different among
new_different seen [] w = tt
new_different seen (n ∷ ns) w =
    let once : among ns n ≡ false = not_again (n ∷ seen) ns n (rw (eq-eqb n n refl) refl) w.1 in
    and_both (not (among ns n)) (all_different ns) (rw once tt) (new_different (n ∷ seen) ns w.1)

different_new : (seen ns : List ℕ) → ((m : ℕ) → among seen m ≡ true → among ns m ≡ false) → T (all_different ns) → New seen ns
unfolding all_different among
different_new seen [] apart t = tt
different_new seen (n ∷ ns) apart t =
    let later : among ns n ≡ false = not-true _ (of_T _ (and_l (not (among ns n)) (all_different ns) t)) in
    (here (among seen n) refl, different_new (n ∷ seen) ns (λ m. further m (eqb m n) refl later) (and_r (not (among ns n)) (all_different ns) t))
  where
    here : (b : Bool) → among seen n ≡ b → b ≡ false
    here true e = sym (rw (eq-eqb n n refl) refl) ∙ apart n e
    here false e = refl

    further : (m : ℕ) (b : Bool) → eqb m n ≡ b → among ns n ≡ false → b || among seen m ≡ true → among ns m ≡ false
    further m true e later h = ap (among ns) (eqb-true m n e) ∙ later
    further m false e later h = sym (rw e refl) ∙ apart m h

-- ---- exactly what is asked of the numbers

-- at a record of a kind, with what is asked of those behind it
exact_step : (k : Kind) (rules : ReadingRules) (s : State) (r : List ℕ) (rs : List (List ℕ)) (ns : List ℕ)
    → ((fields k rules s r ≡ fine) × T (ascending (counter_next k s.counter r) rs) × New (seen_next k s.seen r) ns)
    ↔ ((fields_above (λ s. 0) k rules s r ≡ fine) × T (cond (opens_batch k) (ascending 0 rs) (cond (is_individual k) (ltb s.counter (number_in r) && ascending (number_in r) rs) (ascending s.counter rs))) × New s.seen (cond (is_individual k) (number_in r ∷ ns) ns))
unfolding fields fields_above
exact_step FileHeader rules s r rs ns = (λ h. h, λ h. h)
exact_step BatchHeader rules s r rs ns = (λ h. h, λ h. h)
exact_step Individual rules s r rs ns = (there, back)
  where
    least : ℕ
    least = s.counter

    there : ((fields Individual rules s r ≡ fine) × T (ascending (number_in r) rs) × New (number_in r ∷ s.seen) ns)
        → ((individual rules s.counts.header 0 r ≡ fine) × T (ltb least (number_in r) && ascending (number_in r) rs) × New s.seen (number_in r ∷ ns))
    there h =
        let f = also_l _ _ h.0 in
        let lt = exceeds rules s.counts.header least r f in (
          individual_above rules s.counts.header least 0 r (omega arith) f,
          and_both (ltb least (number_in r)) (ascending (number_in r) rs) (lt→ltb least (number_in r) lt) h.1,
          (not-true _ (of_T _ (need_T _ 27 (also_r _ _ h.0))), h.2),
        )

    back : ((individual rules s.counts.header 0 r ≡ fine) × T (ltb least (number_in r) && ascending (number_in r) rs) × New s.seen (number_in r ∷ ns))
        → ((fields Individual rules s r ≡ fine) × T (ascending (number_in r) rs) × New (number_in r ∷ s.seen) ns)
    back h =
        let lt = ltb→lt least (number_in r) (and_l (ltb least (number_in r)) (ascending (number_in r) rs) h.1) in (
          fine_also _ _ (individual_above rules s.counts.header 0 least r lt h.0) (need_met _ 27 (rw h.2.0 tt)),
          and_r (ltb least (number_in r)) (ascending (number_in r) rs) h.1,
          h.2.1,
        )
exact_step Additional rules s r rs ns = (λ h. h, λ h. h)
exact_step BatchControl rules s r rs ns = (λ h. h, λ h. h)
exact_step FileControl rules s r rs ns = (λ h. h, λ h. h)
exact_step Other rules s r rs ns = (λ h. h, λ h. h)

exact_from : (rules : ReadingRules) (rs : List (List ℕ)) (s : State)
    → Faultless rules s rs ↔ (FaultlessAbove (λ s. 0) rules s rs × T (ascending s.counter rs) × New s.seen (numbers_in rs))
unfolding ascending numbers_in next judged judged_above
exact_from rules [] s = (λ h. (h, tt, tt), λ h. h.0)
exact_from rules (r ∷ rs) s =
    let step = exact_step (kind_of r) rules s r rs (numbers_in rs) in
    let later = exact_from rules rs (next s r) in (
      (λ h. let l = later.0 h.1 in let f = step.0 (also_r _ _ h.0, l.1, l.2) in ((fine_also _ _ (also_l _ _ h.0) f.0, l.0), f.1, f.2)),
      (λ h. let f = step.1 (also_r _ _ h.0.0, h.1, h.2) in (fine_also _ _ (also_l _ _ h.0.0) f.0, later.1 (h.0.1, f.1, f.2))),
    )

-- whoever reads: where all else is good, in each batch they ascend from above 0, and all are different
pub numbered_exactly : (rules : ReadingRules) (file : List ℕ)
    → (reading_by rules file ≡ accepted) ↔ (AcceptsOtherwise rules file × T (ascending 0 (records_of file)) × T (all_different (numbers_in (records_of file))))
unfolding start among
numbered_exactly rules file =
    let a = accepted_by rules file in
    let e = exact_from rules (records_of file) start in
    let ns = numbers_in (records_of file) in (
      (λ h. let w = a.0 h in let f = e.0 w.1 in ((w.0, f.0), f.1, new_different [] ns f.2)),
      (λ h. a.1 (h.0.0, e.1 (h.0.1, h.1, different_new [] ns (λ m no. absurd (not_both no refl)) h.2))),
    )

pub accepted_different : (rules : ReadingRules) (file : List ℕ) → reading_by rules file ≡ accepted → T (all_different (numbers_in (records_of file)))
accepted_different rules file h = ((numbered_exactly rules file).0 h).2

-- ---- what the rule before request 3 accepted

-- numbers have ascended through the file
record Ascended (s : State) : Type 0 where
  counter : s.counter ≤ previous_number s
  seen : (n : ℕ) → among s.seen n ≡ true → n ≤ previous_number s

above_all : (seen : List ℕ) (p n : ℕ) → ((m : ℕ) → among seen m ≡ true → m ≤ p) → p < n → T (not (among seen n))
above_all seen p n below lt = go (among seen n) (below n)
  where
    go : (b : Bool) → (b ≡ true → n ≤ p) → T (not b)
    go true h = absurd (omega (arith, h refl))
    go false h = tt

still_above : (seen : List ℕ) (p n : ℕ) → ((m : ℕ) → among seen m ≡ true → m ≤ p) → p < n → (m : ℕ) → among (n ∷ seen) m ≡ true → m ≤ n
unfolding among
still_above seen p n below lt m = go (eqb m n) refl
  where
    go : (b : Bool) → eqb m n ≡ b → b || among seen m ≡ true → m ≤ n
    go true e h = omega (arith, eqb-true m n e)
    go false e h = omega (arith, below m h)

former_step : (k : Kind) (rules : ReadingRules) (s : State) (r : List ℕ) → Ascended s → fields_above previous_number k rules s r ≡ fine
    → (fields k rules s r ≡ fine) × Ascended (state_next k s r)
unfolding fields_above fields last_individual
former_step FileHeader rules s r a f = (f, record { counter = a.counter; seen = a.seen })
former_step BatchHeader rules s r a f = (f, record { counter = omega arith; seen = a.seen })
former_step Individual rules s r a f =
    let p = previous_number s in
    let lt = exceeds rules s.counts.header p r f in (
      fine_also _ _ (individual_above rules s.counts.header p s.counter r (omega (arith, a.counter)) f) (need_met _ 27 (above_all s.seen p (number_in r) a.seen lt)),
      record { counter = omega arith; seen = still_above s.seen p (number_in r) a.seen lt },
    )
former_step Additional rules s r a f = (f, record { counter = a.counter; seen = a.seen })
former_step BatchControl rules s r a f = (f, record { counter = a.counter; seen = a.seen })
former_step FileControl rules s r a f = (f, record { counter = a.counter; seen = a.seen })
former_step Other rules s r a f = (f, record { counter = a.counter; seen = a.seen })

former_reads : (rules : ReadingRules) (rs : List (List ℕ)) (s : State) → Ascended s → FaultlessAbove previous_number rules s rs → Faultless rules s rs
unfolding judged_above judged next
former_reads rules [] s a h = h
former_reads rules (r ∷ rs) s a h =
    let x = former_step (kind_of r) rules s r a (also_r _ _ h.0) in
    (fine_also _ _ (also_l _ _ h.0) x.0, former_reads rules rs (next s r) x.1 h.1)

pub formerly_accepted : (rules : ReadingRules) (file : List ℕ) → FormerlyAccepts rules file → reading_by rules file ≡ accepted
unfolding start among number value_from
formerly_accepted rules file h =
    (accepted_by rules file).1 (h.0, former_reads rules (records_of file) start (record { counter = omega arith; seen = λ n e. absurd (not_both e refl) }) h.1)
