-- What is known of a file's numbers, at a record and one record further.
use Prim.Native.Nat.{ℕ, ◌+◌, ◌≤◌, ◌<◌}
use mathlib.Core.Bool.{Bool, true, false, ◌||◌, cond}
use mathlib.Core.List.{List}
use mathlib.Core.Logic.{◌⊎◌, inl, inr}
use mathlib.Core.Path.{◌≡◌, refl, ◌∙◌}
use native.Mathlib.Omega.{arith}
use borrow.Author.Tests.{eqb-true, ltb-true, ltb-false}
use lib.Dec.{eqb, ltb}
use Rattle.paper.specs.declared.record.Kind.{Kind}
use Rattle.paper.specs.declared.record.Kind.TheVariants.{FileHeader, BatchHeader, Individual, Additional, BatchControl, FileControl, Other}
use Rattle.paper.specs.Fields.{among}
use Rattle.paper.specs.Kinds.{is_individual, kind_of}
use Rattle.paper.specs.Records.{number_in}
use Rattle.paper.specs.Reading.{record_at, counter_next, seen_next}
use Rattle.paper.proofs.Tests.{not_both}
use Rattle.repeats.specs.Numbers.{numbers_before, repeated, FreshTo, Looked}
use Rattle.repeats.proofs.Further.{one_more, fresh_further, nothing_known, repeated_at}
use Rattle.state.specs.declared.State.{State}
use Rattle.state.specs.States.{KnownIn, higher, FreshBy, KnowsIf, Knows, Ready}

-- before the first
pub none_known : (file : List ℕ) (st : State) → st.fresh ≡ 0 → KnownIn file 0 st
unfolding numbers_before among
none_known file st e = record { below = λ n h. absurd (not_both h refl); fresh = rw e (nothing_known file) }

-- ---- none is larger than both, the largest of the batches before and the last

larger_of : (highest counter n : ℕ) → (n ≤ highest) ⊎ (n ≤ counter) → (b : Bool) → ltb highest counter ≡ b → n ≤ cond b counter highest
larger_of highest counter n (inl h) true e = omega (arith, ltb-true highest counter e)
larger_of highest counter n (inl h) false e = h
larger_of highest counter n (inr h) true e = h
larger_of highest counter n (inr h) false e = omega (arith, ltb-false highest counter e)

below_next : (kind : Kind) (seen : List ℕ) (highest counter : ℕ) (r : List ℕ) → (is_individual kind ≡ true → counter < number_in r)
    → ((n : ℕ) → among seen n ≡ true → (n ≤ highest) ⊎ (n ≤ counter))
    → (n : ℕ) → among (seen_next kind seen r) n ≡ true → (n ≤ higher kind highest counter) ⊎ (n ≤ counter_next kind counter r)
unfolding among
below_next FileHeader seen highest counter r up below n h = below n h
below_next BatchHeader seen highest counter r up below n h = inl (larger_of highest counter n (below n h) (ltb highest counter) refl)
below_next Individual seen highest counter r up below n h = go (eqb n (number_in r)) refl h
  where
    either : (n ≤ highest) ⊎ (n ≤ counter) → (n ≤ highest) ⊎ (n ≤ number_in r)
    either (inl x) = inl x
    either (inr x) = inr (omega (arith, up refl))

    go : (b : Bool) → eqb n (number_in r) ≡ b → b || among seen n ≡ true → (n ≤ highest) ⊎ (n ≤ number_in r)
    go true e h = inr (omega (arith, eqb-true n (number_in r) e))
    go false e h = either (below n h)
below_next Additional seen highest counter r up below n h = below n h
below_next BatchControl seen highest counter r up below n h = below n h
below_next FileControl seen highest counter r up below n h = below n h
below_next Other seen highest counter r up below n h = below n h

-- ---- one record further

module _ {kind : Kind} {file : List ℕ} {place : ℕ} {st : State} (ready : Ready kind file place st) where
  fresh_now : (i : Bool) {fresh : ℕ} → KnowsIf i file place st fresh → FreshTo file place fresh
  fresh_now true {fresh} by = go (ltb st.highest (number_in (record_at file place))) refl
    where
      go : (b : Bool) → ltb st.highest (number_in (record_at file place)) ≡ b → FreshTo file place fresh
      go true e = rw (by.above e) ready.known.fresh
      go false e = (by.looked e).now
  fresh_now false e = rw e ready.known.fresh

  pub known_next : {next : State} → (is_individual kind ≡ true → st.counter < number_in (record_at file place)) → next.counter ≡ counter_next kind st.counter (record_at file place)
      → next.highest ≡ higher kind st.highest st.counter → Knows kind file place st next.fresh → KnownIn file (place + 1) next
  known_next {next} up counter highest knows = record {
    below = λ n h.
        rw (counter, highest)
        (below_next kind (numbers_before file place) st.highest st.counter (record_at file place) up ready.known.below n (rw (one_more file place, ready.told) at h));
    fresh = fresh_further file place next.fresh (fresh_now (is_individual kind) knows);
  }

-- ---- at a record

-- below the number of a record that is above the last of its batch
pub below_own : {highest counter number n m : ℕ} → number ≡ m → counter < m → (n ≤ highest) ⊎ (n ≤ counter) → (n ≤ highest) ⊎ (n < number)
below_own e up (inl h) = inl h
below_own e up (inr h) = inr (omega arith)

module _ (file : List ℕ) (place number highest : ℕ) (is : is_individual (kind_of (record_at file place)) ≡ true) (own : number ≡ number_in (record_at file place))
    (below : (n : ℕ) → among (numbers_before file place) n ≡ true → (n ≤ highest) ⊎ (n < number)) where
  -- a number above all before it is new
  pub new_above : highest < number → repeated file place ≡ false
  new_above h = repeated_at file place is ∙ go (among (numbers_before file place) (number_in (record_at file place))) refl
    where
      neither : (number ≤ highest) ⊎ (number < number) → ⊥
      neither (inl x) = omega arith
      neither (inr x) = omega arith

      go : (b : Bool) → among (numbers_before file place) (number_in (record_at file place)) ≡ b → b ≡ false
      go true e = absurd (neither (below number (rw own e)))
      go false e = refl

module _ {file : List ℕ} {place number highest known : ℕ} where
  pub by_above : ltb highest number ≡ true → FreshBy file place number highest known known
  by_above e = record { above = λ _. refl; looked = λ f. absurd (not_both e f) }

  pub by_look : {fresh : ℕ} → ltb highest number ≡ false → Looked file place known fresh → FreshBy file place number highest known fresh
  by_look e x = record { above = λ t. absurd (not_both t e); looked = λ _. x }
