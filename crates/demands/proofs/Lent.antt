-- What else a call says of the buffer that it was lent, whatever job it does: one law for extracting, building and stripping.
use Prim.Native.Nat.{ℕ, ◌≤◌}
use native.Mathlib.Omega.{arith}
use mathlib.Core.List.{List}
use mathlib.Core.Path.{◌≡◌, ap, ◌∙◌, subst}
use lib.ListN.{length, drop, length-append}
use Rattle.std.specs.Prelude.{Ok, Err}
use Rattle.paper.specs.declared.answer.Fault.{Fault}
use Rattle.paper.specs.Answers.{Output, Said, accepted, refused, refusal}
use Rattle.paper.specs.Buffers.{Outcome, told, over, written}
use Rattle.paper.proofs.Refusals.{refused_not}
use Rattle.desk.proofs.Lent.{asked, wrote, held}

-- a lent buffer comes back as long as it was, where the job's does
pub same_length : (o : Outcome) (r : Output) (after : List ℕ) → told r after ≡ o → {n : ℕ} → length o.buffer ≡ n → length after ≡ n
same_length o (Ok m) after h l = ap (λ (x : Outcome). length x.buffer) h ∙ l
same_length o (Err r) after h l = ap (λ (x : Outcome). length x.buffer) h ∙ l

-- a job that writes a new text where its answer is acceptance
module _ (a : Said) (new before : List ℕ) (r : Output) (after : List ℕ) (h : told r after ≡ written a new before) where
  pub numbers : a ≡ accepted → r ≡ Ok (length new)
  numbers e = (wrote a new before r after h e).0

  -- the number of bytes is within the buffer
  pub inside : {n : ℕ} → r ≡ Ok n → n ≤ length after
  unfolding over
  inside p = omega (arith, (held a new before r after h p).1, ap length (wrote a new before r after h (asked a new before r after h p)).1 ∙ length-append new (drop (length new) before))

  -- every refusal leaves the buffer
  pub stays : {fault : Fault} {place : ℕ} → r ≡ refusal fault place → after ≡ before
  unfolding written
  stays {fault} {place} p = go a (subst (λ (x : Output). told x after ≡ written a new before) p h)
    where
      go : (b : Said) → told (refusal fault place) after ≡ written b new before → after ≡ before
      go accepted k = absurd (refused_not (ap (λ (o : Outcome). o.answer) k))
      go (refused n q) k = ap (λ (o : Outcome). o.buffer) k
