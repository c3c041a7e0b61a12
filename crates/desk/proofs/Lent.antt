-- What a call says of the buffer that it was lent, whatever job it does: one law for extracting, building and stripping.
use Prim.Native.Nat.{ℕ}
use mathlib.Core.List.{List}
use mathlib.Core.Path.{◌≡◌, sym, ap, ◌∙◌, subst}
use lib.ListN.{length, take, drop}
use lib.Seq.{take_at}
use Rattle.std.specs.Prelude.{Ok}
use Rattle.paper.specs.Answers.{Output, Said, accepted, refused}
use Rattle.paper.specs.Buffers.{Outcome, told, over, written}
use Rattle.paper.proofs.Lent.{over_rest}
use Rattle.paper.proofs.Numbers.{told_once}
use Rattle.desk.specs.Lent.{handed}

-- a job that writes a new text where its answer is acceptance
module _ (a : Said) (new before : List ℕ) (r : Output) (after : List ℕ) (h : told r after ≡ written a new before) where
  pub answers : (told r after).answer ≡ a
  unfolding written
  answers = go a h
    where
      go : (b : Said) → told r after ≡ written b new before → (told r after).answer ≡ b
      go accepted k = ap (λ (o : Outcome). o.answer) k
      go (refused n place) k = ap (λ (o : Outcome). o.answer) k

  -- accepted exactly where the answer is acceptance, with the text's length
  pub asked : {n : ℕ} → r ≡ Ok n → a ≡ accepted
  asked p = sym answers ∙ ap (λ (x : Output). (told x after).answer) p

  pub wrote : a ≡ accepted → (r ≡ Ok (length new)) × (after ≡ over new before)
  unfolding written
  wrote e = told_once r (Ok (length new)) after (over new before) (h ∙ ap (λ (b : Said). written b new before) e)

  -- then the caller has the text, and the rest of the buffer stays
  pub held : {n : ℕ} → r ≡ Ok n → (handed r after ≡ new) × (n ≡ length new) × (drop n after ≡ drop n before)
  unfolding handed over
  held {n} p =
      let w = wrote (asked p) in
      let l : n ≡ length new = ap (λ (x : Output). (told x after).size) (sym p ∙ w.0) in (
        ap (λ (x : Output). handed x after) p ∙ ap (take n) w.1 ∙ take_at new (drop (length new) before) n (sym l),
        l,
        ap (drop n) w.1 ∙ subst (λ (m : ℕ). drop m (over new before) ≡ drop m before) (sym l) (over_rest new before),
      )
