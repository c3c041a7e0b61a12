-- What a reading says, and the number of records, fix the answer.
use Prim.Native.Nat.{ℕ}
use mathlib.Core.Path.{◌≡◌, sym, ap, ap₂, ◌∙◌}
use native.Mathlib.Omega.{arith}
use Rattle.std.proofs.Common.{Result, Ok, Err}
use Rattle.paper.specs.declared.answer.Fault.{Fault}
use Rattle.paper.specs.declared.answer.Refusal.{Refusal}
use Rattle.paper.specs.Answers.{refusal, number_of, said}
use Rattle.paper.proofs.Numbers.{own_number}
use Rattle.reading.specs.Said.{Carries}

pub once : (n : ℕ) (a b : Result ℕ Refusal) → said a ≡ said b → Carries n a → Carries n b → a ≡ b
unfolding Carries
once n (Ok k) (Ok l) h p q = ap Ok (p ∙ sym q)
once n (Ok k) (Err r) h p q = let z : ◌≡◌ {A = ℕ} 0 1 = cc in absurd (omega arith)
once n (Err r) (Ok k) h p q = let z : ◌≡◌ {A = ℕ} 0 1 = cc in absurd (omega arith)
once n (Err r) (Err s) h p q =
    let e : number_of r.fault ≡ number_of s.fault = cc in
    let w : r.place ≡ s.place = cc in
    ap₂ (λ (f : Fault) (m : ℕ). refusal {A = ℕ} f m) (own_number r.fault s.fault e) w
