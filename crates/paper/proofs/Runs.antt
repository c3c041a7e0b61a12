-- What holds at each number of a short run of them.
use Prim.Native.Nat.{ℕ, zero, suc, ◌+◌, ◌≤◌, ◌<◌}
use mathlib.Core.Logic.{⊎_elim}
use mathlib.Core.Path.{subst}
use native.Mathlib.Nat.{eq-or-lt_of_le}
use native.Mathlib.Omega.{arith}

-- n numbers from the lowest on
abbrev pub Run : (ℕ → Type 0) → ℕ → ℕ → Type 0
Run P low zero = Unit {0}
Run P low (suc n) = P low × Run P (suc low) n

pub in_run : (P : ℕ → Type 0) (low n : ℕ) → Run P low n → (x : ℕ) → low ≤ x → x < low + n → P x
in_run P low zero t x h k = absurd (omega arith)
in_run P low (suc n) t x h k =
    ⊎_elim (λ e. subst P e t.0) (λ l. in_run P (suc low) n t.1 x l (omega arith)) (eq-or-lt_of_le h)

pub run_of : (P : ℕ → Type 0) (low n : ℕ) → ((i : ℕ) → low ≤ i → i < low + n → P i) → Run P low n
run_of P low zero h = tt
run_of P low (suc n) h = (h low (omega arith) (omega arith), run_of P (suc low) n (λ i l k. h i (omega arith) (omega arith)))
