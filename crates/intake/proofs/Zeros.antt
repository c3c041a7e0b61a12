-- A buffer of zeros, of any length.
use Prim.Native.Nat.{ℕ}
use mathlib.Core.Path.{◌≡◌, refl, sym}
use lib.ListN.{length, replicate, length-replicate}
use Rattle.intake.specs.Zeros.{zero_bytes}

pub made : (n : ℕ) → (n ≡ length (replicate {A = ℕ} n 0)) × (replicate n 0 ≡ zero_bytes n)
unfolding zero_bytes
made n = (sym (length-replicate {0} {A = ℕ} n 0), refl)
