-- Signed numbers that fit 64 bits, their signs and their opposites.
use Prim.Native.Nat.{◌*◌, ◌^◌, ◌≤◌}
use mathlib.Core.Path.{◌≡◌}
use native.Mathlib.Omega.{arith}
use lib.IntN.{ℤ, pos, negsuc, nat_abs}
use lib.Signed.{mag}
use mir.Syntax.{w64}
use mir.Facts.{to_z-of_z}
use mir.Val.{SFits, to_z, of_z}

mag_le : (n : ℤ) → mag n ≤ nat_abs n
mag_le (pos n) = omega arith
mag_le (negsuc n) = omega arith

pub fits : (n : ℤ) → nat_abs n ≤ 4 * 10 ^ 18 → SFits w64 n
fits n h = record { sfits = omega (arith, mag_le n) }

-- one that went by its bits
pub there : (n : ℤ) → nat_abs n ≤ 4 * 10 ^ 18 → to_z w64 (of_z w64 n) ≡ n
there n h = to_z-of_z {w = w64} (fits n h)
