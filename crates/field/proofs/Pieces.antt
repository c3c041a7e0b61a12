-- One of the pieces that a text is cut into.
use Rattle.std.proofs.Common.{◌≡◌, ℕ, zero, suc, ◌+◌, ◌*◌, ◌<◌, ◌≤◌, List, [], ◌∷◌, length, take, drop, get_or, length-drop, refl, sym, ap, ◌∙◌, arith}
use Rattle.std.specs.Simd.{first_chunks}
use lib.Seq.{drop-drop, length-take-le}

pub piece_at : (n k : ℕ) (xs : List ℕ) (i : ℕ) → i < k → get_or (first_chunks n k xs) i [] ≡ take n (drop (i * n) xs)
piece_at n zero xs i h = absurd (omega arith)
piece_at n (suc k) xs zero h = let e : 0 ≡ 0 * n = omega arith in ap (λ (m : ℕ). take n (drop m xs)) e
piece_at n (suc k) xs (suc i) h =
    piece_at n k (drop n xs) i (omega arith) ∙ ap (take n) (drop-drop (i * n) n xs ∙ ap (λ (m : ℕ). drop m xs) (omega arith))

-- of that length
pub piece_long : (n k : ℕ) (xs : List ℕ) (i : ℕ) → i < k → i * n + n ≤ length xs → length (get_or (first_chunks n k xs) i []) ≡ n
piece_long n k xs i h l = rw (piece_at n k xs i h) (length-take-le n (drop (i * n) xs) (simp length-drop (omega arith)))
