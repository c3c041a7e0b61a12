-- A record made of pieces of given widths: what stands at its positions, and what holds of all its bytes.
use Prim.Native.Nat.{ℕ, zero, suc, ◌+◌, ◌≤◌, ◌<◌}
use native.Mathlib.Omega.{arith}
use mathlib.Core.Bool.{Bool}
use mathlib.Core.List.{List, [], ◌∷◌, ◌++◌, map}
use mathlib.Core.Path.{◌≡◌, sym, ap, ◌∙◌, subst}
use lib.Dec.{T, leb, ltb, leb→le, le→leb, ltb→lt}
use lib.ListN.{length, get_or, take, drop, take-append-drop, length-drop, get_or-map}
use lib.Seq.{length-take-le, take-append-le, drop-append-le, drop-append-add, drop-drop, take_all}
use Rattle.paper.specs.Fields.{every}
use Rattle.paper.specs.Writing.{joined}
use Rattle.paper.proofs.Every.{every_both}

-- pieces of these widths
abbrev pub Wide : List ℕ → List (List ℕ) → Type 0
Wide ws ps = map length ps ≡ ws

-- how many bytes stand before the piece of an index
abbrev pub offset : List ℕ → ℕ → ℕ
offset [] i = 0
offset (w ∷ ws) zero = 0
offset (w ∷ ws) (suc i) = w + offset ws i

-- m bytes after the first a of a list that goes on
pub part_front : (a m : ℕ) (x y : List ℕ) → a + m ≤ length x → take m (drop a (x ++ y)) ≡ take m (drop a x)
part_front a m x y h =
    ap (take m) (drop-append-le a x y (omega arith)) ∙ take-append-le m (drop a x) y (rw length-drop (omega arith))

-- and of a part of a list
pub part_inner : (a m b n : ℕ) (r : List ℕ) → a + m ≤ n → b + n ≤ length r → take m (drop a (take n (drop b r))) ≡ take m (drop (b + a) r)
part_inner a m b n r h l =
    let e : length (take n (drop b r)) ≡ n = length-take-le n (drop b r) (rw length-drop (omega arith)) in
    sym (part_front a m (take n (drop b r)) (drop n (drop b r)) (omega arith))
    ∙ ap (λ (x : List ℕ). take m (drop a x)) (take-append-drop n (drop b r)) ∙ ap (take m) (drop-drop a b r)

-- m bytes after the first a of a piece
pub part_at : (ws : List ℕ) (ps : List (List ℕ)) → Wide ws ps → (i a m : ℕ) → T (ltb i (length ws)) → T (leb (a + m) (get_or ws i 0))
    → take m (drop (offset ws i + a) (joined ps)) ≡ take m (drop a (get_or ps i []))
unfolding joined
part_at ws ps wide i a m q h =
    subst (λ (ws : List ℕ). i < length ws → a + m ≤ get_or ws i 0 → take m (drop (offset ws i + a) (joined ps)) ≡ take m (drop a (get_or ps i []))) wide (go ps i a m)
    (ltb→lt i (length ws) q) (leb→le (a + m) (get_or ws i 0) h)
  where
    go : (ps : List (List ℕ)) (i a m : ℕ) → i < length (map length ps) → a + m ≤ get_or (map length ps) i 0
        → take m (drop (offset (map length ps) i + a) (joined ps)) ≡ take m (drop a (get_or ps i []))
    go [] i a m q h = absurd (omega arith)
    go (p ∷ ps) zero a m q h =
        let e : 0 + a ≡ a = omega arith in
        ap (λ (n : ℕ). take m (drop n (p ++ joined ps))) e ∙ part_front a m p (joined ps) h
    go (p ∷ ps) (suc i) a m q h =
        let b : ℕ = offset (map length ps) i in
        let e : length p + b + a ≡ length p + (b + a) = omega arith in
        ap (take m) (ap (λ (n : ℕ). drop n (p ++ joined ps)) e ∙ drop-append-add p (joined ps) (b + a)) ∙ go ps i a m (omega arith) h

-- the piece itself
pub piece_at : (ws : List ℕ) (ps : List (List ℕ)) → Wide ws ps → (i : ℕ) → T (ltb i (length ws))
    → take (get_or ws i 0) (drop (offset ws i) (joined ps)) ≡ get_or ps i []
piece_at ws ps wide i q =
    let w : ℕ = get_or ws i 0 in
    let e : offset ws i ≡ offset ws i + 0 = omega arith in
    let l : w ≡ length (get_or ps i []) = ap (λ (x : List ℕ). get_or x i 0) (sym wide) ∙ get_or-map length ps i [] in
    ap (λ (n : ℕ). take w (drop n (joined ps))) e ∙ part_at ws ps wide i 0 w q (le→leb (0 + w) w (omega arith)) ∙ take_all w (get_or ps i []) (omega arith)

-- a test that every byte of every piece passes
abbrev pub Passed : (ℕ → Bool) → List (List ℕ) → Type 0
Passed test [] = Unit {0}
Passed test (p ∷ ps) = T (every test p) × Passed test ps

pub every_joined : (test : ℕ → Bool) (ps : List (List ℕ)) → Passed test ps → T (every test (joined ps))
unfolding joined every
every_joined test [] h = tt
every_joined test (p ∷ ps) h = every_both test p (joined ps) h.0 (every_joined test ps h.1)
