-- What is known of a tray's pieces is one thing only, and so is what is told of them.
use Prim.Native.Nat.{ℕ, ◌≤◌, ◌<◌}
use native.Mathlib.Omega.{arith}
use mathlib.Core.Bool.{Bool, true, false}
use mathlib.Core.List.{List, []}
use mathlib.Core.Path.{◌≡◌, refl, sym, ap, ◌∙◌}
use Rattle.std.specs.Prelude.{Option, Some, None, Err}
use lib.Dec.{leb, leb→le}
use borrow.Author.Tests.{leb-false}
use Rattle.paper.specs.declared.answer.Refusal.{Refusal}
use Rattle.paper.specs.Answers.{Answer, said}
use Rattle.paper.proofs.Tests.{T_of}
use Rattle.paper.proofs.Numbers.{said_once}
use Rattle.tray.specs.declared.pieces.Pieces.{Pieces}
use Rattle.tray.specs.Seen.{most_seen, Seen, ReadOn, Tells}

-- what is known is its three parts
same_parts : (r q : Pieces) → said r.faults ≡ said q.faults → r.records ≡ q.records → r.left ≡ q.left → r ≡ q
same_parts r q f n l =
    ap (λ (a : Answer). record { faults = a; records = r.records; left = r.left }) (said_once r.faults q.faults f)
    ∙ ap (λ (m : ℕ). record { faults = q.faults; records = m; left = r.left }) n
    ∙ ap (λ (m : ℕ). record { faults = q.faults; records = q.records; left = m }) l

-- few enough records to be looked at, or not
pub either : (P : Type 0) (n : ℕ) → (n ≤ most_seen → P) → (most_seen < n → P) → P
either P n few many = go (leb n most_seen) refl
  where
    go : (b : Bool) → leb n most_seen ≡ b → P
    go true e = few (leb→le n most_seen (T_of e))
    go false e = many (leb-false n most_seen e)

pub begun_once : (r q : Pieces) → Seen r [] → Seen q [] → r ≡ q
begun_once r q s t =
    either (r ≡ q) r.records
    (λ l. either (r ≡ q) q.records
    (λ m. let a = s.whole l in let b = t.whole m in same_parts r q (a.faults ∙ sym b.faults) (a.records ∙ sym b.records) (a.left ∙ sym b.left))
    (λ m. absurd (omega (arith, t.endless m))))
    (λ l. absurd (omega (arith, s.endless l)))

pub read_once : (p : Pieces) (piece : List ℕ) (r q : Pieces) → ReadOn p piece r → ReadOn p piece q → r ≡ q
read_once p piece r q s t =
    either (r ≡ q) p.records
    (λ l. let a = s.further l in let b = t.further l in same_parts r q (a.faults ∙ sym b.faults) (a.records ∙ sym b.records) (a.left ∙ sym b.left))
    (λ l. s.stays l ∙ sym (t.stays l))

pub tells_once : (p : Pieces) (header : List ℕ) (r q : Option Refusal) → Tells p header r → Tells p header q → r ≡ q
tells_once p header (Some a) (Some b) s t = let e = said_once (Err a) (Err b) (s.1 ∙ sym t.1) in cc
tells_once p header (Some a) None s t = absurd (omega (arith, s.0, t))
tells_once p header None (Some b) s t = absurd (omega (arith, s, t.0))
tells_once p header None None s t = refl
