-- What is known of the pieces of a company's file is one thing only, and so is what is told of them.
use Prim.Native.Nat.{ℕ, ◌≤◌}
use native.Mathlib.Omega.{arith}
use mathlib.Core.Bool.{Bool, true, false}
use mathlib.Core.List.{List}
use mathlib.Core.Path.{◌≡◌, refl, sym, ap, ap₂, ◌∙◌}
use Rattle.paper.specs.declared.rules.Currency.{Currency}
use Rattle.std.specs.Prelude.{Option, Some, None, Result, Ok, Err}
use Rattle.paper.specs.declared.answer.Refusal.{Refusal}
use Rattle.paper.specs.Answers.{Answer, accepted, said}
use Rattle.paper.proofs.Refusals.{refused_not}
use Rattle.paper.proofs.Numbers.{said_once}
use Rattle.tray.specs.Seen.{most_seen}
use Rattle.tray.proofs.Once.{either}
use Rattle.company.specs.declared.pieces.Pieces.{Pieces}
use Rattle.company.specs.Seen.{CompanyMore, judgeable, CompanyOn, CompanyTells}
use Rattle.company.specs.Sums.{sum_in}

-- a sum, or a fault
judged_once : (r q : Result ℕ Refusal) → said r ≡ said q → (said r ≡ accepted → sum_in r ≡ sum_in q) → r ≡ q
judged_once (Ok n) (Ok m) a s = ap Ok (s refl)
judged_once (Ok n) (Err q) a s = absurd (refused_not (sym a))
judged_once (Err r) (Ok m) a s = absurd (refused_not a)
judged_once (Err r) (Err q) a s = let e = said_once (Err r) (Err q) a in cc

-- what is known is its five parts
more_once : (p : Pieces) (lo piece : List ℕ) (r q : Pieces) → CompanyMore p lo piece r → CompanyMore p lo piece q → r ≡ q
more_once p lo piece r q a b =
    let going : r.going ≡ q.going = judged_once r.going q.going (a.going ∙ sym b.going) (λ e. a.sum e ∙ sym (b.sum (b.going ∙ sym a.going ∙ e))) in
    ap (λ (c : Currency). record { currency = c; going = r.going; ending = r.ending; records = r.records; left = r.left }) (a.money ∙ sym b.money)
    ∙ ap (λ (x : Result ℕ Refusal). record { currency = q.currency; going = x; ending = r.ending; records = r.records; left = r.left }) going
    ∙ ap (λ (x : Answer). record { currency = q.currency; going = q.going; ending = x; records = r.records; left = r.left })
    (said_once r.ending q.ending (a.ending ∙ sym b.ending))
    ∙ ap₂ (λ (n m : ℕ). record { currency = q.currency; going = q.going; ending = q.ending; records = n; left = m }) (a.records ∙ sym b.records) (a.left ∙ sym b.left)

pub company_read_once : (p : Pieces) (lo piece : List ℕ) (r q : Pieces) → CompanyOn p lo piece r → CompanyOn p lo piece q → r ≡ q
company_read_once p lo piece r q s t =
    either (r ≡ q) p.records (λ l. go l (judgeable lo piece) refl) (λ l. s.stays l ∙ sym (t.stays l))
  where
    go : p.records ≤ most_seen → (b : Bool) → judgeable lo piece ≡ b → r ≡ q
    go l true e = more_once p lo piece r q (s.judged l e) (t.judged l e)
    go l false e = s.counted l e ∙ sym (t.counted l e)

pub company_tells_once : (p : Pieces) (lo : List ℕ) (r q : Option Refusal) → CompanyTells p lo r → CompanyTells p lo q → r ≡ q
company_tells_once p lo (Some a) (Some b) s t = let e = said_once (Err a) (Err b) (s.1 ∙ sym t.1) in cc
company_tells_once p lo (Some a) None s t = absurd (omega (arith, s.0, t))
company_tells_once p lo None (Some b) s t = absurd (omega (arith, s, t.0))
company_tells_once p lo None None s t = refl
