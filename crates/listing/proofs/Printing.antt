-- The text that a reply is printed as, and that of the program.
use Prim.Native.Nat.{ℕ, ◌+◌, ◌≤◌, ◌<◌}
use mathlib.Core.List.{List}
use mathlib.Core.Path.{◌≡◌, ap, ◌∙◌}
use borrow.Author.Tests.{le-leb, lt-leb}
use native.Mathlib.Omega.{arith}
use lib.ListN.{length, length-append}
use Rattle.std.specs.Prelude.{Ok, Err}
use Rattle.paper.specs.declared.answer.Refusal.{Refusal}
use Rattle.paper.specs.declared.ledger.Cell.{Cell}
use Rattle.paper.specs.declared.rules.Currency.{Currency}
use Rattle.paper.specs.Answers.{Answer, number_of, said}
use Rattle.paper.specs.Buffers.{over}
use Rattle.paper.specs.Listing.{listing, refusal_line, date_in, currency_in, numbers_to, printed, one_file, positions_of}
use Rattle.paper.specs.Sessions as paper
use Rattle.paper.specs.Sessions.{opening, presenting}
use Rattle.writing.specs.Laid.{laid}
use Rattle.writing.proofs.Laying.{start, on, whole}
use Rattle.desk.specs.declared.Reply.{Reply}
use Rattle.desk.specs.Standing.{standing, heard}
use Rattle.listing.specs.Room.{Written}

-- the same text, said otherwise
pub retold : {text other : List ℕ} {n : ℕ} (before : List ℕ) {after : List ℕ} → text ≡ other → Written text n before after → Written other n before after
retold before e w = (w.0 ∙ ap length e, w.1 ∙ ap (λ (l : List ℕ). over l before) e)

-- one text, from the buffer's start on
pub at_start : {text other : List ℕ} {n : ℕ} (before : List ℕ) {after : List ℕ} → text ≡ other
    → (n ≡ 0 + length text) × (after ≡ laid 0 text before) → Written other n before after
at_start {text} before e w = retold before e (whole (on (start (omega arith)) text w))

-- what is counted is there
pub counted : (text : List ℕ) {n : ℕ} (before : List ℕ) {after : List ℕ} → Written text n before after → n ≤ length after
unfolding over
counted text before w = rw (w.1, length-append text) (omega (arith, w.0))

pub as_listing : (answer : Answer) (cells : List Cell) → answer ≡ Ok tt → listing cells ≡ printed (said answer) cells
unfolding printed
as_listing answer cells e = rw e

pub as_refusal : (answer : Answer) (cells : List Cell) {r : Refusal} → answer ≡ Err r → refusal_line (number_of r.fault) r.place ≡ printed (said answer) cells
unfolding printed
as_refusal answer cells e = rw e

module _ (input : List ℕ) where
  pub too_long : 65424 < length input → refusal_line 201 0 ≡ positions_of input
  unfolding positions_of
  too_long h = rw (lt-leb (length input) 65424 h)

  -- what the program prints is the paper's, of the reply to the one file
  pub as_printed : length input ≤ 65424 → {date : ℕ} {currency : Currency} {everybody : List ℕ} → date ≡ date_in input → currency ≡ currency_in input
      → everybody ≡ numbers_to 499 → (o r : Reply) → heard o ≡ opening date currency everybody → heard r ≡ presenting (standing o.session) input
      → printed (said r.answer) (standing r.session).cells ≡ positions_of input
  unfolding positions_of one_file
  as_printed h d k n o r e p =
      let opened = rw (k, d, n) at e in
      let whole : heard r ≡ one_file input = p ∙ ap (λ (x : paper.Reply). presenting x.session input) opened in
      ap (λ (x : paper.Reply). printed x.answer x.session.cells) whole ∙ rw (le-leb (length input) 65424 h)
