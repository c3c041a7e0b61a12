-- One outcome only. The two numbers that are handed over fix the reading's answer, since no refusal has number 0; a day's contract fixes its answer and
-- both buffers, and the figures fix every cell.
use Prim.Native.Nat.{ℕ, ◌<◌}
use mathlib.Core.Bool.{Bool}
use mathlib.Core.List.{List}
use mathlib.Core.Path.{◌≡◌, refl, sym, ap, ap₂, ◌∙◌}
use native.Mathlib.Omega.{arith}
use lib.IntN.{nat_abs}
use lib.ListN.{length, get_or}
use lib.Seq.{ext_get_or}
use Rattle.std.specs.Prelude.{Ok, Err}
use Rattle.paper.specs.declared.ledger.Cell.{Cell}
use Rattle.paper.specs.Sessions.{zero_cell}
use Rattle.paper.specs.declared.answer.Fault.{Fault}
use Rattle.paper.specs.declared.answer.Fault.TheVariants.{Length, Format, Amount, Additional, Counter, Date, Reserved, Account, Reference, Information, Currency, Roster, Room, Tray, Entity, Identifier, Reason}
use Rattle.paper.specs.Answers.{Answer, refusal, number_of, said}
use Rattle.paper.proofs.Numbers.{own_number}
use Rattle.export.specs.declared.Spoken.{Spoken}
use Rattle.export.specs.Spoken.{Delivered, spoken_of}
use Rattle.export.specs.Day.{Day, named_figures, figure_of, figures_of, day_of}
use Rattle.export.proofs.FigureLaws.{how_many_lem, figures_length, figure_at}

not_zero : (f : Fault) → 0 ≡ number_of f → ⊥
not_zero Length h = omega arith
not_zero Format h = omega arith
not_zero Amount h = omega arith
not_zero Additional h = omega arith
not_zero Counter h = omega arith
not_zero Date h = omega arith
not_zero Reserved h = omega arith
not_zero Account h = omega arith
not_zero Reference h = omega arith
not_zero Information h = omega arith
not_zero Currency h = omega arith
not_zero Roster h = omega arith
not_zero Room h = omega arith
not_zero Tray h = omega arith
not_zero Entity h = omega arith
not_zero Identifier h = omega arith
not_zero Reason h = omega arith

pub spoken_once : (n : ℕ) (a b : Answer) → spoken_of n (said a) ≡ spoken_of n (said b) → a ≡ b
unfolding spoken_of
spoken_once n (Ok x) (Ok y) h = refl
spoken_once n (Ok x) (Err r) h = absurd (not_zero r.fault (ap (λ (s : Spoken). s.number) h))
spoken_once n (Err q) (Ok y) h = absurd (not_zero q.fault (sym (ap (λ (s : Spoken). s.number) h)))
spoken_once n (Err q) (Err r) h = ap₂ refusal (own_number q.fault r.fault (ap (λ (s : Spoken). s.number) h)) (ap (λ (s : Spoken). s.place) h)

pub day_once : (date : ℕ) (dollars : Bool) (entities ends files : List ℕ) (lent : Day) (a b : Delivered Day)
    → day_of date dollars entities ends files lent ≡ a → day_of date dollars entities ends files lent ≡ b → a ≡ b
day_once date dollars entities ends files lent a b h k = sym h ∙ k

cell_once : (a b : Cell) → ((f : ℕ) → f < length named_figures → figure_of f a ≡ figure_of f b) → a ≡ b
unfolding figure_of named_figures
cell_once a b same = λ i. record {
  position = same 0 (omega arith) i;
  sent = nat_abs (same 1 (omega arith) i);
  received = nat_abs (same 2 (omega arith) i);
}

pub cells_once : (a b : List Cell) → figures_of a ≡ figures_of b → a ≡ b
cells_once a b h =
    let long : length a ≡ length b = omega (arith, rw how_many_lem at (figures_length a), rw how_many_lem at (figures_length b), ap length h) in
    ext_get_or zero_cell a b long
    (λ e l. cell_once (get_or a e zero_cell) (get_or b e zero_cell)
    (λ f m. rw (figure_at b f e m (omega arith)) at (rw (h, long) at (sym (figure_at a f e m l)))))
