-- Once a word was wrong, the same is told.
use Prim.Native.Nat.{ℕ, zero, suc, ◌<◌}
use native.Mathlib.Omega.{arith}
use mathlib.Core.Bool.{Bool, true, false, ◌||◌, cond, false≢true}
use mathlib.Core.List.{List, [], ◌∷◌}
use mathlib.Core.Path.{◌≡◌, refl, sym, ◌∙◌, subst}
use borrow.Author.Tests.{eq-eqb, ne_eqb}
use lib.Dec.{ltb, eqb}
use lib.ListN.{length, get_or, set}
use Rattle.typed.specs.declared.roster.Roster.{Roster}
use Rattle.typed.specs.Rosters.{separator, WrongWord, shown_in, noted, wrong_noted, marks_after, progress_after, closed, progress_with, grown_if, with_if, read_on, told_in, wrong_in}

-- what is told after part of a text
abbrev pub tells : Roster → WrongWord
tells r = told_in (wrong_in r)

pub first_set : (marks : List Bool) (e : ℕ) → 0 < length marks → get_or (set marks e true) 0 false ≡ (eqb 0 e || get_or marks 0 false)
first_set [] e h = absurd (omega arith)
first_set (m ∷ marks) zero h = rw (eq-eqb 0 0 refl)
first_set (m ∷ marks) (suc e) h = rw (ne_eqb 0 (suc e) (omega arith))

still_noted : (marks : List Bool) (e : ℕ) → get_or marks 0 false ≡ true → get_or (set marks e true) 0 false ≡ true
still_noted [] e h = absurd (false≢true h)
still_noted (m ∷ marks) zero h = refl
still_noted (m ∷ marks) (suc e) h = h

-- what is told of a wrong word is kept in these
abbrev Same : Roster → Roster → Type 0
Same r s = (wrong_noted s.listed ≡ true) × (s.bytes ≡ r.bytes) × (s.progress.place ≡ r.progress.place) × (s.progress.kept ≡ r.progress.kept)

same_told : (r s : Roster) → wrong_noted r.listed ≡ true → Same r s → tells s ≡ tells r
unfolding wrong_in shown_in
same_told r s h e = rw (h, e.0, e.1, e.2, e.3)

same_closed : (r : Roster) → wrong_noted r.listed ≡ true → Same r (closed r)
unfolding closed marks_after progress_after noted
same_closed r h = (go r.progress.word, refl, refl, refl)
  where
    go : (b : Bool) → wrong_noted (cond b (noted r.listed r.progress.number) r.listed) ≡ true
    go true = still_noted r.listed (cond (ltb r.progress.number 500) r.progress.number 0) h
    go false = h

same_with : (s : Bool) (r : Roster) (b : ℕ) → wrong_noted r.listed ≡ true → Same r (with_if s r b)
unfolding with_if grown_if progress_with
same_with true r b h = same_closed r h
same_with false r b h = subst (λ (wrong : Bool). Same r (grown_if wrong r b)) (sym h) (h, refl, refl, refl)

pub same_read : (text : List ℕ) (r : Roster) → wrong_noted r.listed ≡ true → tells (closed (read_on r text)) ≡ tells r
unfolding read_on
same_read [] r h = same_told r (closed r) h (same_closed r h)
same_read (b ∷ bs) r h =
    let s = with_if (separator b) r b in
    let e = same_with (separator b) r b h in
    same_read bs s e.0 ∙ same_told r s h e
