-- A day, file by file.
use Prim.Native.Nat.{ℕ, zero, suc, ◌+◌, ◌-◌, ◌≤◌, ◌<◌, min}
use mathlib.Core.List.{List, [], ◌∷◌}
use mathlib.Core.Path.{◌≡◌, ap}
use native.Mathlib.Nat.{zero-min, min-zero, suc-min-suc, suc-sub-suc, sub-zero, zero-sub}
use native.Mathlib.Numerals.{add-one}
use lib.ListN.{length, take, drop, get_or, drop_of_length-le}
use lib.Seq.{take-nil, drop-cons}
use Rattle.paper.specs.Sessions.{Session, Reply, presenting}
use Rattle.export.specs.declared.Spoken.{Spoken}
use Rattle.export.specs.Spoken.{spoken_of, pair_written}
use Rattle.export.specs.Day.{Turns, between, turn, turns_from}

-- ---- the bytes of a file

module _ {A : Type 0} where
  pub take_within : (n : ℕ) (l : List A) → take (min n (length l)) l ≡ take n l
  take_within zero l = rw zero-min
  take_within (suc n) [] = rw min-zero
  take_within (suc n) (x ∷ l) = rw suc-min-suc (ap (λ (r : List A). x ∷ r) (take_within n l))

  pub drop_within : (n : ℕ) (l : List A) → drop (min n (length l)) l ≡ drop n l
  drop_within zero l = rw zero-min
  drop_within (suc n) [] = rw min-zero
  drop_within (suc n) (x ∷ l) = rw suc-min-suc (drop_within n l)

-- bounds within the bytes give the same part
pub part_within : (from end : ℕ) (l : List ℕ)
    → take (min end (length l) - min from (min end (length l))) (drop (min from (min end (length l))) l) ≡ between from end l
unfolding between
part_within zero end l = simp (zero-min, sub-zero, take_within)
part_within (suc from) zero l = simp (zero-min, min-zero, zero-sub)
part_within (suc from) (suc end) [] = simp (min-zero, take-nil)
part_within (suc from) (suc end) (x ∷ l) = simp (suc-min-suc, suc-sub-suc) (part_within from end l)

-- ---- the turns

abbrev pub turns : Session → List ℕ → Turns
turns session answers = record { session = session; answers = answers }

module _ (i from : ℕ) (ends files : List ℕ) where
  pub one_turn : (s : Session) (answers : List ℕ) {file answers' : List ℕ} {reply : Reply} {spoken : Spoken} → i < length ends
      → file ≡ between from (get_or ends i 0) files → reply ≡ presenting s file → spoken ≡ spoken_of 0 reply.answer → answers' ≡ pair_written i spoken.number spoken.place answers
      → turns_from i from (drop i ends) files (turns s answers) ≡ turns_from (i + 1) (get_or ends i 0) (drop (i + 1) ends) files (turns reply.session answers')
  unfolding turns_from turn
  one_turn s answers l f r p a = rw (drop-cons ends i 0 l, ← add-one i, a, p, r, f)

  pub last_turn : (t : Turns) → length ends ≤ i → turns_from i from (drop i ends) files t ≡ t
  unfolding turns_from
  last_turn t l = rw (drop_of_length-le ends l)
