-- The reading, one record further.
use Prim.Native.Nat.{ℕ, suc, ◌+◌, ◌*◌, ◌/◌, ◌%◌, ◌≤◌, ◌<◌}
use mathlib.Core.Bool.{true, false}
use mathlib.Core.List.{List, []}
use mathlib.Core.Path.{◌≡◌, refl, sym, ap}
use native.Mathlib.Omega.{arith}
use lib.Dec.{eqb}
use lib.ListN.{length, take, drop, drop_of_length-le}
use Rattle.paper.specs.declared.record.Before.TheVariants.{Nothing}
use Rattle.paper.specs.Fields.{within}
use Rattle.paper.specs.Answers.{Said, refused, and_then, require}
use Rattle.paper.specs.Checks.{Check, fine, wrong}
use Rattle.paper.specs.Controls.{zeros}
use Rattle.paper.specs.Records.{ReadingRules}
use Rattle.paper.specs.Reading as paper
use Rattle.paper.specs.Reading.{nothing_counted, start, judged, next, finish, at, reading_from, parts, records_of, length_good, reading_by, record_at}
use Rattle.paper.proofs.Tests.{T_of, within_range, and_l}
use Rattle.paper.proofs.Places.{parts_from}
use Rattle.paper.proofs.Lists.{length_parts}
use Rattle.repeats.specs.Numbers.{numbers_before}
use Rattle.state.specs.declared.State.{State}
use Rattle.state.specs.States.{meant, goes, stops, after_record}

-- ---- outcomes

stop_not_go : {n : ℕ} {s : paper.State} → stops n ≡ goes s → ⊥
stop_not_go h = let z : ◌≡◌ {A = ℕ} 0 1 = cc in omega arith

pub went : (c : Check) (s : paper.State) {t : paper.State} → after_record c s ≡ goes t → (c ≡ fine) × (s ≡ t)
unfolding after_record
went fine s h = (refl, cc)
went (wrong n) s h = absurd (stop_not_go h)

pub stopped : (c : Check) (s : paper.State) {n : ℕ} → after_record c s ≡ stops n → c ≡ wrong n
unfolding after_record
stopped fine s h = absurd (stop_not_go (sym h))
stopped (wrong m) s {n} h = let e : m ≡ n = cc in ap wrong e

-- ---- records from a place on

module _ (rules : ReadingRules) (file : List ℕ) (n i : ℕ) (s : paper.State) where
  pub go_on : {t : paper.State} → i < n → after_record (judged rules s (record_at file i)) (next s (record_at file i)) ≡ goes t
      → reading_from rules s (drop i (parts 94 n file)) ≡ reading_from rules t (drop (i + 1) (parts 94 n file))
  unfolding record_at reading_from at and_then
  go_on h e =
      let r = take 94 (drop (i * 94) file) in
      let p = went (judged rules s r) (next s r) e in
      let k : i + 1 ≡ suc i = omega arith in
      rw (k, parts_from 94 n file i h, p.0, p.1)

  pub stop_here : {m : ℕ} → i < n → after_record (judged rules s (record_at file i)) (next s (record_at file i)) ≡ stops m
      → reading_from rules s (drop i (parts 94 n file)) ≡ refused m s.counts.place
  unfolding record_at reading_from at and_then
  stop_here h e =
      let r = take 94 (drop (i * 94) file) in
      rw (parts_from 94 n file i h, stopped (judged rules s r) (next s r) e)

  pub done : n ≤ i → reading_from rules s (drop i (parts 94 n file)) ≡ finish s.before s.counts.place
  unfolding reading_from
  done h = rw (drop_of_length-le (parts 94 n file) {i = i} (omega (arith, length_parts 94 n file)))

-- ---- the whole file

-- a place that no file has stands for no record
nowhere : (file : List ℕ) → length file ≤ 940000 → record_at file 10000 ≡ []
unfolding record_at
nowhere file h = rw (drop_of_length-le file h)

-- the state before the first record
abbrev pub nothing_read : State
nothing_read = record { before = Nothing; header = 10000; individual = 10000; counter = 0; highest = 0; fresh = 0; batches = 0; batch = zeros; closed = zeros }

meant_start : (file : List ℕ) → length file ≤ 940000 → meant file 0 nothing_read ≡ start
unfolding meant start nothing_counted numbers_before
meant_start file h = rw (nowhere file h)

pub at_start : (rules : ReadingRules) (file : List ℕ) (n : ℕ) → length file ≤ 940000
    → reading_from rules start (parts 94 n file) ≡ reading_from rules (meant file 0 nothing_read) (drop 0 (parts 94 n file))
at_start rules file n h = rw (meant_start file h)

pub short : (n : ℕ) → length_good n ≡ true → n ≤ 940000
unfolding length_good
short n h = (within_range 188 940000 n (and_l (within 188 940000 n) (eqb (n % 94) 0) (T_of h))).1

module _ (rules : ReadingRules) (file : List ℕ) where
  pub too_long : length_good (length file) ≡ false → refused 201 0 ≡ reading_by rules file
  unfolding reading_by and_then require
  too_long h = rw h

  pub read_through : {x : Said} → length_good (length file) ≡ true → reading_from rules start (parts 94 (length file / 94) file) ≡ x → x ≡ reading_by rules file
  unfolding reading_by records_of and_then require
  read_through h e = rw (h, e)
