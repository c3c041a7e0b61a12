-- The loop that looks for a number that stood before, in pages: what is known at each place.
use Prim.Native.Nat.{ℕ, ◌+◌, ◌*◌, ◌/◌, ◌≤◌, ◌<◌}
use mathlib.Core.Bool.{true, false, ◌||◌}
use mathlib.Core.List.{List}
use mathlib.Core.Path.{◌≡◌, refl, ◌∙◌}
use native.Mathlib.Nat.{div-lt_iff_lt-mul, div-le_self, mul-le-mul_right, le_trans, lt_of_lt_of_le}
use native.Mathlib.Omega.{arith}
use lib.Dec.{eqb}
use lib.ListN.{length, get_or, set, length-set}
use Rattle.paper.specs.Kinds.{is_individual, kind_of}
use Rattle.paper.specs.Records.{number_in}
use Rattle.paper.specs.Reading.{record_at}
use Rattle.repeats.proofs.Repeats.{next_other, next_individual, new_next}
use Rattle.repeats.proofs.Pages.{bit_for, Paged, none_taken, page_taken, taken_there, told, bit_below, stays, put_in}
use Rattle.repeats.specs.Bits.{has_bit}
use Rattle.repeats.specs.Pages.{RoomFor}
use Rattle.repeats.specs.Numbers.{numbers_before, repeated, FirstFrom}

-- up to a place: the pages hold the numbers before it, and none from the first place looked at is repeated
pub record Looking (file pages₀ seen₀ : List ℕ) (page from : ℕ) (pages seen : List ℕ) (taken place : ℕ) : Type 0 where
  pub room : RoomFor pages₀ seen₀ page (length file / 94)
  pub within : place ≤ length file / 94
  pub few : taken ≤ place
  pub wide : length pages ≡ length pages₀
  pub long : length seen ≡ length seen₀
  pub set : Paged page pages seen taken (numbers_before file place)
  pub new : (k : ℕ) → from ≤ k → k < place → repeated file k ≡ false

-- at a number, once its page is taken
pub record Ready (file pages₀ : List ℕ) (page : ℕ) (pages seen : List ℕ) (taken place n : ℕ) : Type 0 where
  pub some : 0 < get_or pages (n / page) 0
  pub few : taken ≤ place + 1
  pub wide : length pages ≡ length pages₀
  pub set : Paged page pages seen taken (numbers_before file place)

pub looking : (file : List ℕ) {pages seen : List ℕ} {page : ℕ} (from : ℕ) → RoomFor pages seen page (length file / 94) → Looking file pages seen page from pages seen 0 0
unfolding numbers_before
looking file {page = page} from room = record {
  room = room;
  within = omega arith;
  few = omega arith;
  wide = refl;
  long = refl;
  set = none_taken page room;
  new = λ k l u. absurd (omega arith);
}

module _ {file pages₀ seen₀ : List ℕ} {page from : ℕ} {pages seen : List ℕ} {taken place : ℕ} (h : Looking file pages₀ seen₀ page from pages seen taken place) where
  -- a number of seven digits has a page
  pub page_there : {n : ℕ} → n < 10000000 → n / page < length pages
  page_there seven = rw h.wide ((div-lt_iff_lt-mul h.room.some).1 (lt_of_lt_of_le seven h.room.all))

  -- the pages of so many records are in the row
  pages_fit : {most : ℕ} → most ≤ place + 1 → place < length file / 94 → most * page ≤ length seen * 8
  pages_fit few u = rw h.long (le_trans (mul-le-mul_right page (omega arith)) h.room.enough)

  pub ready_there : {n : ℕ} → (get_or pages (n / page) 0 ≡ 0 → ⊥) → Ready file pages₀ page pages seen taken place n
  ready_there {n} d = record { some = omega (arith, d); few = omega (arith, h.few); wide = h.wide; set = h.set }

  pub ready_taken : {n : ℕ} → n < 10000000 → place < length file / 94 → get_or pages (n / page) 0 ≡ 0
      → Ready file pages₀ page (set pages (n / page) (taken + 1)) seen (taken + 1) place n
  ready_taken {n} seven u z =
      let r : (taken + 1) * page ≤ length seen * 8 = pages_fit (omega (arith, h.few)) u in
      record {
        some = taken_there page h.set (n / page) (page_there seven) z r;
        few = omega (arith, h.few);
        wide = length-set pages (n / page) (taken + 1) ∙ h.wide;
        set = page_taken page h.set (n / page) (page_there seven) z r;
      }

  pub looks_on : place < length file / 94 → is_individual (kind_of (record_at file place)) ≡ false
      → Looking file pages₀ seen₀ page from pages seen taken (place + 1)
  unfolding repeated
  looks_on u e = record {
    room = h.room;
    within = omega arith;
    few = omega (arith, h.few);
    wide = h.wide;
    long = h.long;
    set = rw (next_other file place e) h.set;
    new = new_next h.new (λ l. rw e);
  }

  -- the page of a number of seven digits is such a number, twice
  pub twice : {n : ℕ} → n < 10000000 → n / page * 2 < 20000000
  twice {n} seven = omega (arith, div-le_self n page)

  -- at a number whose page is taken
  module _ {pages₁ : List ℕ} {taken₁ n : ℕ} (r : Ready file pages₀ page pages₁ seen taken₁ place n) where
    pub bit_bound : place < length file / 94 → bit_for page pages₁ n < length seen * 8
    bit_bound u = lt_of_lt_of_le (bit_below page r.set n r.some) (pages_fit r.few u)

    -- that of an individual record
    module _ (e : is_individual (kind_of (record_at file place)) ≡ true) (q : n ≡ number_in (record_at file place)) (seven : n < 10000000) where
      told_here : repeated file place ≡ has_bit seen (bit_for page pages₁ n)
      unfolding repeated
      told_here = rw (e, ← q) (told page r.set n r.some seven)

      -- it is there already, and nobody looks at the place
      pub looks_again : has_bit seen (bit_for page pages₁ n) ≡ true → place < from → from ≤ length file / 94
          → Looking file pages₀ seen₀ page from pages₁ seen taken₁ (place + 1)
      looks_again t u w = record {
        room = h.room;
        within = omega arith;
        few = r.few;
        wide = r.wide;
        long = h.long;
        set = rw (next_individual file place e q) (stays page r.set n r.some t);
        new = new_next h.new (λ l. absurd (omega arith));
      }

      pub looks_added : has_bit seen (bit_for page pages₁ n) ≡ false → place < length file / 94 → (after : List ℕ) → length after ≡ length seen
          → ((k : ℕ) → has_bit after k ≡ (eqb k (bit_for page pages₁ n) || has_bit seen k))
          → Looking file pages₀ seen₀ page from pages₁ after taken₁ (place + 1)
      looks_added t u after l put = record {
        room = h.room;
        within = omega arith;
        few = r.few;
        wide = r.wide;
        long = l ∙ h.long;
        set = rw (next_individual file place e q) (put_in page r.set n r.some after l put);
        new = new_next h.new (λ w. told_here ∙ t);
      }

      -- the first
      pub looked_up : has_bit seen (bit_for page pages₁ n) ≡ true → place < length file / 94 → from ≤ place
          → FirstFrom (repeated file) (length file / 94) from place
      looked_up t u w = record { further = w; within = omega arith; new = h.new; ends = λ l. told_here ∙ t }
