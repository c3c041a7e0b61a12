-- A set of numbers of seven digits in pages of bits, each taken when the first of its numbers comes.
use Prim.Native.Nat.{ℕ, zero, suc, ◌+◌, ◌-◌, ◌*◌, ◌/◌, ◌%◌, ◌≤◌, ◌<◌}
use mathlib.Core.Bool.{Bool, true, false, ◌&&◌, ◌||◌}
use mathlib.Core.List.{List, [], ◌∷◌}
use mathlib.Core.Path.{◌≡◌, refl, sym, ap, ◌∙◌}
use native.Mathlib.Nat.{mod-lt, div-add-mod', mul-le-mul_right}
use native.Mathlib.Omega.{arith}
use borrow.Author.Tests.{eq-eqb, ne_eqb, eqb-true, eqb-false, lt-ltb, ltb-true, ltb-false}
use lib.Arith.{digits_lt, digits_div, digits_mod}
use lib.Dec.{eqb, ltb}
use lib.ListN.{length, get_or, set, replicate, length-replicate}
use lib.Seq.{get_or-set_same, get_or-set_other}
use Rattle.paper.specs.Fields.{among}
use Rattle.repeats.proofs.Set.{blank}
use Rattle.repeats.specs.Bits.{has_bit}
use Rattle.repeats.specs.Pages.{RoomFor}

zeros : (m i : ℕ) → get_or (replicate {A = ℕ} m 0) i 0 ≡ 0
zeros zero i = refl
zeros (suc m) zero = refl
zeros (suc m) (suc i) = zeros m i

-- rows that are new have the room that their lengths give
pub room : (width bytes : ℕ) {page most : ℕ} → 0 < page → page ≤ 4096 → 10000000 ≤ width * page → most * page ≤ bytes * 8
    → RoomFor (replicate width 0) (replicate bytes 0) page most
room width bytes some small all enough = record {
  some = some;
  small = small;
  all = rw (length-replicate {A = ℕ} width 0) all;
  enough = rw (length-replicate {A = ℕ} bytes 0) enough;
  none = zeros width;
  empty = blank bytes;
}

module _ (page : ℕ) where
  -- which page a number's is, from one; zero where none is taken
  abbrev pub page_of : List ℕ → ℕ → ℕ
  page_of pages n = get_or pages (n / page) 0

  -- its bit
  abbrev pub bit_for : List ℕ → ℕ → ℕ
  bit_for pages n = (page_of pages n - 1) * page + n % page

  unfoldable pub held_in : List ℕ → List ℕ → ℕ → Bool
  held_in pages seen n = ltb 0 (page_of pages n) && has_bit seen (bit_for pages n)

  -- so many pages are taken, each once, and the set holds those numbers
  pub record Paged (pages seen : List ℕ) (taken : ℕ) (xs : List ℕ) : Type 0 where
    pub some : 0 < page
    pub most : (i : ℕ) → get_or pages i 0 ≤ taken
    pub apart : (i j : ℕ) → 0 < get_or pages i 0 → get_or pages i 0 ≡ get_or pages j 0 → i ≡ j
    pub clear : (x : ℕ) → taken * page ≤ x → x < length seen * 8 → has_bit seen x ≡ false
    pub held : (n : ℕ) → n < 10000000 → held_in pages seen n ≡ among xs n

  -- of a number whose page is taken
  held_there : (pages seen : List ℕ) (n : ℕ) → 0 < page_of pages n → held_in pages seen n ≡ has_bit seen (bit_for pages n)
  unfolding held_in
  held_there pages seen n some = rw (lt-ltb 0 (page_of pages n) some) refl

  not_held : (pages seen : List ℕ) (n : ℕ) → page_of pages n ≡ 0 → held_in pages seen n ≡ false
  unfolding held_in
  not_held pages seen n none = rw none refl

  same_page : (pages after seen : List ℕ) (n : ℕ) → page_of after n ≡ page_of pages n → held_in after seen n ≡ held_in pages seen n
  unfolding held_in
  same_page pages after seen n e = ap (λ (p : ℕ). ltb 0 p && has_bit seen ((p - 1) * page + n % page)) e

  -- nothing is taken
  pub none_taken : {pages seen : List ℕ} {most : ℕ} → RoomFor pages seen page most → Paged pages seen 0 []
  unfolding among
  none_taken {pages} {seen} room = record {
    some = room.some;
    most = λ i. omega (arith, room.none i);
    apart = λ i j h q. absurd (omega (arith, room.none i));
    clear = λ x a b. room.empty x b;
    held = λ n b. not_held pages seen n (room.none (n / page));
  }

  module _ {pages seen xs : List ℕ} {taken : ℕ} (h : Paged pages seen taken xs) where
    -- a page is taken
    module _ (i : ℕ) (there : i < length pages) (none : get_or pages i 0 ≡ 0) (room : (taken + 1) * page ≤ length seen * 8) where
      abbrev after : List ℕ
      after = set pages i (taken + 1)

      at : get_or after i 0 ≡ taken + 1
      at = get_or-set_same pages i (taken + 1) 0 there

      off : (j : ℕ) → (j ≡ i → ⊥) → get_or after j 0 ≡ get_or pages j 0
      off j d = get_or-set_other pages i j (taken + 1) 0 d

      most_after : (j : ℕ) → get_or after j 0 ≤ taken + 1
      most_after j = by (eqb j i) refl
        where
          by : (t : Bool) → eqb j i ≡ t → get_or after j 0 ≤ taken + 1
          by true q = rw (eqb-true j i q) (omega (arith, at))
          by false q = omega (arith, off j (eqb-false j i q), h.most j)

      apart_after : (j k : ℕ) → 0 < get_or after j 0 → get_or after j 0 ≡ get_or after k 0 → j ≡ k
      apart_after j k some same = by (eqb j i) refl (eqb k i) refl
        where
          by : (t : Bool) → eqb j i ≡ t → (u : Bool) → eqb k i ≡ u → j ≡ k
          by true q true r = eqb-true j i q ∙ sym (eqb-true k i r)
          by true q false r =
              let e : get_or after j 0 ≡ taken + 1 = ap (λ (m : ℕ). get_or after m 0) (eqb-true j i q) ∙ at in
              absurd (omega (arith, off k (eqb-false k i r), h.most k))
          by false q true r =
              let e : get_or after k 0 ≡ taken + 1 = ap (λ (m : ℕ). get_or after m 0) (eqb-true k i r) ∙ at in
              absurd (omega (arith, off j (eqb-false j i q), h.most j))
          by false q false r =
              let a = off j (eqb-false j i q) in
              let b = off k (eqb-false k i r) in
              h.apart j k (omega arith) (sym a ∙ same ∙ b)

      -- the first bits of the page are those behind the last taken
      held_after : (n : ℕ) → held_in after seen n ≡ held_in pages seen n
      held_after n = by (eqb (n / page) i) refl
        where
          by : (t : Bool) → eqb (n / page) i ≡ t → held_in after seen n ≡ held_in pages seen n
          by true q =
              let e = eqb-true (n / page) i q in
              let now : page_of after n ≡ taken + 1 = ap (λ (m : ℕ). get_or after m 0) e ∙ at in
              let before : page_of pages n ≡ 0 = ap (λ (m : ℕ). get_or pages m 0) e ∙ none in
              let bit : bit_for after n ≡ taken * page + n % page = ap (λ (m : ℕ). (m - 1) * page + n % page) now ∙ ap (λ (m : ℕ). m * page + n % page) (let z : taken + 1 - 1 ≡ taken = omega arith in z) in
              let below : taken * page + n % page < (taken + 1) * page = digits_lt (omega arith) (mod-lt n h.some) in
              held_there after seen n (omega arith) ∙ h.clear (bit_for after n) (omega arith) (omega arith) ∙ sym (not_held pages seen n before)
          by false q = same_page pages after seen n (off (n / page) (eqb-false (n / page) i q))

      pub page_taken : Paged after seen (taken + 1) xs
      page_taken = record {
        some = h.some;
        most = most_after;
        apart = apart_after;
        clear = λ x a b. let l : taken * page ≤ (taken + 1) * page = mul-le-mul_right page (omega arith) in h.clear x (omega arith) b;
        held = λ n b. held_after n ∙ h.held n b;
      }

      pub taken_there : 0 < get_or after i 0
      taken_there = omega (arith, at)

    -- at a number whose page is taken
    module _ (n : ℕ) (some : 0 < page_of pages n) where
      pub told : n < 10000000 → among xs n ≡ has_bit seen (bit_for pages n)
      told seven = sym (h.held n seven) ∙ held_there pages seen n some

      pub bit_below : bit_for pages n < taken * page
      bit_below = let m : page_of pages n ≤ taken = h.most (n / page) in digits_lt (omega arith) (mod-lt n h.some)

      same_number : (k : ℕ) → 0 < page_of pages k → bit_for pages k ≡ bit_for pages n → k ≡ n
      same_number k there e =
          let k_low = mod-lt k h.some in
          let n_low = mod-lt n h.some in
          let p : page_of pages k - 1 ≡ page_of pages n - 1 =
          sym (digits_div (page_of pages k - 1) k_low) ∙ ap (λ (x : ℕ). x / page) e ∙ digits_div (page_of pages n - 1) n_low
          in
          let q : k / page ≡ n / page = h.apart (k / page) (n / page) there (omega arith) in
          let r : k % page ≡ n % page =
          sym (digits_mod (page_of pages k - 1) k_low) ∙ ap (λ (x : ℕ). x % page) e ∙ digits_mod (page_of pages n - 1) n_low
          in
          sym (div-add-mod' k page) ∙ rw (q, r) (div-add-mod' n page)

      same_bits : (k : ℕ) → 0 < page_of pages k → eqb (bit_for pages k) (bit_for pages n) ≡ eqb k n
      same_bits k there = by (eqb k n) refl
        where
          by : (t : Bool) → eqb k n ≡ t → eqb (bit_for pages k) (bit_for pages n) ≡ t
          by true q = eq-eqb (bit_for pages k) (bit_for pages n) (ap (bit_for pages) (eqb-true k n q))
          by false q = ne_eqb (bit_for pages k) (bit_for pages n) (λ e. eqb-false k n q (same_number k there e))

      -- it is there already
      pub stays : has_bit seen (bit_for pages n) ≡ true → Paged pages seen taken (n ∷ xs)
      unfolding among
      stays t = record { some = h.some; most = h.most; apart = h.apart; clear = h.clear; held = λ k b. by k b (eqb k n) refl }
        where
          by : (k : ℕ) → k < 10000000 → (i : Bool) → eqb k n ≡ i → held_in pages seen k ≡ among (n ∷ xs) k
          by k b true q = rw (q, eqb-true k n q) (held_there pages seen n some ∙ t)
          by k b false q = rw q (h.held k b)

      pub put_in : (then : List ℕ) → length then ≡ length seen → ((k : ℕ) → has_bit then k ≡ (eqb k (bit_for pages n) || has_bit seen k))
          → Paged pages then taken (n ∷ xs)
      unfolding among
      put_in then l put = record {
        some = h.some;
        most = h.most;
        apart = h.apart;
        clear = λ x a b. put x ∙ rw (ne_eqb x (bit_for pages n) (λ e. absurd (omega (arith, bit_below)))) (h.clear x a (omega arith));
        held = λ k b. by k b (ltb 0 (page_of pages k)) refl;
      }
        where
          by : (k : ℕ) → k < 10000000 → (i : Bool) → ltb 0 (page_of pages k) ≡ i → held_in pages then k ≡ among (n ∷ xs) k
          by k b true q =
              let there = ltb-true 0 (page_of pages k) q in
              held_there pages then k there ∙ put (bit_for pages k)
              ∙ rw (same_bits k there) (ap (λ (y : Bool). eqb k n || y) (sym (held_there pages seen k there) ∙ h.held k b))
          by k b false q =
              let none : page_of pages k ≡ 0 = omega (arith, ltb-false 0 (page_of pages k) q) in
              let other : k ≡ n → ⊥ = λ e. absurd (omega (arith, ap (page_of pages) e)) in
              not_held pages then k none ∙ rw (ne_eqb k n other) (sym (not_held pages seen k none) ∙ h.held k b)
