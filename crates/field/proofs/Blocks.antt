-- The sum of a block's digits: those with the same weight lie in the same bytes of two words, and four bytes further on.
use Rattle.std.proofs.Common.{◌≡◌, ℕ, ◌+◌, ◌-◌, ◌*◌, ◌/◌, ◌%◌, ◌^◌, ◌<◌, ◌≤◌, Bool, true, false, T, eqb, List, [], ◌∷◌, get_or, take, drop, sym, refl, ap, ◌∙◌, arith, get_or-drop, take_all, get_or-take, eq-eqb, ne_eqb, eqb-true}
use borrow.Author.Tests.{eqb-false}
use lib.Arith.{digits_div, digits_mod}
use lib.Bits.{bit_and, and_block, and_mask}
use Rattle.paper.specs.Fields.{digit, digits, value, value_from}
use Rattle.paper.specs.Accounts.{weights, weighted, block_good}
use Rattle.paper.proofs.Tests.{of_T}
use Rattle.paper.proofs.Digits.{digit_range}
use Rattle.paper.proofs.Every.{every_at}
use Rattle.paper.proofs.Runs.{Run, run_of}
use Rattle.characters.specs.Words.{packed, Packs}
use Rattle.characters.proofs.Words.{listed, listing}
use Rattle.field.specs.Blocks.{InWords, weighed, sum_good}

-- ---- four bytes, each by its weight

-- one byte of a number, above those below it
byte_of : (rest x m low : ℕ) {n : ℕ} → x < 256 → low < m → n ≡ (rest * 256 + x) * m + low → n / m % 256 ≡ x
byte_of rest x m low h k e = rw (e, digits_div (rest * 256 + x) {m = m} {r = low} k) (digits_mod rest h)

weighed_bytes : (a b c d high : ℕ) {n : ℕ} → (a < 256) × (b < 256) × (c < 256) × (d < 256) → n ≡ high * 0x1_0000_0000 + (((d * 256 + c) * 256 + b) * 256 + a)
    → weighed n ≡ a * 9 + b * 7 + c * 1 + d * 3
unfolding weighed
weighed_bytes a b c d high {n} h e =
    let one : n % 0x100 ≡ a = omega arith in
    let two : n / 0x100 % 0x100 ≡ b = byte_of ((high * 256 + d) * 256 + c) b 0x100 a (omega arith) (omega arith) (omega arith) in
    let three : n / 0x1_0000 % 0x100 ≡ c = byte_of (high * 256 + d) c 0x1_0000 (b * 256 + a) (omega arith) (omega arith) (omega arith) in
    let four : n / 0x100_0000 % 0x100 ≡ d = byte_of high d 0x100_0000 ((c * 256 + b) * 256 + a) (omega arith) (omega arith) (omega arith) in
    rw (one, two, three, four)

-- two of four bytes, with one between them
apart : (n : ℕ) → bit_and n 0x00FF_00FF ≡ n / 0x1_0000 % 0x100 * 0x1_0000 + n % 0x100
apart n =
    let e : n ≡ n / 0x1_0000 * 0x1_0000 + n % 0x1_0000 = omega arith in
    let cut = and_block 16 (n / 0x1_0000) 0xFF (n % 0x1_0000) 0xFF (omega arith) (omega arith) in
    let low : n % 0x1_0000 % 0x100 ≡ n % 0x100 = omega arith in
    ap (λ (m : ℕ). bit_and m 0x00FF_00FF) e ∙ (cut ∙ rw (and_mask (n / 0x1_0000) 8, and_mask (n % 0x1_0000) 8, low))

-- as in the code
abbrev products : ℕ → ℕ
products n = bit_and n 0x00FF_00FF * (9 * 0x1_0000 + 1) + bit_and (n / 0x100) 0x00FF_00FF * (7 * 0x1_0000 + 3)

pub products_weighed : (n : ℕ) → products n / 0x1_0000 % 0x1_0000 ≡ weighed n
unfolding weighed
products_weighed n =
    let a : ℕ = n % 0x100 in
    let b : ℕ = n / 0x100 % 0x100 in
    let c : ℕ = n / 0x1_0000 % 0x100 in
    let d : ℕ = n / 0x100_0000 % 0x100 in
    let shifted : n / 0x100 / 0x1_0000 ≡ n / 0x100_0000 = omega arith in
    let second : bit_and (n / 0x100) 0x00FF_00FF ≡ d * 0x1_0000 + b = rw (← shifted) (apart (n / 0x100)) in
    let sum : ℕ = a * 9 + b * 7 + c * 1 + d * 3 in
    let all : products n ≡ ((c * 9 + d * 7) * 0x1_0000 + sum) * 0x1_0000 + (a + b * 3) = omega (arith, apart n, second) in
    rw (all, digits_div ((c * 9 + d * 7) * 0x1_0000 + sum) {m = 0x1_0000} {r = a + b * 3} (omega arith)) (digits_mod (c * 9 + d * 7) (omega arith))

pub weighed_small : (n : ℕ) → weighed n ≤ 5100
unfolding weighed
weighed_small n = omega arith

-- ---- thirteen digits in two words

-- as in the code
abbrev eight : ℕ → ℕ → ℕ
eight m n = m / 0x100_0000 * 0x100_0000 + n

less : (x y : ℕ) → x + y < 2 ^ 64 → x < 2 ^ 64
less x y h = omega arith

in_a_word : (x : ℕ) → x < 2 ^ 64 → x % 2 ^ 64 ≡ x
in_a_word x h = omega arith

room : (x high low : ℕ) → x ≡ high * 0x1_0000_0000 + low → high < 0x8000_0000 → low < 0x1_0000_0000 → x + high < 2 ^ 64
room x high low e h k = omega arith

-- nothing is carried out of a word, and each digit comes to its weight
record Folded (m n total : ℕ) : Type 0 where
  pub small : eight m n + eight m n / 0x1_0000_0000 < 2 ^ 64
  pub comes_to : weighed (eight m n + eight m n / 0x1_0000_0000) ≡ 3024 + total

module _ (a b c d e f g h i j k l o : ℕ)
    (small : (a ≤ 9) × (b ≤ 9) × (c ≤ 9) × (d ≤ 9) × (e ≤ 9) × (f ≤ 9) × (g ≤ 9) × (h ≤ 9) × (i ≤ 9) × (j ≤ 9) × (k ≤ 9) × (l ≤ 9) × (o ≤ 9)) where
  folded : (x y z m n : ℕ) → (x < 256) × (y < 256) × (z < 256)
      → m ≡ packed (x ∷ y ∷ z ∷ (48 + a) ∷ (48 + b) ∷ (48 + c) ∷ (48 + d) ∷ (48 + e) ∷ [])
      → n ≡ packed ((48 + f) ∷ (48 + g) ∷ (48 + h) ∷ (48 + i) ∷ (48 + j) ∷ (48 + k) ∷ (48 + l) ∷ (48 + o) ∷ [])
      → Folded m n ((f + j + b) * 9 + (g + k + c) * 7 + (h + l + d) * 1 + (i + a + o + e) * 3)
  unfolding packed
  folded x y z m n bytes p q =
      let five : m / 0x100_0000 ≡ 48 + a + 256 * (48 + b + 256 * (48 + c + 256 * (48 + d + 256 * (48 + e)))) = omega arith in
      let high : ℕ = 96 + j + b + 256 * (96 + k + c + 256 * (96 + l + d + 256 * (96 + o + e))) in
      let low : ℕ = 48 + f + 256 * (48 + g + 256 * (48 + h + 256 * (96 + i + a))) in
      let all : eight m n ≡ high * 0x1_0000_0000 + low = omega arith in
      let upper : eight m n / 0x1_0000_0000 ≡ high = rw all (digits_div high {m = 0x1_0000_0000} {r = low} (omega arith)) in
      record {
        small = rw upper (room (eight m n) high low all (omega arith) (omega arith));
        comes_to = weighed_bytes (144 + f + j + b) (144 + g + k + c) (144 + h + l + d) (192 + i + a + o + e) high (omega arith) (omega (arith, all, upper)) ∙ omega arith;
      }

-- the eight bytes of a word, one by one
word_bytes : {g : List ℕ} {n : ℕ} → Packs g n → n ≡ packed (listed g 0 0 8)
word_bytes {g} p = p.whole ∙ ap packed (sym (take_all 8 g (omega (arith, p.eight))) ∙ listing g 0 0 8 (omega (arith, p.eight)))

module _ (f : List ℕ) {m n check : ℕ} (w : InWords f m n check) (t : T (digits f)) where
  abbrev digit_at : ℕ → ℕ
  digit_at i = get_or f i 0 - 48

  nines : Run (λ i. (get_or f i 0 ≡ 48 + digit_at i) × (digit_at i ≤ 9)) 0 14
  nines =
      run_of (λ i. (get_or f i 0 ≡ 48 + digit_at i) × (digit_at i ≤ 9)) 0 14
      (λ i l b. let d = digit_range (get_or f i 0) (every_at digit f i t (omega (arith, w.long))) in (omega (arith, d), omega (arith, d)))

  spread : f ≡ listed f 0 0 14
  spread = sym (take_all 14 f (omega (arith, w.long))) ∙ listing f 0 0 14 (omega (arith, w.long))

  fronts : Run (λ i. get_or w.begin (3 + i) 0 ≡ get_or f i 0) 0 5
  fronts =
      run_of (λ i. get_or w.begin (3 + i) 0 ≡ get_or f i 0) 0 5
      (λ i l b. sym (get_or-drop 3 w.begin i 0) ∙ (ap (λ (l : List ℕ). get_or l i 0) w.first_five ∙ get_or-take 5 f i 0 (omega arith)))

  backs : Run (λ i. get_or (take 8 (drop 5 f)) i 0 ≡ get_or f (5 + i) 0) 0 8
  backs = run_of (λ i. get_or (take 8 (drop 5 f)) i 0 ≡ get_or f (5 + i) 0) 0 8 (λ i l b. get_or-take 8 (drop 5 f) i 0 (omega arith) ∙ get_or-drop 5 f i 0)

  block_folded : Folded m n (weighted weights (take 13 f))
  unfolding packed weighted
  block_folded =
      let d = digit_at in
      let g = w.begin in
      let front_bytes : m ≡ packed (listed g 0 0 8) = word_bytes w.begins in
      let back_bytes : n ≡ packed (listed (take 8 (drop 5 f)) 0 0 8) = word_bytes w.next_eight in
      let found = folded (d 0) (d 1) (d 2) (d 3) (d 4) (d 5) (d 6) (d 7) (d 8) (d 9) (d 10) (d 11) (d 12) (omega (arith, nines)) (get_or g 0 0) (get_or g 1 0) (get_or g 2 0) m n
      (w.begins.bytes 0, w.begins.bytes 1, w.begins.bytes 2) (omega (arith, front_bytes, fronts, nines)) (omega (arith, back_bytes, backs, nines)) in
      let total : weighted weights (take 13 f) ≡ (d 5 + d 9 + d 1) * 9 + (d 6 + d 10 + d 2) * 7 + (d 7 + d 11 + d 3) * 1 + (d 8 + d 0 + d 12 + d 4) * 3 =
      ap (λ (f : List ℕ). weighted weights (take 13 f)) spread ∙ omega arith in
      rw total found

  -- what the code tests is the rule
  pub block_told : sum_good m n check ≡ block_good f
  unfolding sum_good block_good value_from
  block_told = rw (of_T (digits f) t) (go (eqb (sum % 10) 0) refl)
    where
      sum : ℕ
      sum = weighted weights (take 13 f) + value (take 1 (drop 13 f))

      last_digit : value (take 1 (drop 13 f)) ≡ get_or f 13 0 - 48
      last_digit = ap (λ (f : List ℕ). value (take 1 (drop 13 f))) spread ∙ omega arith

      four : ℕ
      four = eight m n + eight m n / 0x1_0000_0000

      whole : eight m n % 2 ^ 64 ≡ eight m n
      whole = in_a_word (eight m n) (less (eight m n) (eight m n / 0x1_0000_0000) block_folded.small)

      comes : weighed four + check ≡ 3072 + sum
      comes =
          let range = digit_range (get_or f 13 0) (every_at digit f 13 t (omega (arith, w.long))) in
          omega (arith, block_folded.comes_to, last_digit, w.last, range)

      go : (b : Bool) → eqb (sum % 10) 0 ≡ b
          → eqb ((weighed ((eight m n % 2 ^ 64 + eight m n % 2 ^ 64 / 0x1_0000_0000) % 2 ^ 64) + check) % 10) 2 ≡ b
      go b h = rw (whole, in_a_word four block_folded.small) (told b h)
        where
          told : (b : Bool) → eqb (sum % 10) 0 ≡ b → eqb ((weighed four + check) % 10) 2 ≡ b
          told true h = eq-eqb ((weighed four + check) % 10) 2 (omega (arith, comes, eqb-true (sum % 10) 0 h))
          told false h = ne_eqb ((weighed four + check) % 10) 2 (omega (arith, comes, eqb-false (sum % 10) 0 h))
