-- The values of eight digits, each in its byte, joined into numbers of two digits and then of four.
use Rattle.std.proofs.Common.{◌≡◌, ℕ, ◌+◌, ◌-◌, ◌*◌, ◌/◌, ◌%◌, ◌≤◌, T, List, [], ◌∷◌, get_or, take, drop, sym, ap, ◌∙◌, arith, take_all}
use lib.Arith.{digits_div, digits_mod}
use lib.Bits.{bit_and, and_block, and_mask}
use Rattle.paper.specs.Fields.{digit, digits, value, value_from}
use Rattle.paper.proofs.Digits.{digit_range}
use Rattle.paper.proofs.Runs.{Run, run_of}
use Rattle.characters.specs.Words.{packed, Packs}
use Rattle.paper.proofs.Every.{every_at}
use Rattle.characters.proofs.Words.{zeros, listed, listing}

-- as in the code: of neighbours in all places, the mask keeps every other pair
abbrev paired : ℕ → ℕ → ℕ
paired v mask = bit_and (v * 10 + v / 256) mask

-- the two lowest, and the rest
pair : (v a b mask : ℕ) → v % 256 ≤ 9 → a ≤ 9 → b ≤ 9
    → paired ((v * 256 + b) * 256 + a) (mask * 65536 + 255) ≡ paired v mask * 65536 + (a * 10 + b)
pair v a b mask h k l =
    let s : ℕ = (v * 256 + b) * 256 + a in
    let low : ℕ = (b * 10 + v % 256) * 256 + (a * 10 + b) in
    let apart : s * 10 + s / 256 ≡ (v * 10 + v / 256) * 65536 + low = omega arith in
    rw (apart, and_block 16 (v * 10 + v / 256) mask low 255 (omega arith) (omega arith), and_mask low 8) (omega arith)

-- four numbers of two digits become two of four, and there is room for them
pub record Joined (n x y : ℕ) : Type 0 where
  pub room : n ≤ 0x0063_0063_0063_0063
  pub first : (n * 100 + n / 0x1_0000) % 0x1_0000 ≡ x
  pub last : (n * 100 + n / 0x1_0000) / 0x1_0000_0000 % 0x1_0000 ≡ y

joined : (a b c d : ℕ) {n : ℕ} → (a ≤ 99) × (b ≤ 99) × (c ≤ 99) × (d ≤ 99) → n ≡ ((d * 65536 + c) * 65536 + b) * 65536 + a
    → Joined n (a * 100 + b) (c * 100 + d)
joined a b c d {n} h e =
    let low : ℕ = (b * 100 + c) * 65536 + (a * 100 + b) in
    let high : ℕ = d * 100 * 65536 + (c * 100 + d) in
    let sum : n * 100 + n / 0x1_0000 ≡ high * 0x1_0000_0000 + low = omega arith in
    record {
      room = omega arith;
      first = rw sum (omega arith);
      last = rw (sum, digits_div high {m = 0x1_0000_0000} {r = low} (omega arith)) (digits_mod (d * 100) (omega arith));
    }

abbrev pub Halved : ℕ → ℕ → ℕ → Type 0
Halved n x y = (zeros ≤ n) × (n - zeros ≤ 0x0909_0909_0909_0909) × Joined (paired (n - zeros) 0x00FF_00FF_00FF_00FF) x y

module _ (a b c d e f g h : ℕ) (small : (a ≤ 9) × (b ≤ 9) × (c ≤ 9) × (d ≤ 9) × (e ≤ 9) × (f ≤ 9) × (g ≤ 9) × (h ≤ 9)) where
  pairs : paired (packed (a ∷ b ∷ c ∷ d ∷ e ∷ f ∷ g ∷ h ∷ [])) 0x00FF_00FF_00FF_00FF
      ≡ (((g * 10 + h) * 65536 + (e * 10 + f)) * 65536 + (c * 10 + d)) * 65536 + (a * 10 + b)
  unfolding packed
  pairs =
      rw (
        pair (packed (c ∷ d ∷ e ∷ f ∷ g ∷ h ∷ [])) a b 0xFF_00FF_00FF (omega arith) (omega arith) (omega arith),
        pair (packed (e ∷ f ∷ g ∷ h ∷ [])) c d 0xFF_00FF (omega arith) (omega arith) (omega arith),
        pair (packed (g ∷ h ∷ [])) e f 0xFF (omega arith) (omega arith) (omega arith),
        pair 0 g h 0 (omega arith) (omega arith) (omega arith),
      ) (omega arith)

  halved : (n : ℕ) → n ≡ zeros + packed (a ∷ b ∷ c ∷ d ∷ e ∷ f ∷ g ∷ h ∷ [])
      → Halved n ((((0 + a) * 10 + b) * 10 + c) * 10 + d) ((((0 + e) * 10 + f) * 10 + g) * 10 + h)
  unfolding packed
  halved n q =
      let values : n - zeros ≡ packed (a ∷ b ∷ c ∷ d ∷ e ∷ f ∷ g ∷ h ∷ []) = omega arith in
      let left : (((0 + a) * 10 + b) * 10 + c) * 10 + d ≡ (a * 10 + b) * 100 + (c * 10 + d) = omega arith in
      let right : (((0 + e) * 10 + f) * 10 + g) * 10 + h ≡ (e * 10 + f) * 100 + (g * 10 + h) = omega arith in
      rw (left, right)
      (omega arith, omega arith, joined (a * 10 + b) (c * 10 + d) (e * 10 + f) (g * 10 + h) (omega arith) (rw values pairs))

module _ {f : List ℕ} {n : ℕ} (p : Packs f n) (t : T (digits f)) where
  abbrev d : ℕ → ℕ
  d i = get_or f i 0 - 48

  nines : Run (λ i. (get_or f i 0 ≡ 48 + d i) × (d i ≤ 9)) 0 8
  nines =
      run_of (λ i. (get_or f i 0 ≡ 48 + d i) × (d i ≤ 9)) 0 8
      (λ i l h. let r = digit_range (get_or f i 0) (every_at digit f i t (omega arith)) in (omega arith, omega arith))

  spread : f ≡ listed f 0 0 8
  spread = sym (take_all 8 f (omega arith)) ∙ listing f 0 0 8 (omega arith)

  values : n ≡ zeros + packed (d 0 ∷ d 1 ∷ d 2 ∷ d 3 ∷ d 4 ∷ d 5 ∷ d 6 ∷ d 7 ∷ [])
  unfolding packed
  values = p.whole ∙ (ap packed spread ∙ omega (arith, nines))

  pub halves_of : Halved n (value (take 4 f)) (value (drop 4 f))
  unfolding value_from
  halves_of =
      rw (ap (λ (l : List ℕ). value (take 4 l)) spread, ap (λ (l : List ℕ). value (drop 4 l)) spread)
      (halved (d 0) (d 1) (d 2) (d 3) (d 4) (d 5) (d 6) (d 7) (omega (arith, nines)) n values)
