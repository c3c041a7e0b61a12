-- Eight bytes as one number: a mask and a test work on each byte apart.
use Rattle.std.proofs.Common.{◌≡◌, ℕ, zero, suc, ◌+◌, ◌-◌, ◌*◌, ◌/◌, ◌%◌, ◌^◌, ◌<◌, ◌≤◌, Bool, true, false, Some, None, cond, not, ◌&&◌, T, eqb, ltb, leb, List, [], ◌∷◌, length, get_or, take, drop, replicate, sym, refl, ap, ◌∙◌, ap₂, add-zero, add-suc, arith, length-drop, length-take, length-take-le, get_or-drop, drop-cons, ltb-false, ltb-true, eq-eqb, ne_eqb, eqb-true, le-leb, leb-false, leb-true}
use borrow.Author.Tests.{eqb-false}
use lib.Bits.{bit_and, bit_or, and_block, and_high, and_le_l, and_zero_r, or_self}
use Rattle.paper.specs.Fields.{bytes, field, every, digit, digits, blank, value, same, is}
use Rattle.paper.proofs.Tests.{and_l, and_r, T_of, of_T}
use Rattle.paper.proofs.Digits.{every_l, every_r}
use Rattle.characters.specs.Part.{HasField}
use Rattle.characters.proofs.Part.{parted}
use Rattle.characters.specs.Words.{numeral_if, numeral_of, packed, Packs}

-- the constants of the code
abbrev pub zeros : ℕ
zeros = 0x3030_3030_3030_3030

abbrev pub highs : ℕ
highs = 0xF0F0_F0F0_F0F0_F0F0

abbrev pub sixes : ℕ
sixes = 0x0606_0606_0606_0606

abbrev pub blanks : ℕ
blanks = 0x2020_2020_2020_2020

-- the lowest byte of two numbers, and the rest
module _ (x b y c : ℕ) (h : b < 256) (k : c < 256) where
  byte_and : bit_and (x * 256 + b) (y * 256 + c) ≡ bit_and x y * 256 + bit_and b c
  byte_and = and_block 8 x y b c h k

  byte_eqb : eqb (x * 256 + b) (y * 256 + c) ≡ (eqb b c && eqb x y)
  byte_eqb = go (eqb b c) (eqb x y) refl refl
    where
      go : (p q : Bool) → eqb b c ≡ p → eqb x y ≡ q → eqb (x * 256 + b) (y * 256 + c) ≡ (p && q)
      go true true d e = eq-eqb (x * 256 + b) (y * 256 + c) (omega (arith, eqb-true b c d, eqb-true x y e))
      go true false d e = ne_eqb (x * 256 + b) (y * 256 + c) (omega (arith, eqb-false x y e))
      go false q d e = ne_eqb (x * 256 + b) (y * 256 + c) (omega (arith, eqb-false b c d))

upper : (b : ℕ) → b < 256 → bit_and b 240 ≡ b / 16 * 16
upper b h = and_high b 4 4 ∙ omega arith

-- of the bytes from 0 on, the digits are those whose value, and six more, leave the upper half empty
six_more : (b : ℕ) → 48 ≤ b → b < 256 → (eqb (bit_and (b - 48) 240) 0 && eqb (bit_and (b - 48 + 6) 240) 0) ≡ digit b
unfolding digit
six_more b h k = let v = upper (b - 48) (omega arith) in let u = upper (b - 48 + 6) (omega arith) in rw (le-leb 48 b h) (go v u (leb b 57) refl)
  where
    go : bit_and (b - 48) 240 ≡ (b - 48) / 16 * 16 → bit_and (b - 48 + 6) 240 ≡ (b - 48 + 6) / 16 * 16 → (p : Bool) → leb b 57 ≡ p
        → (eqb (bit_and (b - 48) 240) 0 && eqb (bit_and (b - 48 + 6) 240) 0) ≡ p
    go v u true d =
        ap₂ ◌&&◌ (eq-eqb (bit_and (b - 48) 240) 0 (omega (arith, leb-true b 57 d))) (eq-eqb (bit_and (b - 48 + 6) 240) 0 (omega (arith, leb-true b 57 d)))
    go v u false d = both (eqb (bit_and (b - 48) 240) 0) refl
      where
        both : (q : Bool) → eqb (bit_and (b - 48) 240) 0 ≡ q → (q && eqb (bit_and (b - 48 + 6) 240) 0) ≡ false
        both true e = ne_eqb (bit_and (b - 48 + 6) 240) 0 (omega (arith, leb-false b 57 d, eqb-true (bit_and (b - 48) 240) 0 e))
        both false e = refl

abbrev Bytes : List ℕ → Type 0
Bytes f = (i : ℕ) → get_or f i 0 < 256

-- one byte as often as the text has bytes
abbrev each : ℕ → List ℕ → ℕ
each b f = packed (replicate (length f) b)

-- what a sum or a difference of so many bytes is out by, where it wraps
abbrev wrapped : Bool → ℕ → ℕ
wrapped k zero = cond k 1 0
wrapped k (suc n) = wrapped k n * 256

and_across : (a b c d : Bool) → ((a && c) && (b && d)) ≡ ((a && b) && (c && d))
and_across true b true d = refl
and_across true true false d = refl
and_across true false false d = refl
and_across false b c d = refl

-- the lowest byte of a number is tested, and the rest
low_test : (w c mask : ℕ) → c < 256 → w ≡ w / 256 * 256 + c → eqb (bit_and w (mask * 256 + 240)) 0 ≡ (eqb (bit_and c 240) 0 && eqb (bit_and (w / 256) mask) 0)
low_test w c mask h e =
    ap (λ (n : ℕ). eqb (bit_and n (mask * 256 + 240)) 0) e
    ∙ (ap (λ (n : ℕ). eqb n 0) (byte_and (w / 256) c mask 240 h (omega arith))
    ∙ byte_eqb (bit_and (w / 256) mask) (bit_and c 240) 0 0 (omega (arith, and_le_l c 240)) (omega arith))

tested : (f : List ℕ) (k m : Bool) (v u : ℕ) → Bytes f
    → v + each 48 f ≡ packed f + wrapped k (length f) → v < wrapped true (length f) → u + wrapped m (length f) ≡ v + each 6 f
    → (eqb (bit_and v (each 240 f)) 0 && eqb (bit_and u (each 240 f)) 0) ≡ digits f
unfolding packed every digit
tested [] k m v u h e l d = rw (and_zero_r v, and_zero_r u)
tested (b ∷ f) k m v u h e l d =
    go (leb 48 b) refl (λ low. tested f k m (v / 256) (u / 256) (λ i. h (suc i)) (omega (arith, h 0)) (omega arith) (omega (arith, h 0)))
  where
    mask : ℕ
    mask = each 240 f

    go : (p : Bool) → leb 48 b ≡ p → (48 ≤ b → (eqb (bit_and (v / 256) mask) 0 && eqb (bit_and (u / 256) mask) 0) ≡ digits f)
        → (eqb (bit_and v (mask * 256 + 240)) 0 && eqb (bit_and u (mask * 256 + 240)) 0) ≡ (digit b && digits f)
    go true q rest =
        let low : 48 ≤ b = leb-true 48 b q in
        let byte : b < 256 = h 0 in
        ap₂ ◌&&◌ (low_test v (b - 48) mask (omega arith) (omega arith)) (low_test u (b - 48 + 6) mask (omega arith) (omega arith))
        ∙ (and_across (eqb (bit_and (b - 48) 240) 0) (eqb (bit_and (b - 48 + 6) 240) 0) (eqb (bit_and (v / 256) mask) 0) (eqb (bit_and (u / 256) mask) 0)
        ∙ ap₂ ◌&&◌ (six_more b low byte) (rest low))
    go false q rest =
        let low : b < 48 = leb-false 48 b q in
        let shown : eqb (bit_and (b + 208) 240) 0 ≡ false = ne_eqb (bit_and (b + 208) 240) 0 (omega (arith, upper (b + 208) (omega arith))) in
        rw (low_test v (b + 208) mask (omega arith) (omega arith), shown, q)

-- as the code tests them
pub whether_digits : {f : List ℕ} {n : ℕ} → Packs f n → (v u : ℕ) → v < 2 ^ 64 → (v + zeros) % 2 ^ 64 ≡ n → u ≡ (v + sixes) % 2 ^ 64
    → (eqb (bit_and v highs) 0 && eqb (bit_and u highs) 0) ≡ digits f
unfolding packed
whether_digits {f} {n} p v u l e d = go (ltb (v + zeros) (2 ^ 64)) refl (ltb (v + sixes) (2 ^ 64)) refl
  where
    go : (k : Bool) → ltb (v + zeros) (2 ^ 64) ≡ k → (m : Bool) → ltb (v + sixes) (2 ^ 64) ≡ m → (eqb (bit_and v highs) 0 && eqb (bit_and u highs) 0) ≡ digits f
    go k q m s =
        rw (p.eight, ← p.whole) at (tested f (not k) (not m) v u p.bytes) (below k q) l (carry m s)
      where
        below : (k : Bool) → ltb (v + zeros) (2 ^ 64) ≡ k → v + zeros ≡ n + wrapped (not k) 8
        below true q = let b = ltb-true (v + zeros) (2 ^ 64) q in omega arith
        below false q = let b = ltb-false (v + zeros) (2 ^ 64) q in omega arith

        carry : (m : Bool) → ltb (v + sixes) (2 ^ 64) ≡ m → u + wrapped (not m) 8 ≡ v + sixes
        carry true s = let b = ltb-true (v + sixes) (2 ^ 64) s in omega arith
        carry false s = let b = ltb-false (v + sixes) (2 ^ 64) s in omega arith

compared : (f g : List ℕ) → Bytes f → Bytes g → length f ≡ length g → eqb (packed f) (packed g) ≡ same f g
unfolding packed same
compared [] [] h k e = refl
compared [] (c ∷ g) h k e = absurd (omega arith)
compared (b ∷ f) [] h k e = absurd (omega arith)
compared (b ∷ f) (c ∷ g) h k e =
    byte_eqb (packed f) b (packed g) c (h 0) (k 0)
    ∙ ap (λ (q : Bool). eqb b c && q) (compared f g (λ i. h (suc i)) (λ i. k (suc i)) (omega arith))

pub packs_same : {f g : List ℕ} {m n : ℕ} → Packs f m → Packs g n → eqb m n ≡ same f g
packs_same {f} {g} p q = rw (p.whole, q.whole) (compared f g p.bytes q.bytes (p.eight ∙ sym q.eight))

part_bytes : (n at : ℕ) (r : List ℕ) → Bytes r → Bytes (take n (drop at r))
part_bytes n at r h = go n (drop at r) (λ i. rw get_or-drop (h (at + i)))
  where
    go : (n : ℕ) (f : List ℕ) → Bytes f → Bytes (take n f)
    go zero f h i = omega arith
    go (suc n) [] h i = omega arith
    go (suc n) (b ∷ f) h zero = h 0
    go (suc n) (b ∷ f) h (suc i) = go n f (λ j. h (suc j)) i

zero_bytes_lem : Bytes (bytes "000")
zero_bytes_lem zero = omega arith
zero_bytes_lem (suc zero) = omega arith
zero_bytes_lem (suc (suc zero)) = omega arith
zero_bytes_lem (suc (suc (suc i))) = omega arith

-- the lowest three bytes are the first three
low_three : (f : List ℕ) → Bytes f → 3 ≤ length f → packed f % 0x100_0000 ≡ packed (take 3 f)
unfolding packed
low_three [] h l = absurd (omega arith)
low_three (a ∷ []) h l = absurd (omega arith)
low_three (a ∷ b ∷ []) h l = absurd (omega arith)
low_three (a ∷ b ∷ c ∷ f) h l = omega (arith, h 0, h 1, h 2)

pub three_lowest : {f : List ℕ} {n : ℕ} → Packs f n → eqb (n % 0x100_0000) 0x30_3030 ≡ is (take 3 f) "000"
unfolding packed
three_lowest {f} {n} p =
    let three : n % 0x100_0000 ≡ packed (take 3 f) = ap (λ (m : ℕ). m % 0x100_0000) p.whole ∙ low_three f p.bytes (omega (arith, p.eight)) in
    ap (λ (m : ℕ). eqb m 0x30_3030) three ∙ compared (take 3 f) (bytes "000") (part_bytes 3 0 f p.bytes) zero_bytes_lem (length-take-le 3 f (omega (arith, p.eight)))

-- ---- blanks

packed_blanks : (f : List ℕ) → T (blank f) → packed f ≡ each 32 f
unfolding packed every
packed_blanks [] t = refl
packed_blanks (b ∷ f) t =
    let e : 32 ≡ b = eqb-true 32 b (of_T (eqb 32 b) (and_l (eqb 32 b) (blank f) t)) in
    let rest = packed_blanks f (and_r (eqb 32 b) (blank f) t) in omega arith

packs_blanks : {f : List ℕ} {n : ℕ} → Packs f n → T (blank f) → n ≡ blanks
unfolding packed
packs_blanks {f} p t = p.whole ∙ (rw p.eight at (packed_blanks f t))

-- a field has a text where its first eight bytes or its last eight have one
module _ (r : List ℕ) (first last : ℕ) (h : HasField r first last) (k : first + 7 ≤ last) where
  pub text_at_end : {front back : ℕ} → Packs (field r first (first + 7)) front → Packs (field r (last - 7) last) back
      → (bit_or front back ≡ blanks → ⊥) → false ≡ blank (field r first last)
  text_at_end p q o = go (blank (field r first last)) refl
    where
      go : (b : Bool) → blank (field r first last) ≡ b → false ≡ b
      go true e =
          let at : last - 8 + 1 ≡ last - 7 = omega arith in
          let begins = parted r first (first + 7) last h.0 (omega arith) k in
          let ends = parted r first (last - 8) last h.0 (omega arith) (omega arith) in
          let first_blank = packs_blanks p (every_l (eqb 32) (field r first (first + 7)) (field r (first + 7 + 1) last) (rw begins at (T_of e))) in
          let last_blank = packs_blanks q (rw at at (every_r (eqb 32) (field r first (last - 8)) (field r (last - 8 + 1) last) (rw ends at (T_of e)))) in
          absurd (o (rw (first_blank, last_blank) (or_self blanks)))
      go false e = refl

-- n bytes of a record, one by one
abbrev pub listed : List ℕ → ℕ → ℕ → ℕ → List ℕ
listed r at i zero = []
listed r at i (suc n) = get_or r (at + i) 0 ∷ listed r at (suc i) n

pub listing : (r : List ℕ) (at i n : ℕ) → at + i + n ≤ length r → take n (drop (at + i) r) ≡ listed r at i n
listing r at i zero h = refl
listing r at i (suc n) h =
    let rest = listing r at (suc i) n (omega arith) in
    rw (drop-cons r (at + i) 0 (omega arith), ← add-suc) (ap (λ (l : List ℕ). get_or r (at + i) 0 ∷ l) rest)

pub packs_field : (r : List ℕ) (first last n : ℕ) → HasField r first last → last ≡ first + 7 → Bytes r
    → n ≡ packed (get_or r (first - 1) 0 ∷ listed r (first - 1) 1 7) → Packs (field r first last) n
packs_field r first last n h e k q =
    let at = first - 1 in
    let eight : last + 1 - first ≡ 8 = omega arith in
    rw eight record {
      eight = simp (length-take, length-drop) (omega arith);
      bytes = part_bytes 8 at r k;
      whole = q ∙ ap packed (sym (simp add-zero at (listing r at 0 8 (omega arith))));
    }

-- the answer, from whether they are digits, and back
module _ (f : List ℕ) where
  pub is_digits : {a b : ℕ} → digits f ≡ true → a ≡ value (take 4 f) → b ≡ value (drop 4 f) → Some (a, b) ≡ numeral_of f
  unfolding numeral_of numeral_if
  is_digits e p q = rw (e, p, q)

  pub is_none : digits f ≡ false → None ≡ numeral_of f
  unfolding numeral_of numeral_if
  is_none e = rw e

  pub told_digits : {a b : ℕ} → numeral_of f ≡ Some (a, b) → (digits f ≡ true) × (value (take 4 f) ≡ a) × (value (drop 4 f) ≡ b)
  unfolding numeral_of numeral_if
  told_digits {a} {b} = go (digits f)
    where
      go : (q : Bool) → numeral_if q f ≡ Some (a, b) → (q ≡ true) × (value (take 4 f) ≡ a) × (value (drop 4 f) ≡ b)
      go true e = let p : ◌≡◌ {A = ℕ × ℕ} (value (take 4 f), value (drop 4 f)) (a, b) = cc in (refl, ap (λ (k : ℕ × ℕ). k.0) p, ap (λ (k : ℕ × ℕ). k.1) p)
      go false e = let z : ◌≡◌ {A = ℕ} 0 1 = cc in absurd (omega arith)

  pub told_none : numeral_of f ≡ None → digits f ≡ false
  unfolding numeral_of numeral_if
  told_none = go (digits f)
    where
      go : (q : Bool) → numeral_if q f ≡ None → q ≡ false
      go true e = let z : ◌≡◌ {A = ℕ} 0 1 = cc in absurd (omega arith)
      go false e = refl
