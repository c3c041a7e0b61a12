-- Records of one length, joined and cut; a record under another number.
use Prim.Native.Nat.{ℕ, zero, suc, ◌+◌, ◌-◌, ◌*◌, ◌≤◌, ◌<◌, ◌/◌, ◌%◌}
use native.Mathlib.Nat.{zero-add, suc-add, suc-mul, zero-mul, mul-div_cancel}
use native.Mathlib.Omega.{arith}
use mathlib.Core.List.{[], List, ◌∷◌, ◌++◌, append_assoc}
use mathlib.Core.Path.{◌≡◌, refl, sym, ap, ◌∙◌, ap₂}
use lib.ListN.{length, get_or, set, take, drop, length-append, take-append-drop, length-drop}
use lib.Seq.{length-take-le, take_at, drop_at, drop-drop, take-append-le, drop-append-le, get_or-take, get_or-drop, take-set-lt, take-set-le, drop-set-lt, drop-set-add}
use Rattle.paper.specs.Fields.{field}
use Rattle.paper.specs.Kinds.{kind_of}
use Rattle.paper.specs.Reading.{parts}
use Rattle.paper.specs.Writing.{spelled, joined, numbered}

-- ---- records of one length

abbrev pub Sized : ℕ → List (List ℕ) → Type 0
Sized w [] = Unit {0}
Sized w (r ∷ rs) = (length r ≡ w) × Sized w rs

pub sized_append : (w : ℕ) (a b : List (List ℕ)) → Sized w a → Sized w b → Sized w (a ++ b)
sized_append w [] b p q = q
sized_append w (r ∷ a) b p q = (p.0, sized_append w a b p.1 q)

pub joined_append : (a b : List (List ℕ)) → joined (a ++ b) ≡ joined a ++ joined b
unfolding joined
joined_append [] b = refl
joined_append (r ∷ a) b = ap (λ (l : List ℕ). r ++ l) (joined_append a b) ∙ sym (append_assoc r (joined a) (joined b))

pub length_joined : (w : ℕ) (rs : List (List ℕ)) → Sized w rs → length (joined rs) ≡ length rs * w
unfolding joined
length_joined w [] s = sym (zero-mul w)
length_joined w (r ∷ rs) s = length-append r (joined rs) ∙ ap₂ ◌+◌ s.0 (length_joined w rs s.1) ∙ omega (arith, suc-mul (length rs) w)

pub parts_joined : (w : ℕ) (rs : List (List ℕ)) → Sized w rs → parts w (length rs) (joined rs) ≡ rs
unfolding joined parts
parts_joined w [] s = refl
parts_joined w (r ∷ rs) s = λ i. take_at r (joined rs) w s.0 i ∷ (ap (parts w (length rs)) (drop_at r (joined rs) w s.0) ∙ parts_joined w rs s.1) i

-- a file made of records is cut into them again
pub records_joined : (w : ℕ) (rs : List (List ℕ)) → 0 < w → Sized w rs → parts w (length (joined rs) / w) (joined rs) ≡ rs
records_joined w rs h s = rw (length_joined w rs s, mul-div_cancel (length rs) h) (parts_joined w rs s)

pub joined_parts : (w n : ℕ) (l : List ℕ) → length l ≡ n * w → joined (parts w n l) ≡ l
unfolding joined parts
joined_parts w zero [] h = refl
joined_parts w zero (x ∷ l) h = absurd (omega (arith, zero-mul w))
joined_parts w (suc n) l h = ap (λ (k : List ℕ). take w l ++ k) (joined_parts w n (drop w l) (length-drop w l ∙ omega (arith, suc-mul n w))) ∙ take-append-drop w l

pub length_parts : (w n : ℕ) (l : List ℕ) → length (parts w n l) ≡ n
unfolding parts
length_parts w zero l = refl
length_parts w (suc n) l = ap suc (length_parts w n (drop w l))

pub sized_parts : (w n : ℕ) (l : List ℕ) → n * w ≤ length l → Sized w (parts w n l)
unfolding parts
sized_parts w zero l h = tt
sized_parts w (suc n) l h =
    (length-take-le w l (omega (arith, suc-mul n w)), sized_parts w n (drop w l) (omega (arith, length-drop w l, suc-mul n w)))

-- some parts, and those behind them
pub parts_add : (w n m : ℕ) (l : List ℕ) → parts w (n + m) l ≡ parts w n l ++ parts w m (drop (n * w) l)
unfolding parts
parts_add w zero m l = rw (zero-add m, zero-mul w) refl
parts_add w (suc n) m l =
    let e : w + n * w ≡ suc n * w = omega (arith, suc-mul n w) in
    let rest : drop (n * w) (drop w l) ≡ drop (suc n * w) l = drop-drop (n * w) w l ∙ ap (λ (k : ℕ). drop k l) e in
    rw (suc-add n m) (ap (λ (rs : List (List ℕ)). take w l ∷ rs) (parts_add w n m (drop w l) ∙ ap (λ (x : List ℕ). parts w n (drop w l) ++ parts w m x) rest))

-- of a text that goes on
pub parts_front : (w n : ℕ) (a b : List ℕ) → n * w ≤ length a → parts w n (a ++ b) ≡ parts w n a
unfolding parts
parts_front w zero a b h = refl
parts_front w (suc n) a b h =
    let l : w ≤ length a = omega (arith, suc-mul n w) in
    rw (take-append-le w a b l, drop-append-le w a b l)
    (ap (λ (rs : List (List ℕ)). take w a ∷ rs) (parts_front w n (drop w a) b (omega (arith, length-drop w a, suc-mul n w))))

-- of two texts joined, the first of whole parts
pub parts_append : (w n m : ℕ) (a b : List ℕ) → length a ≡ n * w → parts w (n + m) (a ++ b) ≡ parts w n a ++ parts w m b
parts_append w n m a b h =
    parts_add w n m (a ++ b) ∙ ap₂ ◌++◌ (parts_front w n a b (omega arith)) (ap (parts w m) (drop_at a b (n * w) h))

-- ---- numbers in records

pub length_spelled : (w n : ℕ) → length (spelled w n) ≡ w
unfolding spelled
length_spelled zero n = refl
length_spelled (suc w) n = length-append (spelled w (n / 10)) ((48 + n % 10) ∷ []) ∙ omega (arith, length_spelled w (n / 10))

pub length_numbered : (n : ℕ) (r : List ℕ) → 87 ≤ length r → length (numbered n r) ≡ 94
unfolding numbered
length_numbered n r h = length-append (take 87 r) (spelled 7 n) ∙ omega (arith, length-take-le 87 r h, length_spelled 7 n)

pub kind_numbered : (n : ℕ) (r : List ℕ) → 87 ≤ length r → kind_of (numbered n r) ≡ kind_of r
unfolding numbered kind_of
kind_numbered n [] h = absurd (omega arith)
kind_numbered n (x ∷ r) h = refl

-- the first 87 positions of a numbered record are the record's own
pub front_numbered : (n : ℕ) (r : List ℕ) → 87 ≤ length r → take 87 (numbered n r) ≡ take 87 r
unfolding numbered
front_numbered n r h = take_at (take 87 r) (spelled 7 n) 87 (length-take-le 87 r h)

-- a field of one byte
pub one_of : (r : List ℕ) (i : ℕ) → i < length r → take 1 (drop i r) ≡ get_or r i 0 ∷ []
one_of [] i h = absurd (omega arith)
one_of (x ∷ r) zero h = refl
one_of (x ∷ r) (suc i) h = one_of r i (omega arith)

-- ---- positions

-- a position of a record, in a field of it
pub field_at : (r : List ℕ) (first last p : ℕ) → 1 ≤ first → first ≤ p → p ≤ last → get_or (field r first last) (p - first) 0 ≡ get_or r (p - 1) 0
field_at r first last p h k l =
    let e : first - 1 + (p - first) ≡ p - 1 = omega arith in
    get_or-take (last + 1 - first) (drop (first - 1) r) (p - first) 0 (omega arith) ∙ (get_or-drop (first - 1) r (p - first) 0 ∙ ap (λ (i : ℕ). get_or r i 0) e)

-- ---- one byte changed

-- in one part, and the parts beside it stay
pub parts_set : (w n k i d : ℕ) (l : List ℕ) → k < n → i < w
    → parts w n (set l (k * w + i) d) ≡ take k (parts w n l) ++ set (take w (drop (k * w) l)) i d ∷ drop (suc k) (parts w n l)
unfolding parts
parts_set w zero k i d l h m = absurd (omega arith)
parts_set w (suc n) zero i d l h m =
    let e : 0 * w + i ≡ i = omega (arith, zero-mul w) in
    rw (e, zero-mul w, take-set-lt w l i d m, drop-set-lt w l i d m)
parts_set w (suc n) (suc k) i d l h m =
    let e : suc k * w + i ≡ w + (k * w + i) = omega (arith, suc-mul k w) in
    let f : w + k * w ≡ suc k * w = omega (arith, suc-mul k w) in
    let rest = parts_set w n k i d (drop w l) (omega arith) m in
    rw (e, take-set-le w l (w + (k * w + i)) d (omega arith), drop-set-add w l (k * w + i) d, rest, drop-drop (k * w) w l, f)
