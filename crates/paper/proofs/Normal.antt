-- A record as it would be built, and that the controls which were read are those that are built.
use Prim.Native.Nat.{ℕ, suc, ◌+◌, ◌≤◌, ◌%◌, ◌^◌}
use native.Mathlib.Omega.{arith}
use mathlib.Core.Bool.{Bool, true, false, cond}
use mathlib.Core.List.{[], List, ◌∷◌, ◌++◌, append_assoc}
use mathlib.Core.Path.{◌≡◌, refl, sym, ap, ◌∙◌, ap₂}
use lib.Dec.{eqb, T, eqb→eq}
use lib.ListN.{length, get_or, take, drop, length-append, take-append-drop, length-take, length-drop, length-replicate}
use lib.Seq.{take_all, length-take-le, take_at, drop_at, take-append-le, take-add, drop-append-le}
use Rattle.paper.specs.declared.record.Kind.{Kind}
use Rattle.paper.specs.declared.record.Kind.TheVariants.{FileHeader, BatchHeader, Individual, Additional, BatchControl, FileControl, Other}
use Rattle.paper.specs.Fields.{bytes, field, spells}
use Rattle.paper.specs.Kinds.{kind, kind_of, code_of}
use Rattle.paper.specs.Records.{amount_of}
use Rattle.paper.specs.declared.record.Tally.{Tally}
use Rattle.paper.specs.Controls.{with_individual, blocks}
use Rattle.paper.specs.Writing.{spelled, blanks, numbered, batch_control_of, file_control_of}
use Rattle.paper.specs.Trays.{batches_after, individuals_after, zeroed}
use Rattle.paper.specs.Demands.{Tidy}
use Rattle.paper.proofs.Tests.{T_of, same→eq}
use Rattle.paper.proofs.Lists.{length_spelled, one_of}
use Rattle.paper.proofs.Digits.{spells_spelled, spelled_mod}
use Rattle.paper.proofs.Accepted.{ControlRead, TotalRead}

-- ---- the record as it would be built, b batches and n individuals being before it

unfoldable pub normal : Kind → ℕ → ℕ → List ℕ → List ℕ
normal FileHeader b n r = r
normal BatchHeader b n r = numbered (suc b) r
normal Individual b n r = numbered (suc n) r
normal Additional b n r = numbered n r
normal BatchControl b n r = take 54 r ++ blanks 25 ++ field r 80 87 ++ spelled 7 b
normal FileControl b n r = take 55 r ++ blanks 39
normal Other b n r = r

unfoldable pub normals : ℕ → ℕ → List (List ℕ) → List (List ℕ)
normals b n [] = []
normals b n (r ∷ rs) = normal (kind_of r) b n r ∷ normals (batches_after (kind_of r) b) (individuals_after (kind_of r) n) rs

-- ---- fields under a changed tail

pub field_front : (a m : ℕ) (r x : List ℕ) → a + m ≤ 87 → 87 ≤ length r → take m (drop a (take 87 r ++ x)) ≡ take m (drop a r)
field_front a m r x h l =
    let lt : length (take 87 r) ≡ 87 = length-take-le 87 r l in
    ap (take m) (drop-append-le a (take 87 r) x (omega arith))
    ∙ take-append-le m (drop a (take 87 r)) x (rw length-drop (omega arith))
    ∙ sym (take-append-le m (drop a (take 87 r)) (drop 87 r) (rw length-drop (omega arith)))
    ∙ ap (take m) (sym (drop-append-le a (take 87 r) (drop 87 r) (omega arith)) ∙ ap (drop a) (take-append-drop 87 r))

pub numbered_zeroed : (n : ℕ) (r : List ℕ) → length r ≡ 94 → numbered n (zeroed r) ≡ numbered n r
unfolding numbered zeroed
numbered_zeroed n r l = ap (λ (x : List ℕ). x ++ spelled 7 n) (field_front 0 87 r (bytes "0000000") (omega arith) (omega arith))

pub with_individual_numbered : (t : Tally) (n : ℕ) (r : List ℕ) → length r ≡ 94 → with_individual t (numbered n r) ≡ with_individual t r
unfolding with_individual numbered code_of amount_of
with_individual_numbered t n r l =
    let z : List ℕ = spelled 7 n in
    rw (field_front 3 8 r z (omega arith) (omega arith), field_front 1 2 r z (omega arith) (omega arith), field_front 29 10 r z (omega arith) (omega arith)) refl

-- ---- a record is as it would be built exactly when it is tidy

pub numbered_of : (m : ℕ) (r : List ℕ) → length r ≡ 94 → field r 88 94 ≡ spelled 7 m → numbered m r ≡ r
unfolding numbered
numbered_of m r l e = ap (λ (x : List ℕ). take 87 r ++ x) (sym e ∙ take_all 7 (drop 87 r) (rw length-drop (omega arith))) ∙ take-append-drop 87 r

pub field_numbered : (m : ℕ) (r : List ℕ) → 87 ≤ length r → field (numbered m r) 88 94 ≡ spelled 7 m
unfolding numbered
field_numbered m r l = ap (take 7) (drop_at (take 87 r) (spelled 7 m) 87 (length-take-le 87 r l)) ∙ take_all 7 (spelled 7 m) (omega (arith, length_spelled 7 m))

pub of_numbered : (m : ℕ) (r : List ℕ) → length r ≡ 94 → numbered m r ≡ r → field r 88 94 ≡ spelled 7 m
of_numbered m r l e = ap (λ (x : List ℕ). field x 88 94) (sym e) ∙ field_numbered m r (omega arith)

pub cut_control : (r : List ℕ) → length r ≡ 94 → r ≡ take 54 r ++ field r 55 79 ++ field r 80 87 ++ field r 88 94
cut_control r l =
    sym (take_all 94 r (omega arith)) ∙ take-add 87 7 r
    ∙ ap (λ (x : List ℕ). x ++ take 7 (drop 87 r)) (take-add 79 8 r ∙ ap (λ (x : List ℕ). x ++ take 8 (drop 79 r)) (take-add 54 25 r))

pub middle_blank : (a c d : List ℕ) → length a ≡ 54 → take 25 (drop 54 (a ++ blanks 25 ++ c ++ d)) ≡ blanks 25
unfolding blanks
middle_blank a c d l =
    ap (λ (x : List ℕ). take 25 (drop 54 x)) (append_assoc (a ++ blanks 25) c d ∙ append_assoc a (blanks 25) (c ++ d))
    ∙ ap (take 25) (drop_at a (blanks 25 ++ (c ++ d)) 54 l)
    ∙ take_at (blanks 25) (c ++ d) 25 refl

pub end_of : (a c d : List ℕ) → length a ≡ 54 → length c ≡ 8 → length d ≡ 7 → take 7 (drop 87 (a ++ blanks 25 ++ c ++ d)) ≡ d
unfolding blanks
end_of a c d l m n =
    ap (take 7) (drop_at (a ++ blanks 25 ++ c) d 87 (simp (length-append, l, m))) ∙ take_all 7 d (omega arith)

pub tidy_normal : (k : Kind) (b n : ℕ) (r : List ℕ) → length r ≡ 94 → Tidy k b n r → normal k b n r ≡ r
unfolding normal
tidy_normal FileHeader b n r l t = refl
tidy_normal BatchHeader b n r l t = numbered_of (suc b) r l t
tidy_normal Individual b n r l t = numbered_of (suc n) r l t
tidy_normal Additional b n r l t = numbered_of n r l t
tidy_normal BatchControl b n r l t = ap₂ (λ (x : List ℕ) (y : List ℕ). take 54 r ++ x ++ field r 80 87 ++ y) (sym t.0) (sym t.1) ∙ sym (cut_control r l)
tidy_normal FileControl b n r l t = ap (λ (x : List ℕ). take 55 r ++ x) (sym t ∙ take_all 39 (drop 55 r) (rw length-drop (omega arith))) ∙ take-append-drop 55 r
tidy_normal Other b n r l t = refl

pub normal_tidy : (k : Kind) (b n : ℕ) (r : List ℕ) → length r ≡ 94 → normal k b n r ≡ r → Tidy k b n r
unfolding normal blanks
normal_tidy FileHeader b n r l e = tt
normal_tidy BatchHeader b n r l e = of_numbered (suc b) r l e
normal_tidy Individual b n r l e = of_numbered (suc n) r l e
normal_tidy Additional b n r l e = of_numbered n r l e
normal_tidy BatchControl b n r l e =
    let la : length (take 54 r) ≡ 54 = length-take-le 54 r (omega arith) in
    let lc : length (field r 80 87) ≡ 8 = simp (length-take, length-drop, l) in (
      ap (λ (x : List ℕ). field x 55 79) (sym e) ∙ middle_blank (take 54 r) (field r 80 87) (spelled 7 b) la,
      ap (λ (x : List ℕ). field x 88 94) (sym e) ∙ end_of (take 54 r) (field r 80 87) (spelled 7 b) la lc (length_spelled 7 b),
    )
normal_tidy FileControl b n r l e =
    ap (λ (x : List ℕ). field x 56 94) (sym e) ∙ ap (take 39) (drop_at (take 55 r) (blanks 39) 55 (length-take-le 55 r (omega arith))) ∙ take_all 39 (blanks 39) (omega (arith, length-replicate {A = ℕ} 39 32))
normal_tidy Other b n r l e = tt

-- ---- the controls that were read are those that are built

pub kind_byte : (b : ℕ) → (kind b ≡ BatchControl → b ≡ 56) × (kind b ≡ FileControl → b ≡ 57)
unfolding kind
kind_byte b = go (eqb b 49) (eqb b 53) (eqb b 54) (eqb b 55) (eqb b 56) (eqb b 57) refl refl
  where
    lift : {m : ℕ} → eqb b m ≡ true → b ≡ m
    lift {m} e = eqb→eq b m (T_of e)

    go : (x1 x5 x6 x7 x8 x9 : Bool) → eqb b 56 ≡ x8 → eqb b 57 ≡ x9
        → (cond x1 FileHeader (cond x5 BatchHeader (cond x6 Individual (cond x7 Additional (cond x8 BatchControl (cond x9 FileControl Other))))) ≡ BatchControl → b ≡ 56) × (cond x1 FileHeader (cond x5 BatchHeader (cond x6 Individual (cond x7 Additional (cond x8 BatchControl (cond x9 FileControl Other))))) ≡ FileControl → b ≡ 57)
    go true x5 x6 x7 x8 x9 p q = (λ h. cc, λ h. cc)
    go false true x6 x7 x8 x9 p q = (λ h. cc, λ h. cc)
    go false false true x7 x8 x9 p q = (λ h. cc, λ h. cc)
    go false false false true x8 x9 p q = (λ h. cc, λ h. cc)
    go false false false false true x9 p q = (λ h. lift p, λ h. cc)
    go false false false false false true p q = (λ h. cc, λ h. lift q)
    go false false false false false false p q = (λ h. cc, λ h. cc)

pub cut54 : (r : List ℕ) → take 54 r ≡ take 1 r ++ field r 2 4 ++ field r 5 10 ++ field r 11 20 ++ field r 21 32 ++ field r 33 44 ++ field r 45 54
cut54 r =
    take-add 44 10 r
    ∙ ap (λ (x : List ℕ). x ++ field r 45 54) (take-add 32 12 r
    ∙ ap (λ (x : List ℕ). x ++ field r 33 44) (take-add 20 12 r
    ∙ ap (λ (x : List ℕ). x ++ field r 21 32) (take-add 10 10 r
    ∙ ap (λ (x : List ℕ). x ++ field r 11 20) (take-add 4 6 r
    ∙ ap (λ (x : List ℕ). x ++ field r 5 10) (take-add 1 3 r)))))

pub cut55 : (r : List ℕ) → take 55 r ≡ take 1 r ++ field r 2 7 ++ field r 8 13 ++ field r 14 21 ++ field r 22 31 ++ field r 32 43 ++ field r 44 55
cut55 r =
    take-add 43 12 r
    ∙ ap (λ (x : List ℕ). x ++ field r 44 55) (take-add 31 12 r
    ∙ ap (λ (x : List ℕ). x ++ field r 32 43) (take-add 21 10 r
    ∙ ap (λ (x : List ℕ). x ++ field r 22 31) (take-add 13 8 r
    ∙ ap (λ (x : List ℕ). x ++ field r 14 21) (take-add 7 6 r
    ∙ ap (λ (x : List ℕ). x ++ field r 8 13) (take-add 1 6 r)))))

infixl 40 ◌⊕◌
pub ◌⊕◌ : {a b c d : List ℕ} → a ≡ b → c ≡ d → a ++ c ≡ b ++ d
p ⊕ q = ap₂ ◌++◌ p q

module _ (r : List ℕ) (l : length r ≡ 94) where
  -- a part of a record, as spelled
  part_spelled : (a w n : ℕ) → a + w ≤ 94 → T (spells (take w (drop a r)) n) → spelled w n ≡ take w (drop a r)
  part_spelled a w n h t = sym (spells_spelled w (take w (drop a r)) n (length-take-le w (drop a r) (rw length-drop (omega arith))) t)

  part_spelled_mod : (a w n : ℕ) → a + w ≤ 94 → T (spells (take w (drop a r)) (n % 10 ^ w)) → spelled w n ≡ take w (drop a r)
  part_spelled_mod a w n h t = sym (spelled_mod w n) ∙ part_spelled a w (n % 10 ^ w) h t

  pub control_normal : (b n : ℕ) (h : List ℕ) (t : Tally) → length h ≡ 94 → kind_of r ≡ BatchControl → ControlRead h t r
      → batch_control_of (numbered b h) t ≡ normal BatchControl b n r
  unfolding batch_control_of normal kind_of numbered
  control_normal b n h t lh k c =
      let of : (a m : ℕ) → a + m ≤ 87 → take m (drop a (take 87 h ++ spelled 7 b)) ≡ take m (drop a h) = λ a m q. field_front a m h (spelled 7 b) q (omega arith) in
      (sym (one_of r 0 (omega arith) ∙ ap (λ (x : ℕ). x ∷ []) ((kind_byte (get_or r 0 0)).0 k))
      ⊕ (of 1 3 (omega arith) ∙ sym (same→eq (field r 2 4) (field h 2 4) c.service))
      ⊕ part_spelled 4 6 t.records (omega arith) c.records
      ⊕ part_spelled_mod 10 10 t.destinations (omega arith) c.destinations
      ⊕ part_spelled 20 12 t.debits (omega arith) c.debits
      ⊕ part_spelled 32 12 t.credits (omega arith) c.credits
      ⊕ (of 40 10 (omega arith) ∙ sym (same→eq (field r 45 54) (field h 41 50) c.tax))
      ∙ sym (cut54 r))
      ⊕ refl
      ⊕ (of 79 8 (omega arith) ∙ sym (same→eq (field r 80 87) (field h 80 87) c.sender))
      ⊕ field_numbered b h (omega arith)

  pub total_normal : (b n all count : ℕ) (t : Tally) → kind_of r ≡ FileControl → TotalRead all count t r
      → file_control_of all count t ≡ normal FileControl b n r
  unfolding file_control_of normal kind_of
  total_normal b n all count t k c =
      (sym (one_of r 0 (omega arith) ∙ ap (λ (x : ℕ). x ∷ []) ((kind_byte (get_or r 0 0)).1 k))
      ⊕ part_spelled 1 6 count (omega arith) c.batches
      ⊕ part_spelled 7 6 (blocks all) (omega arith) c.blocks
      ⊕ part_spelled 13 8 t.records (omega arith) c.records
      ⊕ part_spelled_mod 21 10 t.destinations (omega arith) c.destinations
      ⊕ part_spelled 31 12 t.debits (omega arith) c.debits
      ⊕ part_spelled 43 12 t.credits (omega arith) c.credits
      ∙ sym (cut55 r))
      ⊕ refl
