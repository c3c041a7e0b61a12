-- Demand 2: stripping what was built gives the tray.
use Prim.Native.Nat.{ℕ, zero, suc, ◌+◌, ◌*◌, ◌≤◌, ◌/◌, ◌%◌}
use Prim.Native.String.{String}
use native.Mathlib.Nat.{div-add-mod'}
use native.Mathlib.Omega.{arith}
use mathlib.Core.List.{[], List, ◌∷◌, ◌++◌, append_assoc, map}
use mathlib.Core.Path.{◌≡◌, refl, sym, ap, ◌∙◌, ap₂}
use lib.Dec.{T}
use lib.ListN.{length, take, drop, take-append-drop, length-drop}
use lib.Seq.{take_all, take_at}
use Rattle.paper.specs.declared.record.Kind.{Kind}
use Rattle.paper.specs.declared.record.Kind.TheVariants.{FileHeader, BatchHeader, Individual, Additional, BatchControl, FileControl, Other}
use Rattle.paper.specs.declared.rules.Rules.{Rules}
use Rattle.paper.specs.Answers.{accepted, require}
use Rattle.paper.specs.Fields.{bytes, field, is}
use Rattle.paper.specs.Kinds.{kind, kind_of}
use Rattle.paper.specs.Records.{in_house}
use Rattle.paper.specs.Reading.{Reckoning, nothing_counted, counted, parts, reading}
use Rattle.paper.specs.Writing.{joined, numbered, batch_control_of, file_control_of, owed, owed_before, ending, with_controls, closing}
use Rattle.paper.specs.Trays.{tray_records, mark_good, tray_record_good, tray_fault, batches_after, individuals_after, numbered_by, numbering, build, zeroed, marked, stripped, strip}
use Rattle.paper.proofs.Tests.{and_l, and_r, same→eq}
use Rattle.paper.proofs.Refusals.{both_accept, required}
use Rattle.paper.proofs.Lists.{Sized, joined_parts, sized_parts, length_numbered, kind_numbered, front_numbered}
use Rattle.paper.proofs.Accepted.{first_header, accepted_facts}
use Rattle.paper.proofs.Closing.{after_writing, closing_records}

-- ---- controls leave nothing behind

pub stripped_append : (a b : List (List ℕ)) → stripped (a ++ b) ≡ stripped a ++ stripped b
unfolding stripped
stripped_append [] b = refl
stripped_append (r ∷ a) b = ap (λ (l : List (List ℕ)). marked (kind_of r) r ++ l) (stripped_append a b) ∙ sym (append_assoc (marked (kind_of r) r) (stripped a) (stripped b))

stripped_owed : (n : ℕ) (c : Reckoning) → stripped (owed n c) ≡ []
unfolding stripped owed batch_control_of kind_of kind marked
stripped_owed zero c = refl
stripped_owed (suc n) c = refl

stripped_before : (k : Kind) (c : Reckoning) → stripped (owed_before k c) ≡ []
unfolding owed_before stripped
stripped_before FileHeader c = refl
stripped_before BatchHeader c = stripped_owed c.batches c
stripped_before Individual c = refl
stripped_before Additional c = refl
stripped_before BatchControl c = refl
stripped_before FileControl c = refl
stripped_before Other c = refl

pub stripped_controls : (rs : List (List ℕ)) (c : Reckoning) → stripped (with_controls c rs) ≡ stripped rs
unfolding with_controls ending stripped file_control_of kind_of kind marked
stripped_controls [] c = stripped_append (owed c.batches c) _ ∙ ap (λ (l : List (List ℕ)). l ++ []) (stripped_owed c.batches c)
stripped_controls (r ∷ rs) c =
    stripped_append (owed_before (kind_of r) c) (r ∷ with_controls (after_writing (kind_of r) c r) rs)
    ∙ ap₂ (λ (x : List (List ℕ)) (y : List (List ℕ)). x ++ (marked (kind_of r) r ++ y)) (stripped_before (kind_of r) c) (stripped_controls rs (after_writing (kind_of r) c r))

-- ---- a tray record comes back from under a number

zeroed_numbered : (n : ℕ) (b : List ℕ) → length b ≡ 94 → field b 88 94 ≡ bytes "0000000" → zeroed (numbered n b) ≡ b
unfolding zeroed
zeroed_numbered n b h z =
    ap (λ (l : List ℕ). l ++ bytes "0000000") (front_numbered n b (omega arith))
    ∙ ap (λ (l : List ℕ). take 87 b ++ l) (sym z ∙ take_all 7 (drop 87 b) (rw length-drop (omega arith)))
    ∙ take-append-drop 87 b

pub body : (t : List ℕ) → length t ≡ 96 → length (drop 2 t) ≡ 94
body t l = length-drop 2 t ∙ omega arith

long : (t : List ℕ) → length t ≡ 96 → 87 ≤ length (drop 2 t)
long t l = omega (arith, body t l)

restored : (mark : String) (n : ℕ) (t : List ℕ) → length t ≡ 96 → T (is (take 2 t) mark) → field (drop 2 t) 88 94 ≡ bytes "0000000"
    → bytes mark ++ zeroed (numbered n (drop 2 t)) ≡ t
restored mark n t l g z =
    ap (λ (b : List ℕ). bytes mark ++ b) (zeroed_numbered n (drop 2 t) (body t l) z)
    ∙ ap (λ (m : List ℕ). m ++ drop 2 t) (sym (same→eq (take 2 t) (bytes mark) g))
    ∙ take-append-drop 2 t

marked_numbered : (k : Kind) (b n : ℕ) (t : List ℕ) → kind_of (drop 2 t) ≡ k → length t ≡ 96 → T (mark_good k (take 2 t))
    → field (drop 2 t) 88 94 ≡ bytes "0000000"
    → marked (kind_of (numbered_by k b n (drop 2 t))) (numbered_by k b n (drop 2 t)) ≡ t ∷ []
unfolding numbered_by marked mark_good
marked_numbered FileHeader b n t e l g z = absurd g
marked_numbered BatchHeader b n t e l g z = rw (kind_numbered (suc b) (drop 2 t) (long t l), e) (ap (λ (x : List ℕ). x ∷ []) (restored "LO" (suc b) t l g z))
marked_numbered Individual b n t e l g z = rw (kind_numbered (suc n) (drop 2 t) (long t l), e) (ap (λ (x : List ℕ). x ∷ []) (restored "IN" (suc n) t l g z))
marked_numbered Additional b n t e l g z = rw (kind_numbered n (drop 2 t) (long t l), e) (ap (λ (x : List ℕ). x ∷ []) (restored "AD" n t l g z))
marked_numbered BatchControl b n t e l g z = absurd g
marked_numbered FileControl b n t e l g z = absurd g
marked_numbered Other b n t e l g z = absurd g

abbrev pub AllGood : List (List ℕ) → Type 0
AllGood [] = Unit {0}
AllGood (t ∷ ts) = T (tray_record_good t) × AllGood ts

pub all_good : (ts : List (List ℕ)) (place : ℕ) → tray_fault place ts ≡ accepted → AllGood ts
unfolding tray_fault
all_good [] place h = tt
all_good (t ∷ ts) place h =
    let p = both_accept (require (tray_record_good t) 207 place) (tray_fault (place + 1) ts) h in
    (required (tray_record_good t) 207 place p.0, all_good ts (place + 1) p.1)

stripped_numbering : (ts : List (List ℕ)) (b n : ℕ) → Sized 96 ts → AllGood ts → stripped (numbering b n (map (drop 2) ts)) ≡ ts
unfolding numbering stripped tray_record_good
stripped_numbering [] b n s g = refl
stripped_numbering (t ∷ ts) b n s g =
    let k : Kind = kind_of (drop 2 t) in
    ap₂ ◌++◌
    (marked_numbered k b n t refl s.0 (and_l (mark_good k (take 2 t)) (is (field (drop 2 t) 88 94) "0000000") g.0)
    (same→eq (field (drop 2 t) 88 94) (bytes "0000000") (and_r (mark_good k (take 2 t)) (is (field (drop 2 t) 88 94) "0000000") g.0)))
    (stripped_numbering ts (batches_after k b) (individuals_after k n) s.1 g.1)

-- ---- numbering keeps 94 bytes

numbered_by_length : (k : Kind) (b n : ℕ) (r : List ℕ) → length r ≡ 94 → length (numbered_by k b n r) ≡ 94
unfolding numbered_by
numbered_by_length FileHeader b n r l = l
numbered_by_length BatchHeader b n r l = length_numbered (suc b) r (omega arith)
numbered_by_length Individual b n r l = length_numbered (suc n) r (omega arith)
numbered_by_length Additional b n r l = length_numbered n r (omega arith)
numbered_by_length BatchControl b n r l = l
numbered_by_length FileControl b n r l = l
numbered_by_length Other b n r l = l

pub numbering_sized : (rs : List (List ℕ)) (b n : ℕ) → Sized 94 rs → Sized 94 (numbering b n rs)
unfolding numbering
numbering_sized [] b n z = tt
numbering_sized (r ∷ rs) b n z = (numbered_by_length (kind_of r) b n r z.0, numbering_sized rs (batches_after (kind_of r) b) (individuals_after (kind_of r) n) z.1)

pub bodies_sized : (ts : List (List ℕ)) → Sized 96 ts → Sized 94 (map (drop 2) ts)
bodies_sized [] z = tt
bodies_sized (t ∷ ts) z = (body t z.0, bodies_sized ts z.1)

-- ---- the theorem

-- the tray is a multiple of 96 bytes and passes 207, the header is 94 bytes that begin with 1
round : (header tray : List ℕ) → length header ≡ 94 → kind_of header ≡ FileHeader → length tray % 96 ≡ 0 → tray_fault 0 (tray_records tray) ≡ accepted
    → strip (build header tray) ≡ tray
unfolding strip build stripped tray_records marked
round header tray h k m f =
    let ts : List (List ℕ) = parts 96 (length tray / 96) tray in
    let e : length tray ≡ length tray / 96 * 96 = omega (arith, div-add-mod' (length tray) 96) in
    let s : Sized 96 ts = sized_parts 96 (length tray / 96) tray (omega arith) in
    let rs : List (List ℕ) = numbering 0 0 (map (drop 2) ts) in
    let z : Sized 94 rs = numbering_sized (map (drop 2) ts) 0 0 (bodies_sized ts s) in
    ap (λ (l : List (List ℕ)). joined (stripped l)) (closing_records header rs h z)
    ∙ ap (λ (kk : Kind). joined (marked kk header ++ stripped (with_controls (counted FileHeader nothing_counted header) rs))) k
    ∙ ap joined (stripped_controls rs (counted FileHeader nothing_counted header) ∙ stripped_numbering ts 0 0 s (all_good ts 0 f))
    ∙ joined_parts 96 (length tray / 96) tray e

-- where building succeeds, the reading accepts what was built
pub round_trip : (rules : Rules) (header tray : List ℕ) → length header ≡ 94 → length tray % 96 ≡ 0 → tray_fault 0 (tray_records tray) ≡ accepted
    → reading rules (build header tray) ≡ accepted → strip (build header tray) ≡ tray
unfolding build closing joined
round_trip rules header tray h m f q =
    let a = accepted_facts rules (build header tray) q in
    let k : kind_of (take 94 (build header tray)) ≡ FileHeader = first_header (in_house rules) (take 94 (build header tray)) a.first.0 (rw a.first.1 at a.reads) in
    round header tray h (ap kind_of (sym (take_at header _ 94 h)) ∙ k) m f
