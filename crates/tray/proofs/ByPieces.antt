-- A tray looked at in pieces of whole records: the first bad record of the whole is that of the first piece that has one.
use Prim.Native.Nat.{ℕ, suc, ◌+◌, ◌/◌, ◌%◌, ◌≤◌, ◌<◌}
use mathlib.Core.Bool.{Bool, true, false, ◌&&◌}
use mathlib.Core.List.{List, [], ◌∷◌, ◌++◌}
use mathlib.Core.Path.{◌≡◌, refl, sym, ap, ◌∙◌}
use native.Mathlib.Nat.{zero-add, add-zero, add_assoc}
use native.Mathlib.Omega.{arith}
use borrow.Author.Tests.{leb-true, leb-false}
use Rattle.std.specs.Prelude.{Some, None, Err}
use lib.Dec.{leb, eqb}
use lib.ListN.{length, length-append}
use Rattle.paper.specs.declared.answer.Refusal.{Refusal}
use Rattle.paper.specs.Answers.{Said, accepted, refused, said, refused_by, and_then, require}
use Rattle.paper.specs.Buffers.{tray_answer}
use Rattle.paper.specs.Trays.{tray_records, tray_record_good, tray_fault}
use Rattle.paper.proofs.Lists.{parts_append}
use Rattle.paper.proofs.Refusals.{refused_not, and_then_assoc}
use Rattle.tray.specs.declared.pieces.Pieces.{Pieces}
use Rattle.tray.specs.Seen.{most_seen, SeenWhole, Seen, ReadOn, Tells}
use Rattle.tray.proofs.Places.{length_records}

-- ---- records one after another

records_append : (a b : List ℕ) → length a % 96 ≡ 0 → tray_records (a ++ b) ≡ tray_records a ++ tray_records b
unfolding tray_records
records_append a b h =
    let n : length (a ++ b) / 96 ≡ length a / 96 + length b / 96 = omega (arith, length-append a b) in
    rw n (parts_append 96 (length a / 96) (length b / 96) a b (omega arith))

-- ---- faults

-- an answer on records that come so many records later
abbrev pub later : ℕ → Said → Said
later i accepted = accepted
later i (refused n place) = refused n (i + place)

later_from : (ts : List (List ℕ)) (i k : ℕ) → tray_fault (i + k) ts ≡ later i (tray_fault k ts)
unfolding tray_fault and_then require
later_from [] i k = refl
later_from (t ∷ ts) i k = go (tray_record_good t) (rw add_assoc (later_from ts i (k + 1)))
  where
    go : (good : Bool) → tray_fault (i + k + 1) ts ≡ later i (tray_fault (k + 1) ts)
        → and_then (require good 207 (i + k)) (tray_fault (i + k + 1) ts) ≡ later i (and_then (require good 207 k) (tray_fault (k + 1) ts))
    go true e = e
    go false e = refl

pub fault_later : (ts : List (List ℕ)) (i : ℕ) → tray_fault i ts ≡ later i (tray_fault 0 ts)
fault_later ts i = rw add-zero at (later_from ts i 0)

-- the place is that of a record
pub fault_within : (ts : List (List ℕ)) (i : ℕ) {n place : ℕ} → tray_fault i ts ≡ refused n place → place < i + length ts
unfolding tray_fault and_then require
fault_within [] i h = absurd (refused_not (sym h))
fault_within (t ∷ ts) i {n} {place} h = go (tray_record_good t) h (λ e. omega (arith, fault_within ts (i + 1) e))
  where
    go : (good : Bool) → and_then (require good 207 i) (tray_fault (i + 1) ts) ≡ refused n place
        → (tray_fault (i + 1) ts ≡ refused n place → place < i + suc (length ts)) → place < i + suc (length ts)
    go true e rest = rest e
    go false e rest = let q : i ≡ place = cc in omega arith

-- what is found in records that come so many records later, by what is found in them alone
pub none_later : (piece : List ℕ) (i : ℕ) → accepted ≡ tray_fault 0 (tray_records piece) → tray_fault i (tray_records piece) ≡ accepted
none_later piece i h = fault_later (tray_records piece) i ∙ rw (sym h) refl

pub bad_later : (piece : List ℕ) (i n place : ℕ) → refused n place ≡ tray_fault 0 (tray_records piece) → tray_fault i (tray_records piece) ≡ refused n (i + place)
bad_later piece i n place h = fault_later (tray_records piece) i ∙ rw (sym h) refl

pub bad_within : (piece : List ℕ) (n place : ℕ) → refused n place ≡ tray_fault 0 (tray_records piece) → place < length piece / 96
bad_within piece n place h = let e = fault_within (tray_records piece) 0 (sym h) in omega (arith, e, length_records piece)

pub ruleset later_in_file = (none_later, bad_later, bad_within)

fault_append : (xs ys : List (List ℕ)) (i : ℕ) → tray_fault i (xs ++ ys) ≡ and_then (tray_fault i xs) (tray_fault (i + length xs) ys)
unfolding tray_fault and_then
fault_append [] ys i = rw add-zero
fault_append (t ∷ ts) ys i =
    let k : i + suc (length ts) ≡ i + 1 + length ts = omega arith in
    let here : Said = require (tray_record_good t) 207 i in
    ap (and_then here) (fault_append ts ys (i + 1))
    ∙ sym (and_then_assoc here (tray_fault (i + 1) ts) (tray_fault (i + 1 + length ts) ys))
    ∙ ap (λ (m : ℕ). and_then (and_then here (tray_fault (i + 1) ts)) (tray_fault m ys)) (sym k)

pub fault_pieces : (i : ℕ) (a b : List ℕ) → length a % 96 ≡ 0
    → tray_fault i (tray_records (a ++ b)) ≡ and_then (tray_fault i (tray_records a)) (tray_fault (i + length a / 96) (tray_records b))
fault_pieces i a b h = ap (tray_fault i) (records_append a b h) ∙ fault_append (tray_records a) (tray_records b) i ∙ rw length_records refl

-- so what is known of some pieces, all but the last of whole records, is what is known of them joined
pub seen_on : (p r : Pieces) (tray piece : List ℕ) → Seen p tray → length tray % 96 ≡ 0 → ReadOn p piece r → Seen r (tray ++ piece)
seen_on p r tray piece s none o = go (leb p.records most_seen) refl
  where
    go : (b : Bool) → leb p.records most_seen ≡ b → Seen r (tray ++ piece)
    go true e =
        let l : p.records ≤ most_seen = leb-true _ _ e in
        let w = s.whole l in
        let m = o.further l in
        let joined : SeenWhole r (tray ++ piece) =
        record {
          faults = m.faults ∙ rw (w.faults, w.records) (sym (rw zero-add at (fault_pieces 0 tray piece none)));
          records = m.records ∙ omega (arith, w.records, length-append tray piece);
          left = m.left ∙ omega (arith, length-append tray piece);
        } in
        record { whole = λ n. joined; endless = λ n. omega (arith, joined.records) }
    go false e =
        let l : most_seen < p.records = leb-false _ _ e in
        let same : r.records ≡ p.records = ap (λ (x : Pieces). x.records) (o.stays l) in
        record { whole = λ n. absurd (omega arith); endless = λ n. omega (arith, s.endless l, length-append tray piece) }

-- ---- what is told

-- of all of a tray, by what is known after its pieces: 207 as of the whole, else 201
-- (not so with a look that takes a tray without end for one that has ended)
pub seen_told : (p : Pieces) (header tray : List ℕ) (r : Refusal) → Seen p tray → Tells p header (Some r) → refused_by r ≡ and_then (tray_answer header tray) (refused 201 0)
unfolding tray_answer
seen_told p header tray r seen t =
    let w = seen.whole t.0 in
    let lengths : Said = require (eqb (length header) 94 && eqb (length tray % 96) 0) 207 0 in
    t.1 ∙ rw (w.faults, w.left) (sym (and_then_assoc lengths (tray_fault 0 (tray_records tray)) (refused 201 0)))

-- one that is told to have no end has more than 2^60 records
pub seen_endless : (p : Pieces) (header tray : List ℕ) → Seen p tray → Tells p header None → most_seen < length tray / 96
seen_endless p header tray seen t = seen.endless t
