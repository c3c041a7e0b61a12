-- What holds of the desk's own extracts, whatever was lent: each hypothesis is what a call of extract says.
use Prim.Native.Nat.{ℕ, ◌+◌, ◌*◌, ◌≤◌}
use native.Mathlib.Omega.{arith}
use mathlib.Core.Bool.{false, ◌&&◌}
use mathlib.Core.List.{List}
use mathlib.Core.Path.{◌≡◌, refl, sym, ap, ◌∙◌}
use lib.Dec.{T, leb, leb→le, le→leb}
use lib.ListN.{length, drop, get_or}
use Rattle.std.specs.Prelude.{Ok}
use Rattle.paper.specs.declared.answer.Fault.{Fault}
use Rattle.paper.specs.Answers.{Output, Said, accepted, refusal, and_then, require}
use Rattle.paper.specs.Fields.{within}
use Rattle.paper.specs.Reading.{reading}
use Rattle.paper.specs.Extract.{batches_of, items_to, batches_to, item_records, extract}
use Rattle.paper.specs.Buffers.{told, written, room_for, entity_given, extracting}
use Rattle.paper.specs.Demands.{SameTo, items_of}
use Rattle.paper.proofs.Tests.{and_l, and_r, of_T}
use Rattle.paper.proofs.Refusals.{both_accept, required}
use Rattle.paper.proofs.Numbers.{told_once}
use Rattle.paper.proofs.Lent.{extracting_length}
use Rattle.paper.proofs.Apart as paper-apart
use Rattle.paper.proofs.Size.{extract_length, extract_fits}
use Rattle.desk.specs.declared.Session.{Session}
use Rattle.desk.specs.Standing.{rules_of}
use Rattle.desk.specs.Lent.{handed}
use Rattle.desk.specs.Calls.{Extracts}
use Rattle.demands.specs.Extracts.{answer_for, Extractable}
use Rattle.desk.proofs.Lent.{answers, asked, held}
use Rattle.demands.proofs.Lent.{same_length, numbers, inside, stays}

module _ (s : Session) (e : ℕ) (file before : List ℕ) where
  -- an answer of acceptance asks for all of it, and for no more
  all_asked : answer_for s e file before ≡ accepted → Extractable s e file before
  unfolding entity_given room_for
  all_asked h =
      let new : List ℕ = extract s.rules.currency e file in
      let x = both_accept (entity_given (rules_of s) e) (and_then (reading (rules_of s) file) (room_for new before)) h in
      let y = both_accept (reading (rules_of s) file) (room_for new before) x.1 in
      let given = required (within 1 499 e && get_or s.rules.roster e false) 208 0 x.0 in
      record {
        entity = and_l (within 1 499 e) (get_or s.rules.roster e false) given;
        listed = and_r (within 1 499 e) (get_or s.rules.roster e false) given;
        reads = y.0;
        room = leb→le (length new) (length before) (required (leb (length new) (length before)) 206 0 y.1);
      }

  no_more : Extractable s e file before → answer_for s e file before ≡ accepted
  unfolding entity_given room_for and_then require
  no_more x =
      let room = le→leb (length (extract s.rules.currency e file)) (length before) x.room in
      rw (of_T (within 1 499 e) x.entity, of_T (get_or s.rules.roster e false) x.listed, x.reads, of_T (leb (length (extract s.rules.currency e file)) (length before)) room) refl

  module _ (r : Output) (after : List ℕ) (h : Extracts s e file before r after) where
    says : told r after ≡ written (answer_for s e file before) (extract s.rules.currency e file) before
    unfolding extracting
    says = h

    -- demand 1: a refused call leaves the lent buffer as it was
    pub extract_refused : {fault : Fault} {place : ℕ} → r ≡ refusal fault place → after ≡ before
    extract_refused = stays (answer_for s e file before) (extract s.rules.currency e file) before r after says

    -- the first refusal is the answer: 208, then the reading's, then 206
    pub extract_answer : (told r after).answer ≡ answer_for s e file before
    extract_answer = answers (answer_for s e file before) (extract s.rules.currency e file) before r after says

    -- accepted exactly when E is 1 to 499 and on the roster, the reading accepts and there is room
    -- (not so with a desk that refuses all, or one that skips the reading where nothing is addressed to E)
    pub extract_exactly : (Extractable s e file before → r ≡ Ok (length (extract s.rules.currency e file)))
        × ((n : ℕ) → r ≡ Ok n → Extractable s e file before)
    extract_exactly =
        let a : Said = answer_for s e file before in
        let new : List ℕ = extract s.rules.currency e file in
        ((λ x. numbers a new before r after says (no_more x)), λ n p. all_asked (asked a new before r after says p))

    -- then the caller has the extract, its length is the number given, and the rest of the buffer stays
    -- (not so with an extract that is always empty, or a call that blanks the rest of the buffer)
    pub extract_held : {n : ℕ} → r ≡ Ok n
        → (handed r after ≡ extract s.rules.currency e file) × (n ≡ length (extract s.rules.currency e file)) × (drop n after ≡ drop n before)
    extract_held = held (answer_for s e file before) (extract s.rules.currency e file) before r after says

    -- the buffer comes back as long as it was
    pub extract_keeps_length : length after ≡ length before
    extract_keeps_length = same_length (extracting (rules_of s) e file before) r after h (extracting_length (rules_of s) e file before)

    -- the number given is within the buffer handed back
    -- (not so with a number that counts the whole file's bytes, or with a buffer cut short)
    pub extract_inside : {n : ℕ} → r ≡ Ok n → n ≤ length after
    extract_inside = inside (answer_for s e file before) (extract s.rules.currency e file) before r after says

    -- file header and control, two more for each batch that holds records to E, and the records to E with their additionals: 94 bytes each
    pub extract_size : {n : ℕ} → r ≡ Ok n
        → n ≡ (2 + 2 * length (batches_to e (batches_of file)) + length (item_records (items_to e (items_of file)))) * 94
    extract_size {n} p = (extract_held p).1 ∙ extract_length (rules_of s) e file (extract_exactly.1 n p).reads

    -- a buffer as long as the file is never too short: no 206
    pub extract_has_room : T (within 1 499 e) → T (get_or s.rules.roster e false) → reading (rules_of s) file ≡ accepted → length file ≤ length before
        → r ≡ Ok (length (extract s.rules.currency e file))
    extract_has_room w l reads room =
        extract_exactly.0 (record { entity = w; listed = l; reads = reads; room = omega (arith, extract_fits (rules_of s) e file reads) })

    -- one outcome only: two calls that are lent the same answer alike and leave the same bytes
    pub extract_once : (q : Output) (later : List ℕ) → Extracts s e file before q later → (r ≡ q) × (after ≡ later)
    extract_once q later k = told_once r q after later (h ∙ sym k)

-- ---- demand 3

-- "If two files pass the reading in one session with the same file header, and their batches that hold records to E have, in order, the same
-- headers (numbers aside) and the same records to E with their additionals, E's extracts are equal byte for byte."
-- (not so with the sender's batch number kept, or with a file control that still counts the whole file)
module _ (s : Session) (e : ℕ) (f g : List ℕ) (same : SameTo e f g) where
  -- whatever was lent: a call that was accepted has passed the reading
  pub extracts_apart : (before1 before2 : List ℕ) (r q : Output) (after1 after2 : List ℕ)
      → Extracts s e f before1 r after1 → Extracts s e g before2 q after2
      → {n m : ℕ} → r ≡ Ok n → q ≡ Ok m → handed r after1 ≡ handed q after2
  extracts_apart before1 before2 r q after1 after2 h k a b =
      (extract_held s e f before1 r after1 h a).0
      ∙ paper-apart.extracts_equal s.rules.currency e f g same
      ∙ sym (extract_held s e g before2 q after2 k b).0

  -- with E on the roster and buffers as long as the files they are written, and the number is the same too
  pub extracts_written : reading (rules_of s) f ≡ accepted → reading (rules_of s) g ≡ accepted → T (within 1 499 e) → T (get_or s.rules.roster e false)
      → (before1 before2 : List ℕ) → length f ≤ length before1 → length g ≤ length before2
      → (r q : Output) (after1 after2 : List ℕ) → Extracts s e f before1 r after1 → Extracts s e g before2 q after2
      → (r ≡ Ok (length (handed r after1))) × (q ≡ r) × (handed q after2 ≡ handed r after1)
  extracts_written reads reads2 entity listed before1 before2 room room2 r q after1 after2 h k =
      let a = extract_has_room s e f before1 r after1 h entity listed reads room in
      let b = extract_has_room s e g before2 q after2 k entity listed reads2 room2 in
      let same_bytes : handed q after2 ≡ handed r after1 = sym (extracts_apart before1 before2 r q after1 after2 h k a b) in
      let number : r ≡ Ok (length (handed r after1)) = a ∙ ap (λ (l : List ℕ). Ok (length l)) (sym (extract_held s e f before1 r after1 h a).0) in (
        number,
        b ∙ ap (λ (l : List ℕ). Ok (length l)) (sym (extract_held s e g before2 q after2 k b).0 ∙ same_bytes) ∙ sym number,
        same_bytes,
      )

  -- lent the same buffer, accepted or refused: the same answer, and the same bytes to its end
  pub extracts_alike : reading (rules_of s) f ≡ accepted → reading (rules_of s) g ≡ accepted → (before : List ℕ) (r q : Output) (after1 after2 : List ℕ)
      → Extracts s e f before r after1 → Extracts s e g before q after2 → (r ≡ q) × (after1 ≡ after2)
  extracts_alike a b before r q after1 after2 h k =
      told_once r q after1 after2 (h ∙ paper-apart.extracts_apart (rules_of s) e f g before a b same ∙ sym k)
