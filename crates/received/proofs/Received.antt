-- Every extract reads as accepted at the desk of its entity.
use Prim.Native.Nat.{ℕ, ◌+◌, ◌*◌, ◌≤◌, ◌/◌, ◌%◌}
use native.Mathlib.Omega.{arith}
use mathlib.Core.Bool.{false, ◌&&◌}
use mathlib.Core.List.{List, []}
use mathlib.Core.Path.{◌≡◌, refl, ap, ◌∙◌}
use lib.Dec.{T}
use lib.ListN.{length, get_or, take}
use lib.Seq.{length-take-le}
use borrow.Author.Tests.{le-leb, eq-eqb}
use Rattle.paper.specs.declared.record.Kind.TheVariants.{FileHeader}
use Rattle.paper.specs.declared.rules.Rules.{Rules}
use Rattle.paper.specs.Answers.{accepted, and_then}
use Rattle.paper.specs.Fields.{within, every, good}
use Rattle.paper.specs.Kinds.{allowed}
use Rattle.paper.specs.Records.{at_desk}
use Rattle.paper.specs.Controls.{zeros}
use Rattle.paper.specs.Reading.{nothing_counted, counted, State, start, before_next, state_next, fields, records_of, length_good, reading_by, reading}
use Rattle.paper.specs.Writing.{settled}
use Rattle.paper.specs.Extract.{Batch, item_records, items_to, batches_of, batches_to, header_for, extract}
use Rattle.paper.specs.Buffers.{entity_given}
use Rattle.paper.specs.Demands.{Faultless, items_of}
use Rattle.paper.specs.Receiving.{receiving}
use Rattle.paper.proofs.Tests.{and_l, within_range}
use Rattle.paper.proofs.Refusals.{required}
use Rattle.paper.proofs.Lists.{length_parts}
use Rattle.paper.proofs.Exactly.{accepted_by}
use Rattle.paper.proofs.Accepted.{accepted_facts}
use Rattle.paper.proofs.Facts.{file_facts}
use Rattle.paper.proofs.Identifiers.{header_read}
use Rattle.paper.proofs.Regrouping.{extract_cut}
use Rattle.paper.proofs.Size.{extract_length, extract_fits}
use Rattle.received.proofs.Heading.{heading_good, heading_fine}
use Rattle.received.proofs.Tallies.{fits_most, most_own, totalled_to}
use Rattle.received.proofs.Found.{found}
use Rattle.received.proofs.Chosen.{batches_chosen}
use Rattle.received.proofs.Steps.{next_after, judged_fine}
use Rattle.received.proofs.Walk.{Reached, batches_run}

-- an extract's length is good, and it has at most 10,000 records
extract_sized : (rules : Rules) (e : ℕ) (file : List ℕ) → reading rules file ≡ accepted
    → T (length_good (length (extract rules.currency e file))) × (length (records_of (extract rules.currency e file)) ≤ 10000)
unfolding length_good records_of
extract_sized rules e file h =
    let x : List ℕ = extract rules.currency e file in
    let m : ℕ = 2 * length (batches_to e (batches_of file)) + length (item_records (items_to e (items_of file))) in
    let l : length x ≡ (2 + m) * 94 = extract_length rules e file h ∙ omega arith in
    let most : length x ≤ 940000 = omega (arith, extract_fits rules e file h, (accepted_facts rules file h).short) in (
      rw (le-leb 188 (length x) (omega arith), le-leb (length x) 940000 most, eq-eqb (length x % 94) 0 (omega arith)) tt,
      rw (length_parts 94 (length x / 94) x) (omega arith),
    )

-- the file header, then all that is written of the batches
extract_faultless : (rules : Rules) (e : ℕ) (file : List ℕ) → 1 ≤ e → e ≤ 499 → reading rules file ≡ accepted
    → Faultless (at_desk e rules) start (records_of (extract rules.currency e file))
unfolding start nothing_counted counted settled before_next allowed fields
extract_faultless rules e file low high h =
    let a = accepted_facts rules file h in
    let r : List ℕ = take 94 file in
    let l : length r ≡ 94 = length-take-le 94 file (omega (arith, a.long)) in
    let good : T (every good r) = (rw a.first.1 at (file_facts rules file h)).0 in
    let bs : List Batch = batches_of file in
    let x : List ℕ = header_for rules.currency e r in
    let cut = extract_cut rules e file h in
    let k = cut.header.0 in
    let t : State = state_next FileHeader start x in
    let all = found rules file h in
    let reads = batches_chosen rules e bs [] [] (λ n h. h) all.batches in
    let total = fits_most (totalled_to e bs zeros zeros (most_own zeros)) all.total in
    let room : length (records_of (extract rules.currency e file)) ≤ 10000 = (extract_sized rules e file h).1 in
    let count = ap length cut.records in
    let opened : Reached t [] 0 zeros = record { seen = refl; batches = refl; closed = refl; ready = refl } in
    rw (cut.records, next_after start x FileHeader k) (
      judged_fine (at_desk e rules) start x FileHeader k (heading_good rules.currency e r l good) refl (heading_fine rules.currency e r l rules refl low high (header_read rules file h)),
      batches_run rules e (batches_to e bs) t [] 0 zeros opened reads total (omega arith) (omega arith),
    )

pub extract_received : (rules : Rules) (e : ℕ) (file : List ℕ) → entity_given rules e ≡ accepted → reading rules file ≡ accepted
    → reading_by (at_desk e rules) (extract rules.currency e file) ≡ accepted
unfolding entity_given
extract_received rules e file g h =
    let w = within_range 1 499 e (and_l (within 1 499 e) (get_or rules.roster e false) (required (within 1 499 e && get_or rules.roster e false) 208 0 g)) in
    (accepted_by (at_desk e rules) (extract rules.currency e file)).1 ((extract_sized rules e file h).0, extract_faultless rules e file w.0 w.1 h)

-- and is received
pub extract_accepted : (rules : Rules) (e : ℕ) (file : List ℕ) → entity_given rules e ≡ accepted → reading rules file ≡ accepted
    → receiving rules e (extract rules.currency e file) ≡ accepted
unfolding receiving and_then
extract_accepted rules e file g h = rw g (extract_received rules e file g h)
