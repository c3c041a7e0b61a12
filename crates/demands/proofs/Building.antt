-- What holds of the desk's own building, whatever was lent: each hypothesis is what a call of build says.
use Prim.Native.Nat.{ℕ, ◌≤◌, ◌<◌}
use native.Mathlib.Omega.{arith}
use mathlib.Core.List.{List}
use mathlib.Core.Logic.{◌⊎◌, inl, inr, ⊎_elim, ⊎_map}
use mathlib.Core.Path.{◌≡◌, refl, sym, ap, ◌∙◌, subst}
use lib.Dec.{T, leb, le→leb}
use lib.ListN.{length, take, drop, length-replicate}
use lib.Seq.{take_at}
use Rattle.std.specs.Prelude.{Ok}
use Rattle.paper.specs.declared.answer.Fault.{Fault}
use Rattle.paper.specs.declared.answer.Fault.TheVariants.{Length, Room, Tray}
use Rattle.paper.specs.Answers.{Output, Said, accepted, refused, refusal, number_of, and_then, require}
use Rattle.paper.specs.Fields.{among}
use Rattle.paper.specs.Reading.{length_good, reading}
use Rattle.paper.specs.Writing.{blanks}
use Rattle.paper.specs.Trays.{build}
use Rattle.paper.specs.Buffers.{Outcome, told, over, written, room_for, tray_answer, built_as, built_if, buildable, building}
use Rattle.paper.proofs.Refusals.{both_accept, required, require_met, first_refusal}
use Rattle.paper.proofs.Exactly.{accepted_exactly}
use Rattle.paper.proofs.Lent.{over_rest, building_length, building_stays, building_spaces}
use Rattle.paper.proofs.Numbers.{told_once}
use Rattle.tray.specs.Trays.{tray_record_at}
use Rattle.building.proofs.Sizes.{built_fits}
use Rattle.desk.specs.declared.Session.{Session}
use Rattle.desk.specs.Standing.{rules_of}
use Rattle.desk.specs.Lent.{handed}
use Rattle.desk.specs.Calls.{Builds}
use Rattle.demands.specs.Trays.{answer_to_build, Buildable, TrayBad, NotBuildable, Spaced}
use Rattle.desk.proofs.Lent.{held}
use Rattle.demands.proofs.Lent.{same_length, numbers, inside}
use Rattle.paper.proofs.ReadingNumbers.{record_numbers, reading_number}
use Rattle.demands.proofs.TrayFaults.{none_bad, bad_tray, too_long, no_room, refuses}

module _ (s : Session) (header tray before : List ℕ) where
  -- an answer of acceptance asks for all of it, and for no more
  all_asked : answer_to_build s header tray before ≡ accepted → Buildable s header tray before
  unfolding tray_record_at
  all_asked h =
      let x = both_accept (buildable header tray before) (reading (rules_of s) (build header tray)) h in
      let f = built_fits header tray before x.0 in
      record { body = f.0; whole = f.1.whole; good = λ k l. f.1.good k (omega arith); short = f.2; room = f.3; reads = x.1 }

  no_more : Buildable s header tray before → answer_to_build s header tray before ≡ accepted
  unfolding buildable tray_answer room_for and_then require
  no_more x =
      let file : List ℕ = build header tray in
      let long = require_met (length_good (length file)) 201 0 ((accepted_exactly (rules_of s) file).0 x.reads).0 in
      let room = require_met (leb (length file) (length before)) 206 0 (le→leb (length file) (length before) x.room) in
      rw (x.body, x.whole, none_bad tray x.good, long, room, x.reads) refl

  -- a number that no fault of a record has comes from before the reading
  own : {n place : ℕ} → (T (among record_numbers n) → ⊥) → answer_to_build s header tray before ≡ refused n place → NotBuildable header tray before n place
  unfolding buildable
  own {n} {place} none h = go (first_refusal (buildable header tray before) (reading (rules_of s) file) h)
    where
      file : List ℕ
      file = build header tray

      good : buildable header tray before ≡ accepted → T (length_good (length file))
      good b =
          let later : Said = and_then (require (length_good (length file)) 201 0) (room_for file before) in
          required (length_good (length file)) 201 0 (both_accept (require (length_good (length file)) 201 0) (room_for file before) (both_accept (tray_answer header tray) later b).1).0

      go : (buildable header tray before ≡ refused n place) ⊎ ((buildable header tray before ≡ accepted) × (reading (rules_of s) file ≡ refused n place))
          → NotBuildable header tray before n place
      go (inl x) = refuses header tray before x
      go (inr x) = ⊎_elim (λ y. absurd (rw y.0 at (good x.0))) (λ t. absurd (none t)) (reading_number (rules_of s) file x.1)

  module _ (r : Output) (after : List ℕ) (h : Builds s header tray before r after) where
    -- the first refusal is the answer: 207, 201, 206, then the reading's on what was built
    -- (not so with the room asked for before the tray is looked at, or with a file that is handed out unread)
    pub build_answer : (told r after).answer ≡ answer_to_build s header tray before
    unfolding building built_if built_as written and_then
    build_answer = ap (λ (o : Outcome). o.answer) h ∙ go (buildable header tray before) (reading (rules_of s) (build header tray)) refl
      where
        go : (a b : Said) → reading (rules_of s) (build header tray) ≡ b
            → (built_if a (rules_of s) (build header tray) before).answer ≡ and_then a (reading (rules_of s) (build header tray))
        go (refused n place) b e = refl
        go accepted accepted e = rw e refl
        go accepted (refused n place) e = rw e refl

    answered : {x : Output} → r ≡ x → answer_to_build s header tray before ≡ (told x after).answer
    answered p = sym build_answer ∙ ap (λ (x : Output). (told x after).answer) p

    says : answer_to_build s header tray before ≡ accepted → told r after ≡ written accepted (build header tray) before
    unfolding building built_if built_as
    says e = let x = both_accept (buildable header tray before) (reading (rules_of s) (build header tray)) e in h ∙ rw (x.0, x.1) refl

    -- accepted exactly when header body and tray are well formed, and the file is not too long, has room and passes the reading
    -- (not so with a desk that refuses all, or one that takes a tray whose last record is cut short)
    pub build_exactly : (Buildable s header tray before → r ≡ Ok (length (build header tray)))
        × ((n : ℕ) → r ≡ Ok n → Buildable s header tray before)
    build_exactly = (
      λ x. numbers accepted (build header tray) before r after (says (no_more x)) refl,
      λ n p. all_asked (answered p),
    )

    -- then the caller has the file, its length is the number given, and the rest of the buffer stays
    -- (not so with a file that lacks the last batch's control, or a call that blanks the rest of the buffer)
    pub build_held : {n : ℕ} → r ≡ Ok n
        → (handed r after ≡ build header tray) × (n ≡ length (build header tray)) × (drop n after ≡ drop n before)
    build_held p = held accepted (build header tray) before r after (says (answered p)) p

    -- the buffer comes back as long as it was
    pub build_keeps_length : length after ≡ length before
    build_keeps_length = same_length (building (rules_of s) header tray before) r after h (building_length (rules_of s) header tray before)

    -- the number given is within the buffer handed back
    -- (not so with a number that counts the tray's marks too, or with a buffer cut short)
    pub build_inside : {n : ℕ} → r ≡ Ok n → n ≤ length after
    build_inside p = inside accepted (build header tray) before r after (says (answered p)) p

    -- demand 1: 207, 201 and 206 leave the lent buffer as it was
    -- (not so with a build that writes as it goes and then finds a bad mark, or one that clears the buffer when there is no room)
    pub build_stays : (fault : Fault) (place : ℕ) → buildable header tray before ≡ refused (number_of fault) place
        → (r ≡ refusal fault place) × (after ≡ before)
    build_stays fault place e = told_once r (refusal fault place) after before (h ∙ building_stays (rules_of s) header tray before e)

    -- "When the reading refuses, the bytes the built file would have taken are all spaces": those, and the rest of the buffer stays
    -- (not so with a refused file left in the buffer, or a call that blanks the buffer to its end)
    pub build_spaces : (fault : Fault) (place : ℕ) → buildable header tray before ≡ accepted
        → reading (rules_of s) (build header tray) ≡ refused (number_of fault) place → (r ≡ refusal fault place) × Spaced (build header tray) before after
    unfolding over blanks
    build_spaces fault place e q =
        let n : ℕ = length (build header tray) in
        let k = told_once r (refusal fault place) after (over (blanks n) before) (h ∙ building_spaces (rules_of s) header tray before e q) in
        let l : length (blanks n) ≡ n = length-replicate {A = ℕ} n 32 in (
          k.0,
          record {
            spaces = ap (take n) k.1 ∙ take_at (blanks n) (drop (length (blanks n)) before) n l;
            rest = ap (drop n) k.1 ∙ subst (λ (m : ℕ). drop m (over (blanks n) before) ≡ drop m before) l (over_rest (blanks n) before);
          },
        )

    -- every refusal is one of these two
    -- (not so with a refusal of a third kind, or with spaces left by 206)
    pub build_refused : {fault : Fault} {place : ℕ} → r ≡ refusal fault place
        → ((buildable header tray before ≡ refused (number_of fault) place) × (after ≡ before))
        ⊎ ((buildable header tray before ≡ accepted) × (reading (rules_of s) (build header tray) ≡ refused (number_of fault) place) × Spaced (build header tray) before after)
    build_refused {fault} {place} p =
        ⊎_map (λ x. (x, (build_stays fault place x).1)) (λ x. (x.0, x.1, (build_spaces fault place x.0 x.1).1))
        (first_refusal (buildable header tray before) (reading (rules_of s) (build header tray)) (answered p))

    -- 207 "header body not 94 bytes or tray no multiple of 96, at 0; then the first record with a bad mark, a body not beginning with 5 for LO, 6 for
    -- IN, 7 for AD, or a nonzero tail, at its tray record": exactly then, and the buffer stays
    -- (not so with a desk that names the last bad record, or one that gives the place which the record would have in the file)
    pub build_tray_named : (place : ℕ) → (r ≡ refusal Tray place → TrayBad header tray place)
        × (TrayBad header tray place → (r ≡ refusal Tray place) × (after ≡ before))
    unfolding among
    build_tray_named place = (
      λ p. ⊎_elim (λ x. x.1) (⊎_elim (λ x. absurd (omega (arith, x.0))) (λ x. absurd (omega (arith, x.0)))) (own (λ t. t) (answered p)),
      λ b. build_stays Tray place (bad_tray header tray before b),
    )

    -- a good tray whose file is longer than 940,000 bytes is 201 at 0 whatever was lent, also where there is no room either: 201 goes before 206
    -- (not so with a desk that asks for the room first, or one that leaves 201 to the reading and so blanks the buffer)
    pub build_too_long : tray_answer header tray ≡ accepted → 940000 < length (build header tray) → (r ≡ refusal Length 0) × (after ≡ before)
    build_too_long g l = build_stays Length 0 (too_long header tray before g l)

    -- and 201 is for nothing else
    -- (not so with 201 for a header body of another length, or at the place of the first record that is too many)
    pub build_length_named : (place : ℕ) → r ≡ refusal Length place
        → (tray_answer header tray ≡ accepted) × (940000 < length (build header tray)) × (place ≡ 0)
    unfolding among
    build_length_named place p =
        ⊎_elim (λ x. absurd (omega (arith, x.0))) (⊎_elim (λ x. (x.1, x.2, x.3)) (λ x. absurd (omega (arith, x.0)))) (own (λ t. t) (answered p))

    -- a good tray whose file is not too long, but longer than the buffer, is 206 at 0
    -- (not so with a desk that asks for room for the tray, or one that writes as much as the buffer takes)
    pub build_no_room : tray_answer header tray ≡ accepted → length (build header tray) ≤ 940000 → length before < length (build header tray)
        → (r ≡ refusal Room 0) × (after ≡ before)
    build_no_room g l m = build_stays Room 0 (no_room header tray before g l m)

    -- and 206 is for nothing else
    -- (not so with a desk that wants room for 940,000 bytes always, or one that answers 206 before it has looked at the tray)
    pub build_room_named : (place : ℕ) → r ≡ refusal Room place
        → (tray_answer header tray ≡ accepted) × (length (build header tray) ≤ 940000) × (length before < length (build header tray)) × (place ≡ 0)
    unfolding among
    build_room_named place p =
        ⊎_elim (λ x. absurd (omega (arith, x.0))) (⊎_elim (λ x. absurd (omega (arith, x.0))) (λ x. (x.1, x.2, x.3, x.4))) (own (λ t. t) (answered p))

    -- one outcome only: two calls that are lent the same answer alike and leave the same bytes
    -- (not so with a build that numbers on from the call before, or one that leaves what it likes behind the file)
    pub build_once : (q : Output) (later : List ℕ) → Builds s header tray before q later → (r ≡ q) × (after ≡ later)
    build_once q later k = told_once r q after later (h ∙ sym k)
