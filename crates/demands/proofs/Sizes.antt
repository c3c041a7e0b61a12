-- How many bytes building and stripping write, and how much room always does: each hypothesis is what a call of build or strip says.
use Prim.Native.Nat.{ℕ, ◌+◌, ◌*◌, ◌/◌, ◌%◌, ◌≤◌}
use native.Mathlib.Omega.{arith}
use mathlib.Core.Bool.{Bool, true, false}
use mathlib.Core.List.{[], List, ◌∷◌}
use mathlib.Core.Path.{◌≡◌, refl, ap, ◌∙◌}
use lib.Dec.{eqb}
use lib.ListN.{length, length-append}
use borrow.Author.Tests.{le-leb}
use Rattle.std.specs.Prelude.{Ok}
use Rattle.paper.specs.declared.answer.Fault.TheVariants.{Room}
use Rattle.paper.specs.declared.record.Kind.{Kind}
use Rattle.paper.specs.declared.record.Kind.TheVariants.{FileHeader, BatchHeader, Individual, Additional, BatchControl, FileControl, Other}
use Rattle.paper.specs.declared.rules.Rules.{Rules}
use Rattle.paper.specs.Answers.{Output, Said, accepted, refused, refusal, and_then, require}
use Rattle.paper.specs.Fields.{within}
use Rattle.paper.specs.Kinds.{kind_of}
use Rattle.paper.specs.Reading.{records_of, length_good, reading_by, reading}
use Rattle.paper.specs.Extract.{Groups, prepended, grouped, batches_of, item_records}
use Rattle.paper.specs.Trays.{build, marked, stripped, strip}
use Rattle.paper.specs.Buffers.{told, room_for, tray_answer, buildable}
use Rattle.paper.specs.Demands.{items_of, carried_by, carried}
use Rattle.paper.proofs.Tests.{and_l, T_of, within_range}
use Rattle.paper.proofs.Lists.{length_joined}
use Rattle.paper.proofs.Accepted.{accepted_facts}
use Rattle.paper.proofs.Back.{stripped_sized}
use Rattle.paper.proofs.Shared.{items_all}
use Rattle.paper.proofs.Size.{file_length}
use Rattle.tray.specs.Trays.{bodies, batches_in}
use Rattle.building.proofs.Sizes.{build_length}
use Rattle.desk.specs.declared.Session.{Session}
use Rattle.desk.specs.Standing.{rules_of}
use Rattle.desk.specs.Calls.{Builds, Strips}
use Rattle.demands.proofs.Building.{build_answer, build_exactly, build_held, build_room_named}
use Rattle.demands.proofs.Stripping.{strip_exactly, strip_held}

-- ---- building

-- where the buffer has 940,000 bytes the tests before the reading are 207's: the reading's own 201 is that of building
roomy : (rules : Rules) (header tray before : List ℕ) → 940000 ≤ length before
    → and_then (buildable header tray before) (reading rules (build header tray)) ≡ and_then (tray_answer header tray) (reading rules (build header tray))
unfolding buildable room_for reading reading_by length_good and_then require
roomy rules header tray before l = go (tray_answer header tray) (length_good (length file)) refl
  where
    file : List ℕ
    file = build header tray

    go : (a : Said) (b : Bool) → length_good (length file) ≡ b
        → and_then (and_then a (and_then (require b 201 0) (room_for file before))) (reading rules file) ≡ and_then a (reading rules file)
    go (refused n place) b e = refl
    go accepted false e = rw e refl
    go accepted true e =
        let w = within_range 188 940000 (length file) (and_l (within 188 940000 (length file)) (eqb (length file % 94) 0) (T_of e)) in
        rw (le-leb (length file) (length before) (omega (arith, w.1))) refl

module _ (s : Session) (header tray before : List ℕ) (r : Output) (after : List ℕ) (h : Builds s header tray before r after) where
  -- header and file control, the tray's records, and a control for each LO: 94 bytes each
  -- (not so with a control for every file, batch or no batch, or with a number of bytes that counts the marks)
  pub build_size : {n : ℕ} → r ≡ Ok n → n ≡ (2 + length tray / 96 + batches_in 0 (bodies tray)) * 94
  build_size {n} p =
      let x = (build_exactly s header tray before r after h).1 n p in
      (build_held s header tray before r after h p).1 ∙ build_length header tray x.body x.whole ∙ omega arith

  -- a buffer of 940,000 bytes always does: the answer is 207, else the reading's on what was built, and never 206
  -- (not so with a desk that asks for more room than the file takes, or one that answers 206 where the file is too long)
  pub build_has_room : 940000 ≤ length before → (told r after).answer ≡ and_then (tray_answer header tray) (reading (rules_of s) (build header tray))
  build_has_room l = build_answer s header tray before r after h ∙ roomy (rules_of s) header tray before l

  pub build_never_206 : 940000 ≤ length before → (place : ℕ) → r ≡ refusal Room place → ⊥
  build_never_206 l place p = let x = build_room_named s header tray before r after h place p in omega (arith, x.1, x.2)

-- ---- stripping

one_stripped : (k : Kind) (r : List ℕ) (g : Groups) (l : List (List ℕ))
    → length (marked k r) + (length g.batches + length l) ≡ length (prepended k r g).batches + length (carried_by k r l)
unfolding marked prepended carried_by
one_stripped FileHeader r g l = omega arith
one_stripped BatchHeader r g l = omega arith
one_stripped Individual r g l = omega arith
one_stripped Additional r g l = omega arith
one_stripped BatchControl r g l = omega arith
one_stripped FileControl r g l = omega arith
one_stripped Other r g l = omega arith

-- a batch header for each batch, and the records of types 6 and 7
length_stripped : (rs : List (List ℕ)) → length (stripped rs) ≡ length (grouped rs).batches + length (carried rs)
unfolding stripped grouped carried
length_stripped [] = refl
length_stripped (r ∷ rs) =
    length-append (marked (kind_of r) r) (stripped rs)
    ∙ ap (λ (n : ℕ). length (marked (kind_of r) r) + n) (length_stripped rs)
    ∙ one_stripped (kind_of r) r (grouped rs) (carried rs)

length_strip : (rules : Rules) (file : List ℕ) → reading rules file ≡ accepted
    → length (strip file) ≡ (length (batches_of file) + length (item_records (items_of file))) * 96
unfolding strip batches_of
length_strip rules file a =
    length_joined 96 (stripped (records_of file)) (stripped_sized (records_of file) (accepted_facts rules file a).sized)
    ∙ omega (arith, length_stripped (records_of file), ap length (items_all rules file a))

module _ (s : Session) (file before : List ℕ) (r : Output) (after : List ℕ) (h : Strips s file before r after) where
  -- a marked record of 96 bytes for each batch header, individual and additional record of the file
  -- (not so with a tray that holds controls too, or one that leaves out additional records)
  pub strip_size : {n : ℕ} → r ≡ Ok n → n ≡ (length (batches_of file) + length (item_records (items_of file))) * 96
  strip_size {n} p = (strip_held s file before r after h p).1 ∙ length_strip (rules_of s) file ((strip_exactly s file before r after h).1 n p).reads

  -- a buffer of 960,000 bytes always does: a file that the reading accepts is stripped, and never 206
  -- (not so with a desk that wants room for the file beside the tray, or one that meets 206 with a file of 10,000 records)
  pub strip_has_room : reading (rules_of s) file ≡ accepted → 960000 ≤ length before → r ≡ Ok (length (strip file))
  strip_has_room a l =
      (strip_exactly s file before r after h).0
      (record { reads = a; room = omega (arith, length_strip (rules_of s) file a, file_length (rules_of s) file a, (accepted_facts (rules_of s) file a).short) })
