-- The controls that are written are without fault by what they count, where that fits their fields.
use Prim.Native.Nat.{ℕ, ◌<◌, ◌^◌}
use mathlib.Core.List.{List, [], ◌∷◌, append_assoc, append-nil}
use mathlib.Core.Path.{◌≡◌, refl}
use lib.Dec.{T, eqb, eqb_refl}
use lib.ListN.{length, take, drop, length-take, length-drop}
use Rattle.paper.specs.declared.record.Kind.TheVariants.{BatchControl, FileControl}
use Rattle.paper.specs.declared.record.Tally.{Tally}
use Rattle.paper.specs.Checks.{fine}
use Rattle.paper.specs.Fields.{bytes, field, every, good, among, same}
use Rattle.paper.specs.Kinds.{kind, kind_of}
use Rattle.paper.specs.Controls.{batch_control, blocks, file_control}
use Rattle.paper.specs.Writing.{spelled, blanks, joined, batch_control_of, file_control_of}
use Rattle.paper.proofs.Exactly.{fine_also, need_met}
use Rattle.paper.proofs.Lists.{length_spelled}
use Rattle.paper.proofs.Tests.{and_both}
use Rattle.paper.proofs.Every.{every_drop, every_take}
use Rattle.paper.proofs.Spelling.{spells_last, spells_own}
use Rattle.paper.proofs.Characters.{good_spelled, good_blanks}
use Rattle.paper.proofs.Pieces.{Wide, piece_at, every_joined}

pub same_own : (a b : List ℕ) → a ≡ b → T (same a b)
unfolding same
same_own a b e = rw e (own b)
  where
    own : (l : List ℕ) → T (same l l)
    own [] = tt
    own (x ∷ l) = and_both (eqb x x) (same l l) (eqb_refl x) (own l)

-- a part of good characters
pub good_part : (a m : ℕ) (r : List ℕ) → T (every good r) → T (every good (take m (drop a r)))
good_part a m r g = every_take good m (drop a r) (every_drop good a r g)

-- what is counted fits the fields of a control, its records in so many digits
pub record Fits (places : ℕ) (t : Tally) : Type 0 where
  pub records : t.records < 10 ^ places
  pub debits : t.debits < 10 ^ 12
  pub credits : t.credits < 10 ^ 12

-- ---- 8

module _ (header : List ℕ) (t : Tally) (l : length header ≡ 94) where
  abbrev widths8 : List ℕ
  widths8 = 1 ∷ 3 ∷ 6 ∷ 10 ∷ 12 ∷ 12 ∷ 10 ∷ 25 ∷ 8 ∷ 7 ∷ []

  abbrev pieces8 : List (List ℕ)
  pieces8 =
      bytes "8" ∷ field header 2 4 ∷ spelled 6 t.records ∷ spelled 10 t.destinations ∷ spelled 12 t.debits ∷ spelled 12 t.credits
      ∷ field header 41 50 ∷ blanks 25 ∷ field header 80 87 ∷ field header 88 94 ∷ []

  made8 : batch_control_of header t ≡ joined pieces8
  unfolding batch_control_of joined
  made8 = simp (append_assoc, append-nil)

  wide8 : Wide widths8 pieces8
  unfolding blanks
  wide8 = simp (length_spelled, length-take, length-drop, l)

  pub batch_control_kind : kind_of (batch_control_of header t) ≡ BatchControl
  unfolding batch_control_of kind_of kind
  batch_control_kind = refl

  pub batch_control_fine : Fits 6 t → batch_control header t (batch_control_of header t) ≡ fine
  unfolding batch_control
  batch_control_fine f =
      let at = piece_at widths8 pieces8 wide8 in
      let records = spells_own 6 t.records f.records in
      let destinations = spells_last 10 t.destinations in
      let debits = spells_own 12 t.debits f.debits in
      let credits = spells_own 12 t.credits f.credits in
      rw (made8, at 1 tt, at 6 tt, at 8 tt, at 9 tt, at 2 tt, at 3 tt, at 4 tt, at 5 tt)
      (search (fine_also, need_met, same_own) depth 20)

  pub batch_control_good : T (every good header) → T (every good (batch_control_of header t))
  unfolding every good among
  batch_control_good g = rw made8 (every_joined good pieces8 (search (good_part, good_spelled, good_blanks) depth 14))

-- ---- 9

module _ (all batches : ℕ) (t : Tally) where
  abbrev widths9 : List ℕ
  widths9 = 1 ∷ 6 ∷ 6 ∷ 8 ∷ 10 ∷ 12 ∷ 12 ∷ 39 ∷ []

  abbrev pieces9 : List (List ℕ)
  pieces9 =
      bytes "9" ∷ spelled 6 batches ∷ spelled 6 (blocks all) ∷ spelled 8 t.records ∷ spelled 10 t.destinations ∷ spelled 12 t.debits
      ∷ spelled 12 t.credits ∷ blanks 39 ∷ []

  made9 : file_control_of all batches t ≡ joined pieces9
  unfolding file_control_of joined
  made9 = simp (append_assoc, append-nil)

  wide9 : Wide widths9 pieces9
  unfolding blanks
  wide9 = simp length_spelled

  pub file_control_kind : kind_of (file_control_of all batches t) ≡ FileControl
  unfolding file_control_of kind_of kind
  file_control_kind = refl

  pub file_control_fine : batches < 10 ^ 6 → blocks all < 10 ^ 6 → Fits 8 t → file_control all batches t (file_control_of all batches t) ≡ fine
  unfolding file_control
  file_control_fine b n f =
      let at = piece_at widths9 pieces9 wide9 in
      let number = spells_own 6 batches b in
      let size = spells_own 6 (blocks all) n in
      let records = spells_own 8 t.records f.records in
      let destinations = spells_last 10 t.destinations in
      let debits = spells_own 12 t.debits f.debits in
      let credits = spells_own 12 t.credits f.credits in
      rw (made9, at 1 tt, at 2 tt, at 3 tt, at 4 tt, at 5 tt, at 6 tt)
      (search (fine_also, need_met) depth 20)

  pub file_control_good : T (every good (file_control_of all batches t))
  unfolding every good among
  file_control_good = rw made9 (every_joined good pieces9 (search (good_spelled, good_blanks) depth 14))
