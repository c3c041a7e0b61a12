-- Building and stripping, refusal by refusal.
use Prim.Native.Nat.{ℕ, ◌-◌, ◌≤◌}
use native.Mathlib.Omega.{arith}
use mathlib.Core.List.{List}
use mathlib.Core.Path.{◌≡◌, refl, sym, ap, ◌∙◌, ap₂}
use lib.ListN.{length, take, drop, length-take, length-replicate}
use borrow.Rule.Slice.PartMut.{mid_of, put_mid}
use Rattle.std.specs.Prelude.{Ok}
use Rattle.paper.specs.declared.answer.Fault.{Fault}
use Rattle.paper.specs.declared.rules.Rules.{Rules}
use Rattle.paper.specs.Answers.{Answer, Output, Said, accepted, refused, refusal, number_of, said}
use Rattle.paper.specs.Reading.{reading}
use Rattle.paper.specs.Writing.{blanks}
use Rattle.paper.specs.Trays.{build}
use Rattle.paper.specs.Buffers.{Outcome, told, over, written, built_as, built_if, buildable, building}
use Rattle.paper.proofs.Lent.{building_spaces}
use Rattle.desk.specs.Lent.{handed}
use Rattle.desk.proofs.Lent.{answers, asked, held}

-- ---- building: what was written before the reading

module _ (header tray before : List ℕ) (x : Output) (after : List ℕ)
    (w : told x after ≡ written (buildable header tray before) (build header tray) before) where
  -- 207, 201, 206
  pub not_built : (rules : Rules) {fault : Fault} {place : ℕ} → x ≡ refusal fault place → told x after ≡ building rules header tray before
  unfolding building built_if
  not_built rules {fault} {place} p =
      let e : buildable header tray before ≡ refused (number_of fault) place =
      sym (answers (buildable header tray before) (build header tray) before x after w) ∙ ap (λ (y : Output). (told y after).answer) p in
      w ∙ rw e refl

  module _ {n : ℕ} (p : x ≡ Ok n) where
    has : (handed x after ≡ build header tray) × (n ≡ length (build header tray)) × (drop n after ≡ drop n before)
    has = held (buildable header tray before) (build header tray) before x after w p

    tested : buildable header tray before ≡ accepted
    tested = asked (buildable header tray before) (build header tray) before x after w p

    -- the file is the part of the buffer up to the number given
    pub built_part : (take n after ≡ build header tray) × (n ≡ length (build header tray)) × (n ≤ length after)
    unfolding handed
    built_part =
        let e : take n after ≡ build header tray = ap (λ (y : Output). handed y after) (sym p) ∙ has.0 in
        (e, has.1, omega (arith, has.1, ap length e, length-take n after))

    lent_part : mid_of 0 (n - 0) after ≡ build header tray
    lent_part = let k : n - 0 ≡ n = omega arith in ap (λ (m : ℕ). take m after) k ∙ built_part.0

    -- the reading's answer on that part decides
    pub was_built : (rules : Rules) {a : Answer} → said a ≡ reading rules (mid_of 0 (n - 0) after) → a ≡ Ok tt → told (Ok n) after ≡ building rules header tray before
    unfolding building built_if built_as
    was_built rules h e =
        let r : reading rules (build header tray) ≡ accepted = ap (reading rules) (sym lent_part) ∙ sym h ∙ ap said e in
        ap (λ (y : Output). told y after) (sym p) ∙ w ∙ rw (tested, r) refl

    spaced : put_mid 0 (n - 0) after (blanks (length (mid_of 0 (n - 0) after))) ≡ over (blanks (length (build header tray))) before
    unfolding over blanks
    spaced =
        let k : n - 0 ≡ n = omega arith in
        rw (lent_part, k, has.2, has.1, length-replicate {A = ℕ} (length (build header tray)) 32) refl

    -- refused by it, that part is all spaces
    pub not_read : (rules : Rules) {a : Answer} → said a ≡ reading rules (mid_of 0 (n - 0) after) → {fault : Fault} {place : ℕ} → a ≡ refusal fault place
        → {part : List ℕ} → part ≡ blanks (length (mid_of 0 (n - 0) after))
        → {o : Outcome} → o ≡ record { answer = said a; size = 0; buffer = put_mid 0 (n - 0) after part } → o ≡ building rules header tray before
    not_read rules h {fault} {place} e b k =
        let r : reading rules (build header tray) ≡ refused (number_of fault) place = ap (reading rules) (sym lent_part) ∙ sym h ∙ ap said e in
        k
        ∙ ap₂ (λ (s : Said) (l : List ℕ). record { answer = s; size = 0; buffer = l }) (ap said e) (ap (put_mid 0 (n - 0) after) b ∙ spaced)
        ∙ sym (building_spaces rules header tray before tested r)
