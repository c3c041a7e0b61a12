-- Bytes watched in pieces, and what watching tells of them.
use Prim.Native.Nat.{ℕ, ◌+◌, ◌-◌, ◌≤◌, ◌<◌}
use native.Mathlib.Omega.{arith}
use mathlib.Core.Bool.{Bool, true, false}
use Rattle.std.proofs.Common.{Option, Some, None}
use mathlib.Core.List.{List, [], ◌++◌}
use mathlib.Core.Path.{◌≡◌, refl, sym, ap, ◌∙◌}
use borrow.Author.Tests.{leb-true, leb-false, le-leb, lt-leb}
use lib.Dec.{leb}
use lib.ListN.{length, get_or, length-append, get_or-append}
use lib.Seq.{get_or-append-add, ext_get_or}
use Rattle.watch.specs.declared.Watch.{Watch}
use Rattle.watch.specs.Watches.{place_of, watch_at, still_to_come, has_come, watch_by, watch_on}

-- ---- the three cases

module _ (w : Watch) (bytes : List ℕ) where
  pub on_come : {b : ℕ} → w.byte ≡ Some b → watch_on w bytes ≡ w
  unfolding watch_on watch_by
  on_come e = rw e refl

  pub on_still : w.byte ≡ None → length bytes ≤ w.left → watch_on w bytes ≡ still_to_come w (length bytes)
  unfolding watch_on watch_by
  on_still e l = rw (e, le-leb (length bytes) w.left l) refl

  pub on_hit : w.byte ≡ None → w.left < length bytes → watch_on w bytes ≡ has_come w (get_or bytes w.left 0)
  unfolding watch_on watch_by
  on_hit e l = rw (e, lt-leb (length bytes) w.left l) refl

-- ---- in pieces

-- before any byte, wherever that place is
pub fresh : (w : Watch) (place : ℕ) → w ≡ watch_at place → w ≡ watch_at (place_of w)
unfolding watch_at
fresh w place e = e ∙ ap watch_at (sym (ap place_of e))

-- it stays the same place
pub same_place : (w : Watch) (bytes : List ℕ) → place_of (watch_on w bytes) ≡ place_of w
unfolding watch_on watch_by
same_place w bytes = go w.byte (leb (length bytes) w.left) refl
  where
    go : (o : Option ℕ) (y : Bool) → leb (length bytes) w.left ≡ y → place_of (watch_by o w bytes) ≡ place_of w
    go (Some b) y e = refl
    go None true e = rw e refl
    go None false e = rw e refl

pub on_none : (place : ℕ) → watch_on (watch_at place) [] ≡ watch_at place
unfolding watch_at
on_none place =
    let q : place - 0 ≡ place = omega arith in
    on_still (watch_at place) [] refl (omega arith) ∙ ap (λ (n : ℕ). record { place = place; left = n; byte = None }) q

-- in two pieces as at once
pub in_two : (w : Watch) (a b : List ℕ) → watch_on (watch_on w a) b ≡ watch_on w (a ++ b)
in_two w a b = go w.byte refl
  where
    both : length (a ++ b) ≡ length a + length b
    both = length-append a b

    later : w.byte ≡ None → length a ≤ w.left → (x : Bool) → leb (length b) (w.left - length a) ≡ x → watch_on (still_to_come w (length a)) b ≡ watch_on w (a ++ b)
    later e l true d =
        let m : length b ≤ w.left - length a = leb-true _ _ d in
        let q : w.left - length a - length b ≡ w.left - length (a ++ b) = omega (arith, both) in
        rw (on_still (still_to_come w (length a)) b refl m, on_still w (a ++ b) e (omega (arith, both)))
        (ap (λ (n : ℕ). record { place = w.place; left = n; byte = None }) q)
    later e l false d =
        let m : w.left - length a < length b = leb-false _ _ d in
        let q : length a + (w.left - length a) ≡ w.left = omega arith in
        rw (on_hit (still_to_come w (length a)) b refl m, on_hit w (a ++ b) e (omega (arith, both)))
        (ap (has_come w) (sym (rw q at (get_or-append-add a b (w.left - length a) 0))))

    first : w.byte ≡ None → (x : Bool) → leb (length a) w.left ≡ x → watch_on (watch_on w a) b ≡ watch_on w (a ++ b)
    first e true d =
        let l : length a ≤ w.left = leb-true _ _ d in
        ap (λ (v : Watch). watch_on v b) (on_still w a e l) ∙ later e l (leb (length b) (w.left - length a)) refl
    first e false d =
        let l : w.left < length a = leb-false _ _ d in
        ap (λ (v : Watch). watch_on v b) (on_hit w a e l)
        ∙ on_come (has_come w (get_or a w.left 0)) b refl
        ∙ ap (has_come w) (sym (get_or-append a b 0 w.left l))
        ∙ sym (on_hit w (a ++ b) e (omega (arith, both)))

    go : (o : Option ℕ) → w.byte ≡ o → watch_on (watch_on w a) b ≡ watch_on w (a ++ b)
    go (Some x) e = ap (λ (v : Watch). watch_on v b) (on_come w a e) ∙ on_come w b e ∙ sym (on_come w (a ++ b) e)
    go None e = first e (leb (length a) w.left) refl

-- ---- what it tells: texts that look the same at every place are the same

module _ (a b : List ℕ) (h : (place : ℕ) → watch_on (watch_at place) a ≡ watch_on (watch_at place) b) where
  there : (place : ℕ) → place < length a → place < length b → get_or a place 0 ≡ get_or b place 0
  unfolding watch_at
  there place l m =
      let e : Some (get_or a place 0) ≡ Some (get_or b place 0) =
      ap (λ (w : Watch). w.byte) (sym (on_hit (watch_at place) a refl l) ∙ h place ∙ on_hit (watch_at place) b refl m)
      in
      cc

  no_shorter : length a < length b → ⊥
  unfolding watch_at
  no_shorter l =
      let e : None ≡ Some (get_or b (length a) 0) =
      ap (λ (w : Watch). w.byte) (sym (on_still (watch_at (length a)) a refl (omega arith)) ∙ h (length a) ∙ on_hit (watch_at (length a)) b refl l)
      in
      cc

pub every_place : (a b : List ℕ) → ((place : ℕ) → watch_on (watch_at place) a ≡ watch_on (watch_at place) b) → a ≡ b
every_place a b h = go (leb (length b) (length a)) refl (leb (length a) (length b)) refl
  where
    go : (x : Bool) → leb (length b) (length a) ≡ x → (y : Bool) → leb (length a) (length b) ≡ y → a ≡ b
    go true d true e =
        let m = leb-true (length b) (length a) d in
        let n = leb-true (length a) (length b) e in
        ext_get_or 0 a b (omega arith) (λ i l. there a b h i l (omega arith))
    go false d y e = absurd (no_shorter a b h (leb-false (length b) (length a) d))
    go true d false e = absurd (no_shorter b a (λ p. sym (h p)) (leb-false (length a) (length b) e))
