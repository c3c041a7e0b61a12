-- The records of a batch, written one after the other.
use Prim.Native.Nat.{ℕ, zero, suc, ◌+◌, ◌-◌, ◌*◌, ◌^◌, ◌≤◌}
use mathlib.Core.Bool.{true, false}
use mathlib.Core.List.{List, [], ◌∷◌, ◌++◌, append-nil}
use mathlib.Core.Path.{◌≡◌, refl, sym, ap, ◌∙◌}
use native.Mathlib.Omega.{arith}
use borrow.Rule.Slice.PartMut.{put_mid}
use lib.ListN.{length, get_or, take, drop, length-append, length-drop}
use lib.Seq.{take-add, append_snoc, length-take-le}
use Rattle.paper.specs.declared.record.Tally.{Tally}
use Rattle.paper.specs.Kinds.{kind_of}
use Rattle.paper.specs.Controls.{zeros}
use Rattle.paper.specs.Writing.{joined}
use Rattle.paper.proofs.Lists.{Sized, joined_append}
use Rattle.controls.specs.Bounds.{Below}
use Rattle.controls.proofs.Bounds.{below_more, below_zeros}
use Rattle.writing.proofs.Laying.{Wrote, start, on, whole, kept, part_laid}
use Rattle.batches.specs.Blocks.{own_at, own_of, with_record, tallied, Batched}
use Rattle.batches.proofs.Own.{own_one, own_none, tallied_snoc, tallied_below}

pub sized_take : (n : ℕ) (rs : List (List ℕ)) → Sized 94 rs → Sized 94 (take n rs)
sized_take zero rs z = tt
sized_take (suc n) [] z = tt
sized_take (suc n) (r ∷ rs) z = (z.0, sized_take n rs z.1)

pub sized_drop : (n : ℕ) (rs : List (List ℕ)) → Sized 94 rs → Sized 94 (drop n rs)
sized_drop zero rs z = z
sized_drop (suc n) [] z = tt
sized_drop (suc n) (r ∷ rs) z = sized_drop n rs z.1

pub sized_first : (n : ℕ) (rs : List (List ℕ)) {r : List ℕ} {more : List (List ℕ)} → drop n rs ≡ r ∷ more → Sized 94 rs → length r ≡ 94
sized_first n [] {r} {more} e z = absurd (let q : length (drop n (the_empty)) ≡ suc (length more) = ap length e in omega (arith, length-drop n the_empty))
  where
    the_empty : List (List ℕ)
    the_empty = []
sized_first zero (x ∷ rs) e z = ap (λ (l : List (List ℕ)). length (get_or l 0 [])) (sym e) ∙ z.0
sized_first (suc n) (x ∷ rs) e z = sized_first n rs e z.1

-- of a list of records that begins with a batch's own, after i of them
pub record Copied (rs : List (List ℕ)) (before : List ℕ) (i : ℕ) (t : Tally) (after : List ℕ) : Type 0 where
  pub inside : i ≤ length rs
  pub own : own_of rs ≡ take i rs ++ own_of (drop i rs)
  pub tally : t ≡ tallied zeros (take i rs)
  pub wrote : Wrote 0 (joined (take i rs)) before after (i * 94)

pub none_copied : (rs : List (List ℕ)) (before : List ℕ) → Copied rs before 0 zeros before
unfolding tallied joined
none_copied rs before = record { inside = omega arith; own = refl; tally = refl; wrote = start (omega arith) }

module _ {rs : List (List ℕ)} (sized : Sized 94 rs) {before : List ℕ} {i : ℕ} {t : Tally} {after : List ℕ} (c : Copied rs before i t after) where
  so_far : length (take i rs) ≡ i
  so_far = length-take-le i rs c.inside

  pub counted_below : Below (i * 10 ^ 10) t
  counted_below = rw c.tally (below_more _ (omega (arith, so_far)) (tallied_below zeros (take i rs) (sized_take i rs sized) (below_zeros 0)))

  -- there is one more
  module _ {r : List ℕ} (here : drop i rs ≡ r ∷ drop (i + 1) rs) (h : own_at (drop i rs) ≡ true) where
    own_step : own_of (drop i rs) ≡ r ∷ own_of (drop (i + 1) rs)
    own_step = ap own_of here ∙ own_one r (drop (i + 1) rs) (ap own_at (sym here) ∙ h)

    pub room_left : length (own_of rs) * 94 ≤ length before → i * 94 + 94 ≤ length after
    room_left room =
        let n = length-append (take i rs) (own_of (drop i rs)) in
        let o = ap length own_step in
        omega (arith, ap length c.own, so_far, kept c.wrote (omega (arith, ap length c.own, so_far)))

    one_more : take (i + 1) rs ≡ take i rs ++ r ∷ []
    one_more = take-add i 1 rs ∙ ap (λ (l : List (List ℕ)). take i rs ++ take 1 l) here

    pub one_copied : {u : Tally} {later : List ℕ} → u ≡ with_record (kind_of r) t r → later ≡ put_mid (i * 94) (i * 94 + 94 - i * 94) after r
        → Copied rs before (i + 1) u later
    unfolding joined
    one_copied {u} {later} e f =
        let l : length r ≡ 94 = sized_first i rs here sized in
        let so : List (List ℕ) = take i rs in
        let j : joined so ++ r ≡ joined (so ++ r ∷ []) = rw (joined_append so (r ∷ []), append-nil r) refl in
        record {
          inside = omega (arith, length-drop i rs, ap length here);
          own = c.own ∙ rw (own_step, one_more) (sym (append_snoc so r (own_of (drop (i + 1) rs))));
          tally = e ∙ rw (one_more, c.tally) (sym (tallied_snoc zeros so r));
          wrote = rw (one_more, ← j) (on c.wrote r (omega (arith, l), f ∙ part_laid (i * 94) (i * 94 + 94) r after (omega (arith, l))));
        }

  pub all_copied : own_at (drop i rs) ≡ false → Batched (own_of rs) (own_of rs) before after i t
  all_copied h =
      let e : own_of rs ≡ take i rs = c.own ∙ rw (own_none (drop i rs) h) (append-nil (take i rs)) in
      record { bytes = (whole c.wrote).1 ∙ rw e; count = rw e (sym so_far); tally = rw e c.tally }
