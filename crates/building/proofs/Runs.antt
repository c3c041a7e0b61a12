-- The records of a tray are of types 5, 6 and 7, under their numbers too; where a batch header is next.
use Prim.Native.Nat.{ℕ, zero, suc, ◌+◌, ◌/◌, ◌≤◌, ◌<◌}
use mathlib.Core.List.{List, [], ◌∷◌}
use mathlib.Core.Logic.{◌⊎◌, inl, inr}
use mathlib.Core.Path.{◌≡◌, refl, sym, ap, ◌∙◌}
use native.Mathlib.Numerals.{add-one}
use native.Mathlib.Omega.{arith}
use lib.ListN.{length, take, drop}
use Rattle.paper.specs.declared.record.Kind.{Kind}
use Rattle.paper.specs.declared.record.Kind.TheVariants.{BatchHeader, Individual, Additional}
use Rattle.paper.specs.Kinds.{opens_batch, kind_of}
use Rattle.paper.specs.Writing.{numbered}
use Rattle.paper.specs.Trays.{batches_after, individuals_after, numbered_by, numbering}
use Rattle.paper.proofs.Lists.{Sized, length_numbered}
use Rattle.paper.proofs.Grouping.{Is}
use Rattle.batches.specs.Blocks.{own_of}
use Rattle.batches.proofs.Own.{stays}
use Rattle.batches.proofs.Copying.{sized_drop}
use Rattle.tray.specs.Trays.{body_at, bodies, Sound}
use Rattle.building.specs.declared.numbering.Numbering.{Numbering}
use Rattle.building.specs.Numbering.{after, through, numbered_from}
use Rattle.tray.proofs.Places.{bodies_at, bodies_none, bodies_sized, OnTray, kinds_of}
use Rattle.building.proofs.Numbers.{kind_kept}
use Rattle.building.proofs.Closing.{Carries, Plain, Heads, plain_sized}

-- ---- any records

carries_numbered : (b n : ℕ) (r : List ℕ) → Carries r → Carries (numbered_by (kind_of r) b n r)
unfolding numbered_by
carries_numbered b n r (inl h) = let l : 87 ≤ length r = omega (arith, h.1) in inl (kind_kept (kind_of r) b n r l ∙ h.0, rw h.0 (length_numbered (suc b) r l))
carries_numbered b n r (inr (inl h)) = let l : 87 ≤ length r = omega (arith, h.1) in inr (inl (kind_kept (kind_of r) b n r l ∙ h.0, rw h.0 (length_numbered (suc n) r l)))
carries_numbered b n r (inr (inr h)) = let l : 87 ≤ length r = omega (arith, h.1) in inr (inr (kind_kept (kind_of r) b n r l ∙ h.0, rw h.0 (length_numbered n r l)))

pub plain_numbering : (b n : ℕ) (rs : List (List ℕ)) → Plain rs → Plain (numbering b n rs)
unfolding numbering
plain_numbering b n [] p = tt
plain_numbering b n (r ∷ rs) p = (carries_numbered b n r p.0, plain_numbering (batches_after (kind_of r) b) (individuals_after (kind_of r) n) rs p.1)

-- before the next batch header no batch is counted
pub own_batches : (n : Numbering) (rs : List (List ℕ)) → Plain rs → (through n (take (length (own_of (numbered_from n rs))) rs)).batches ≡ n.batches
unfolding numbering through after batches_after individuals_after own_of
own_batches n [] p = refl
own_batches n (r ∷ rs) p = go p.0 (own_batches (after (kind_of r) n) rs p.1)
  where
    inside : Is Individual r ⊎ Is Additional r → batches_after (kind_of r) n.batches ≡ n.batches
    inside (inl h) = rw h.0 refl
    inside (inr h) = rw h.0 refl

    kept : 87 ≤ length r → opens_batch (kind_of (numbered_by (kind_of r) n.batches n.individuals r)) ≡ opens_batch (kind_of r)
    kept l = ap opens_batch (kind_kept (kind_of r) n.batches n.individuals r l)

    go : Carries r → (through (after (kind_of r) n) (take (length (own_of (numbered_from (after (kind_of r) n) rs))) rs)).batches ≡ (after (kind_of r) n).batches
        → (through n (take (length (own_of (numbered_from n (r ∷ rs)))) (r ∷ rs))).batches ≡ n.batches
    go (inl h) i = rw (kept (omega (arith, h.1)), h.0) refl
    go (inr w) i = rw (kept (omega (arith, (plain_sized (r ∷ []) (inr w, tt)).0)) ∙ stays r w) (i ∙ inside w)

-- ---- those of a tray

pub plain_bodies : (tray : List ℕ) → Sound tray → Plain (bodies tray)
plain_bodies tray s = from (length tray / 96) 0 (omega arith)
  where
    one : (i : ℕ) → i < length tray / 96 → Carries (body_at tray i)
    one i l =
        let z : Sized 94 (body_at tray i ∷ drop (i + 1) (bodies tray)) = rw (bodies_at tray i l) at (sized_drop i (bodies tray) (bodies_sized tray s.whole)) in
        go (kinds_of tray i (omega arith) s) z.0
      where
        go : OnTray (kind_of (body_at tray i)) → length (body_at tray i) ≡ 94 → Carries (body_at tray i)
        go (inl k) z = inl (k, z)
        go (inr (inl k)) z = inr (inl (k, z))
        go (inr (inr k)) z = inr (inr (k, z))

    from : (k i : ℕ) → i + k ≡ length tray / 96 → Plain (drop i (bodies tray))
    from zero i e = rw (bodies_none tray i (omega arith)) tt
    from (suc k) i e = rw (bodies_at tray i (omega arith)) (one i (omega arith), from k (i + 1) (omega arith))

-- the records that are left begin with a batch header
pub record First (tray : List ℕ) (n : Numbering) : Type 0 where
  pub kind : kind_of (body_at tray 0) ≡ BatchHeader
  pub long : length (body_at tray 0) ≡ 94
  pub plain : Plain (drop 1 (bodies tray))
  pub batches : (through n (take (length (own_of (numbered_from (after BatchHeader n) (drop 1 (bodies tray)))) + 1) (bodies tray))).batches ≡ suc n.batches
  pub all : numbered_from n (bodies tray) ≡ numbered (n.batches + 1) (body_at tray 0) ∷ numbered_from (after BatchHeader n) (drop 1 (bodies tray))

module _ (n : Numbering) (r : List ℕ) (rs : List (List ℕ)) (k : kind_of r ≡ BatchHeader) where
  headed : numbered_from n (r ∷ rs) ≡ numbered (n.batches + 1) r ∷ numbered_from (after BatchHeader n) rs
  unfolding numbering after batches_after individuals_after numbered_by
  headed = rw (k, add-one) refl

  one_batch : Plain rs → (through n (take (length (own_of (numbered_from (after BatchHeader n) rs)) + 1) (r ∷ rs))).batches ≡ suc n.batches
  unfolding through after batches_after
  one_batch p =
      rw add-one (ap (λ (q : Kind). (through (after q n) (take (length (own_of (numbered_from (after BatchHeader n) rs))) rs)).batches) k ∙ own_batches (after BatchHeader n) rs p)

pub first_of : (tray : List ℕ) (n : Numbering) → Sound tray → 96 ≤ length tray → Heads (numbered_from n (bodies tray)) → First tray n
unfolding numbering
first_of tray n s l h =
    let e : bodies tray ≡ body_at tray 0 ∷ drop 1 (bodies tray) = bodies_at tray 0 (omega arith) in
    let z : Plain (body_at tray 0 ∷ drop 1 (bodies tray)) = rw e at (plain_bodies tray s) in
    let y = plain_sized (body_at tray 0 ∷ drop 1 (bodies tray)) z in
    let g : Heads (numbered_from n (body_at tray 0 ∷ drop 1 (bodies tray))) = rw e at h in
    let k : kind_of (body_at tray 0) ≡ BatchHeader =
    sym (kind_kept (kind_of (body_at tray 0)) n.batches n.individuals (body_at tray 0) (omega (arith, y.0))) ∙ g.0 in
    record {
      kind = k;
      long = y.0;
      plain = z.1;
      batches = rw e (one_batch n (body_at tray 0) (drop 1 (bodies tray)) k z.1);
      all = ap (numbered_from n) e ∙ headed n (body_at tray 0) (drop 1 (bodies tray)) k;
    }
