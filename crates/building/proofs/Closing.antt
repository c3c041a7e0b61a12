-- Records closed by their controls, batch by batch.
use Prim.Native.Nat.{ℕ, suc, ◌+◌}
use mathlib.Core.List.{List, [], ◌∷◌, ◌++◌, append_assoc}
use mathlib.Core.Logic.{◌⊎◌, inl, inr}
use mathlib.Core.Path.{◌≡◌, refl, sym, ap, ◌∙◌}
use native.Mathlib.Omega.{arith}
use lib.ListN.{length, drop}
use Rattle.paper.specs.declared.record.Kind.TheVariants.{FileHeader, BatchHeader, Individual, Additional}
use Rattle.paper.specs.Controls.{zeros, plus}
use Rattle.paper.specs.Reading.{Reckoning, nothing_counted, counted}
use Rattle.paper.specs.Writing.{batch_control_of, file_control_of, owed, settled, owed_before, settled_before, ending, with_controls}
use Rattle.paper.proofs.Grouping.{Is}
use Rattle.paper.proofs.Lists.{Sized}
use Rattle.batches.specs.Blocks.{own_of, tallied}
use Rattle.batches.proofs.Own.{Within, stays}
use Rattle.batches.proofs.Blocks.{past, controls_past}

-- a record of type 5, 6 or 7
abbrev pub Carries : List ℕ → Type 0
Carries r = Is BatchHeader r ⊎ (Is Individual r ⊎ Is Additional r)

abbrev pub Plain : List (List ℕ) → Type 0
Plain [] = Unit {0}
Plain (r ∷ rs) = Carries r × Plain rs

-- no records, or a batch header first
abbrev pub Heads : List (List ℕ) → Type 0
Heads [] = Unit {0}
Heads (r ∷ rs) = Is BatchHeader r

pub plain_sized : (rs : List (List ℕ)) → Plain rs → Sized 94 rs
plain_sized [] p = tt
plain_sized (r ∷ rs) p = (long p.0, plain_sized rs p.1)
  where
    long : Carries r → length r ≡ 94
    long (inl h) = h.1
    long (inr (inl h)) = h.1
    long (inr (inr h)) = h.1

-- the records before the next batch header, and the others
record Split (rs : List (List ℕ)) : Type 0 where
  pub within : Within (own_of rs)
  pub all : rs ≡ own_of rs ++ drop (length (own_of rs)) rs
  pub heads : Heads (drop (length (own_of rs)) rs)

split : (rs : List (List ℕ)) → Plain rs → Split rs
unfolding own_of
split [] p = record { within = tt; all = refl; heads = tt }
split (r ∷ rs) p = one p.0 (split rs p.1)
  where
    one : Carries r → Split rs → Split (r ∷ rs)
    one (inl h) s = record { within = rw h.0 tt; all = rw h.0 refl; heads = rw h.0 h }
    one (inr w) s = record {
      within = rw (stays r w) (w, s.within);
      all = rw (stays r w) (ap (λ (l : List (List ℕ)). r ∷ l) s.all);
      heads = rw (stays r w) s.heads;
    }

-- what is still to be written once all batches so far are closed
unfoldable pub remaining : Reckoning → List (List ℕ) → List (List ℕ)
remaining d [] = file_control_of (d.place + 1) d.batches d.closed ∷ []
remaining d (h ∷ rs) = h ∷ with_controls (counted BatchHeader d h) rs

-- the open batch is closed first
controls_remaining : (c : Reckoning) (rs : List (List ℕ)) → Heads rs → with_controls c rs ≡ owed c.batches c ++ remaining (settled c.batches c) rs
unfolding remaining with_controls ending owed_before settled_before
controls_remaining c [] h = refl
controls_remaining c (r ∷ rs) h = rw h.0 refl

-- what stands before the first batch is counted by no control
pub record Begun (header : List ℕ) (rs : List (List ℕ)) : Type 0 where
  pub counts : Reckoning
  pub place : counts.place ≡ length (own_of rs) + 1
  pub batches : counts.batches ≡ 0
  pub closed : counts.closed ≡ zeros
  pub all : with_controls (counted FileHeader nothing_counted header) rs ≡ own_of rs ++ remaining counts (drop (length (own_of rs)) rs)
  pub heads : Heads (drop (length (own_of rs)) rs)

pub begins : (header : List ℕ) (rs : List (List ℕ)) → Plain rs → Begun header rs
unfolding counted nothing_counted owed settled
begins header rs p =
    let s = split rs p in
    let own : List (List ℕ) = own_of rs in
    let rest : List (List ℕ) = drop (length own) rs in
    let c : Reckoning = counted FileHeader nothing_counted header in
    let inside = controls_past c own rest s.within in
    let d : Reckoning = past c own in
    record {
      counts = d;
      place = omega arith;
      batches = refl;
      closed = refl;
      all = ap (with_controls c) s.all ∙ inside ∙ ap (λ (l : List (List ℕ)). own ++ l) (controls_remaining d rest s.heads);
      heads = s.heads;
    }

-- a batch header, its records, its control, and what comes after
pub record Closed (d : Reckoning) (header : List ℕ) (rs : List (List ℕ)) : Type 0 where
  pub counts : Reckoning
  pub place : counts.place ≡ d.place + (length (own_of rs) + 2)
  pub batches : counts.batches ≡ suc d.batches
  pub closed : counts.closed ≡ plus d.closed (tallied zeros (own_of rs))
  pub all : remaining d (header ∷ rs)
      ≡ (header ∷ (own_of rs ++ batch_control_of header (tallied zeros (own_of rs)) ∷ [])) ++ remaining counts (drop (length (own_of rs)) rs)
  pub heads : Heads (drop (length (own_of rs)) rs)

pub closes : (d : Reckoning) (header : List ℕ) (rs : List (List ℕ)) → Plain rs → Closed d header rs
unfolding remaining counted owed settled
closes d header rs p =
    let s = split rs p in
    let own : List (List ℕ) = own_of rs in
    let rest : List (List ℕ) = drop (length own) rs in
    let c : Reckoning = counted BatchHeader d header in
    let inside = controls_past c own rest s.within in
    let e : Reckoning = past c own in
    let control : List ℕ = batch_control_of header (tallied zeros own) in
    let later : Reckoning = settled e.batches e in
    record {
      counts = later;
      place = omega arith;
      batches = refl;
      closed = refl;
      all = ap (λ (l : List (List ℕ)). header ∷ l)
          (ap (with_controls c) s.all ∙ inside ∙ ap (λ (l : List (List ℕ)). own ++ l) (controls_remaining e rest s.heads) ∙ sym (append_assoc own (control ∷ []) (remaining later rest)));
      heads = s.heads;
    }
