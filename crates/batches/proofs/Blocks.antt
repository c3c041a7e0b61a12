-- Blocks: how long one is, and that controls put among records are those of their blocks.
use Prim.Native.Nat.{ℕ, zero, suc, ◌+◌, ◌*◌}
use mathlib.Core.List.{List, [], ◌∷◌, ◌++◌, append-nil, append_assoc}
use mathlib.Core.Logic.{◌⊎◌, inl, inr}
use mathlib.Core.Path.{◌≡◌, refl, sym, ap, ◌∙◌}
use native.Mathlib.Omega.{arith}
use lib.ListN.{length, length-append}
use Rattle.paper.specs.declared.record.Kind.TheVariants.{Individual, Additional}
use Rattle.paper.specs.Controls.{zeros}
use Rattle.paper.specs.Reading.{Reckoning, counted}
use Rattle.paper.specs.Writing.{joined, numbered, batch_control_of, settled, owed_before, settled_before, with_controls}
use Rattle.paper.proofs.Grouping.{Is}
use Rattle.paper.proofs.Lists.{Sized, sized_append, joined_append, length_joined, length_numbered}
use Rattle.paper.proofs.Closing.{length_batch_control}
use Rattle.batches.specs.Blocks.{with_record, tallied, block}
use Rattle.batches.proofs.Own.{Within}

pub block_bytes : (n : ℕ) (header : List ℕ) (own : List (List ℕ))
    → joined (block n header own) ≡ numbered n header ++ joined own ++ batch_control_of (numbered n header) (tallied zeros own)
unfolding block joined
block_bytes n header own =
    let c : List ℕ = batch_control_of (numbered n header) (tallied zeros own) in
    rw (joined_append own (c ∷ []), append-nil c) (sym (append_assoc (numbered n header) (joined own) c))

pub length_block : (n : ℕ) (header : List ℕ) (own : List (List ℕ)) → length header ≡ 94 → Sized 94 own
    → length (joined (block n header own)) ≡ (length own + 2) * 94
unfolding block
length_block n header own h z =
    let l : length (numbered n header) ≡ 94 = length_numbered n header (omega arith) in
    let control : List (List ℕ) = batch_control_of (numbered n header) (tallied zeros own) ∷ [] in
    length_joined 94 (block n header own) (l, sized_append 94 own control z (length_batch_control (numbered n header) (tallied zeros own) l, tt))
    ∙ omega (arith, length-append own control)

-- ---- controls

-- the counts after a batch's own records
abbrev pub past : Reckoning → List (List ℕ) → Reckoning
past c rs = record { place = c.place + length rs; header = c.header; batches = c.batches; batch = tallied c.batch rs; closed = c.closed }

one_past : (c : Reckoning) (r : List ℕ) (rest : List (List ℕ)) → Is Individual r ⊎ Is Additional r → with_controls c (r ∷ rest) ≡ r ∷ with_controls (past c (r ∷ [])) rest
unfolding with_controls owed_before settled_before counted tallied with_record
one_past c r rest (inl h) = rw h.0 refl
one_past c r rest (inr h) = rw h.0 refl

-- no control comes before or among them
pub controls_past : (c : Reckoning) (rs rest : List (List ℕ)) → Within rs → with_controls c (rs ++ rest) ≡ rs ++ with_controls (past c rs) rest
unfolding tallied
controls_past c [] rest w = let e : c.place + 0 ≡ c.place = omega arith in rw e refl
controls_past c (r ∷ rs) rest w =
    let e : c.place + suc (length rs) ≡ c.place + 1 + length rs = omega arith in
    one_past c r (rs ++ rest) w.0 ∙ rw e (ap (λ (l : List (List ℕ)). r ∷ l) (controls_past (past c (r ∷ [])) rs rest w.1))

pub settled_batches : (n : ℕ) (c : Reckoning) → (settled n c).batches ≡ c.batches
unfolding settled counted
settled_batches zero c = refl
settled_batches (suc n) c = refl
