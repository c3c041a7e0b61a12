-- Positions add up to zero; over a concatenation figures add; an entity's own depend only on the postings that name it.
use Prim.Native.Nat.{ℕ, zero, suc, ◌+◌, ◌≤◌, ◌<◌}
use native.Mathlib.Nat.{zero-add, add_assoc}
use native.Mathlib.Omega.{arith}
use mathlib.Core.Bool.{Bool, true, false, cond, not, ◌||◌}
use mathlib.Core.List.{[], List, ◌∷◌, ◌++◌}
use mathlib.Core.Path.{◌≡◌, refl, sym, ap, ◌∙◌, ap₂}
use lib.Dec.{eqb, ltb, eqb→eq}
use lib.IntN.{ℤ, pos, nat_abs, ◌+ℤ◌, +ℤ_assoc, +ℤ_idr, +ℤ_idl, +ℤ_comm, +ℤ_invr, +ℤ_invl}
use lib.ListN.{length}
use borrow.Author.Tests.{ne_eqb, eqb-false, ltb-true, ltb-false}
use Rattle.paper.specs.Postings.{Posting, signed, effect, position, how_many, sent, received}
use Rattle.paper.specs.Demands.{sum_to}

-- (a + b) + (c + d) is (a + c) + (b + d)
pub cross : (a b c d : ℤ) → (a +ℤ b) +ℤ (c +ℤ d) ≡ (a +ℤ c) +ℤ (b +ℤ d)
cross a b c d =
    +ℤ_assoc a b (c +ℤ d) ∙ ap (λ (z : ℤ). a +ℤ z) (sym (+ℤ_assoc b c d) ∙ ap (λ (z : ℤ). z +ℤ d) (+ℤ_comm b c) ∙ +ℤ_assoc c b d) ∙ sym (+ℤ_assoc a c (b +ℤ d))

pub sum_to_zero : (n : ℕ) → sum_to n (λ e. pos 0) ≡ pos 0
unfolding sum_to
sum_to_zero zero = refl
sum_to_zero (suc n) = rw (sum_to_zero n) refl

pub sum_to_same : (n : ℕ) (f g : ℕ → ℤ) → ((e : ℕ) → e < n → f e ≡ g e) → sum_to n f ≡ sum_to n g
unfolding sum_to
sum_to_same zero f g h = refl
sum_to_same (suc n) f g h = ap₂ ◌+ℤ◌ (sum_to_same n f g (λ e l. h e (omega arith))) (h n (omega arith))

pub sum_to_plus : (n : ℕ) (f g : ℕ → ℤ) → sum_to n (λ e. f e +ℤ g e) ≡ sum_to n f +ℤ sum_to n g
unfolding sum_to
sum_to_plus zero f g = refl
sum_to_plus (suc n) f g = ap (λ (z : ℤ). z +ℤ (f n +ℤ g n)) (sum_to_plus n f g) ∙ cross (sum_to n f) (sum_to n g) (f n) (g n)

-- one entity's part of a sum
unfoldable pub only : ℕ → ℤ → ℕ → ℤ
only s z e = cond (eqb e s) z (pos 0)

pub sum_to_none : (n s : ℕ) (z : ℤ) → n ≤ s → sum_to n (only s z) ≡ pos 0
unfolding sum_to only
sum_to_none zero s z h = refl
sum_to_none (suc n) s z h = rw (sum_to_none n s z (omega arith), ne_eqb n s (omega arith)) refl

pub sum_to_only : (n s : ℕ) (z : ℤ) → s < n → sum_to n (only s z) ≡ z
unfolding sum_to only
sum_to_only zero s z h = absurd (omega arith)
sum_to_only (suc n) s z h = go (eqb n s) refl (sum_to_only n s z)
  where
    go : (b : Bool) → eqb n s ≡ b → (s < n → sum_to n (only s z) ≡ z) → sum_to (suc n) (only s z) ≡ z
    go true e r = let q : n ≡ s = eqb→eq n s (rw e tt) in rw (e, sum_to_none n s z (omega arith)) (+ℤ_idl z)
    go false e r = let ne : n ≡ s → ⊥ = eqb-false n s e in rw e (+ℤ_idr (sum_to n (only s z)) ∙ r (omega arith))

-- ---- a way to add up over entities: the figure of one, or those of the first n

pub record Adds (total : (ℕ → ℤ) → ℤ) : Type 0 where
  pub none : total (λ e. pos 0) ≡ pos 0
  pub plus : (f g : ℕ → ℤ) → total (λ e. f e +ℤ g e) ≡ total f +ℤ total g
  pub part : (s : ℕ) (z : ℤ) → nat_abs (total (only s z)) ≤ nat_abs z

pub one_adds : (e : ℕ) → Adds (λ f. f e)
unfolding only
one_adds e = record { none = refl; plus = λ f g. refl; part = λ s z. go z (eqb e s) }
  where
    go : (z : ℤ) (b : Bool) → nat_abs (cond b z (pos 0)) ≤ nat_abs z
    go z true = omega arith
    go z false = omega arith

pub first_adds : (n : ℕ) → Adds (sum_to n)
first_adds n = record { none = sum_to_zero n; plus = sum_to_plus n; part = λ s z. go s z (ltb s n) refl }
  where
    go : (s : ℕ) (z : ℤ) (b : Bool) → ltb s n ≡ b → nat_abs (sum_to n (only s z)) ≤ nat_abs z
    go s z true e = rw (sum_to_only n s z (ltb-true s n e)) (omega arith)
    go s z false e = rw (sum_to_none n s z (ltb-false s n e)) (omega arith)

-- a posting adds a part at its sender and one at its destination
pub total_effect : {total : (ℕ → ℤ) → ℤ} → Adds total → (p : Posting)
    → total (λ e. effect e p) ≡ total (only p.sender (signed p.collects p.amount)) +ℤ total (only p.destination (signed (not p.collects) p.amount))
unfolding effect only
total_effect a p = a.plus (only p.sender (signed p.collects p.amount)) (only p.destination (signed (not p.collects) p.amount))

pub total_position : {total : (ℕ → ℤ) → ℤ} → Adds total → (p : Posting) (ps : List Posting)
    → total (λ e. position e (p ∷ ps)) ≡ total (λ e. effect e p) +ℤ total (λ e. position e ps)
unfolding position
total_position a p ps = a.plus (λ e. effect e p) (λ e. position e ps)

-- and counts one on either side
pub total_count : {total : (ℕ → ℤ) → ℤ} → Adds total → (side : Posting → ℕ) (p : Posting) (ps : List Posting)
    → total (λ e. pos (how_many (λ q. eqb e (side q)) (p ∷ ps))) ≡ total (only (side p) (pos 1)) +ℤ total (λ e. pos (how_many (λ q. eqb e (side q)) ps))
unfolding how_many only
total_count {total} a side p ps =
    ap total (λ i e. one (eqb e (side p)) (how_many (λ q. eqb e (side q)) ps) i)
    ∙ a.plus (only (side p) (pos 1)) (λ e. pos (how_many (λ q. eqb e (side q)) ps))
  where
    one : (b : Bool) (n : ℕ) → pos (cond b 1 0 + n) ≡ cond b (pos 1) (pos 0) +ℤ pos n
    one true n = refl
    one false n = refl

-- ---- over all entities

pub signed_not : (b : Bool) (a : ℕ) → signed b a +ℤ signed (not b) a ≡ pos 0
unfolding signed
signed_not true a = +ℤ_invr (pos a)
signed_not false a = +ℤ_invl (pos a)

-- both sides of a posting are below 500
pub record Within (p : Posting) : Type 0 where
  pub sender : p.sender < 500
  pub destination : p.destination < 500

abbrev pub AllWithin : List Posting → Type 0
AllWithin [] = Unit {0}
AllWithin (p ∷ ps) = Within p × AllWithin ps

pub within_append : (a b : List Posting) → AllWithin a → AllWithin b → AllWithin (a ++ b)
within_append [] b p q = q
within_append (x ∷ a) b p q = (p.0, within_append a b p.1 q)

effects_cancel : (p : Posting) → Within p → sum_to 500 (λ e. effect e p) ≡ pos 0
effects_cancel p w =
    total_effect (first_adds 500) p
    ∙ ap₂ ◌+ℤ◌ (sum_to_only 500 p.sender (signed p.collects p.amount) w.sender) (sum_to_only 500 p.destination (signed (not p.collects) p.amount) w.destination)
    ∙ signed_not p.collects p.amount

pub positions_cancel : (ps : List Posting) → AllWithin ps → sum_to 500 (λ e. position e ps) ≡ pos 0
unfolding position
positions_cancel [] w = sum_to_zero 500
positions_cancel (p ∷ ps) w = total_position (first_adds 500) p ps ∙ ap₂ ◌+ℤ◌ (effects_cancel p w.0) (positions_cancel ps w.1)

-- each posting counts once for one entity on either side: over all entities, sent as received
pub counts_add : (side : Posting → ℕ) → ((p : Posting) → Within p → side p < 500) → (ps : List Posting) → AllWithin ps
    → sum_to 500 (λ e. pos (how_many (λ p. eqb e (side p)) ps)) ≡ pos (length ps)
unfolding how_many
counts_add side low [] w = sum_to_zero 500
counts_add side low (p ∷ ps) w =
    total_count (first_adds 500) side p ps
    ∙ ap₂ ◌+ℤ◌ (sum_to_only 500 (side p) (pos 1) (low p w.0)) (counts_add side low ps w.1)
    ∙ ap pos (omega arith)

pub position_append : (e : ℕ) (ps qs : List Posting) → position e (ps ++ qs) ≡ position e ps +ℤ position e qs
unfolding position
position_append e [] qs = sym (+ℤ_idl (position e qs))
position_append e (p ∷ ps) qs = ap (λ (z : ℤ). effect e p +ℤ z) (position_append e ps qs) ∙ sym (+ℤ_assoc (effect e p) (position e ps) (position e qs))

pub count_append : (test : Posting → Bool) (ps qs : List Posting) → how_many test (ps ++ qs) ≡ how_many test ps + how_many test qs
unfolding how_many
count_append test [] qs = sym (zero-add (how_many test qs))
count_append test (p ∷ ps) qs = ap (λ (n : ℕ). cond (test p) 1 0 + n) (count_append test ps qs) ∙ sym (add_assoc (cond (test p) 1 0) (how_many test ps) (how_many test qs))

-- ---- an entity's own figures depend on the postings that name it only

unfoldable pub named_by : ℕ → Posting → Bool
named_by e p = eqb e p.sender || eqb e p.destination

unfoldable pub postings_naming : ℕ → List Posting → List Posting
postings_naming e [] = []
postings_naming e (p ∷ ps) = cond (named_by e p) (p ∷ postings_naming e ps) (postings_naming e ps)

pub record Own (e : ℕ) (ps qs : List Posting) : Type 0 where
  pub position : position e ps ≡ position e qs
  pub sent : sent e ps ≡ sent e qs
  pub received : received e ps ≡ received e qs

pub own : (e : ℕ) (ps : List Posting) → Own e ps (postings_naming e ps)
unfolding postings_naming position how_many named_by effect
own e [] = record { position = refl; sent = refl; received = refl }
own e (p ∷ ps) = go (eqb e p.sender) (eqb e p.destination) refl refl (own e ps)
  where
    both : named_by e p ≡ true → Own e ps (postings_naming e ps) → Own e (p ∷ ps) (postings_naming e (p ∷ ps))
    both h o = rw (h, postings_naming) (record {
      position = ap (λ (z : ℤ). effect e p +ℤ z) o.position;
      sent = ap (λ (n : ℕ). cond (eqb e p.sender) 1 0 + n) o.sent;
      received = ap (λ (n : ℕ). cond (eqb e p.destination) 1 0 + n) o.received;
    })

    go : (a b : Bool) → eqb e p.sender ≡ a → eqb e p.destination ≡ b → Own e ps (postings_naming e ps)
        → Own e (p ∷ ps) (postings_naming e (p ∷ ps))
    go true b x y o = both (rw (x, named_by)) o
    go false true x y o = both (rw (x, y, named_by)) o
    go false false x y o = rw (x, y, named_by) (record { position = rw (x, y, effect) (+ℤ_idl _ ∙ o.position); sent = rw x (zero-add _ ∙ o.sent); received = rw y (zero-add _ ∙ o.received) })

-- E's position and counts are equal where the postings that name E are the same list
pub own_same : (e : ℕ) (ps qs : List Posting) → postings_naming e ps ≡ postings_naming e qs → Own e ps qs
own_same e ps qs h = record {
  position = (own e ps).position ∙ ap (position e) h ∙ sym (own e qs).position;
  sent = (own e ps).sent ∙ ap (sent e) h ∙ sym (own e qs).sent;
  received = (own e ps).received ∙ ap (received e) h ∙ sym (own e qs).received;
}
