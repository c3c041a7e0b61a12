-- What holds of one call of share, of any file and whatever was lent: each hypothesis is what a call says.
use Prim.Native.Nat.{ℕ, ◌≤◌, ◌<◌}
use native.Mathlib.Omega.{arith}
use mathlib.Core.Bool.{Bool, true, false, cond}
use mathlib.Core.List.{List, [], ◌∷◌}
use mathlib.Core.Logic.{◌↔◌, inl, inr}
use mathlib.Core.Path.{◌≡◌, refl, sym, ap, ◌∙◌}
use lib.ListN.{length, drop}
use borrow.Author.Tests.{leb-true, leb-false, le-leb, eq-eqb, eqb-true}
use Rattle.std.specs.Prelude.{Some, None, Ok, Err}
use Rattle.paper.specs.declared.answer.Fault.{Fault}
use Rattle.paper.specs.Answers.{Answer, Output, refusal, number_of}
use Rattle.paper.specs.Extract.{Item, is_to, items_to, extract}
use Rattle.paper.specs.Receiving.{receiving}
use Rattle.paper.specs.Demands.{items_of, addressee}
use Rattle.desk.specs.declared.Session.{Session}
use Rattle.desk.specs.Standing.{rules_of}
use Rattle.desk.specs.Lent.{handed}
use Rattle.desk.specs.Calls.{Receives, Extracts}
use Rattle.demands.specs.Extracts.{Extractable, ExtractFaulty}
use Rattle.demands.proofs.Extracts.{extract_refused, extract_exactly, extract_held, extract_keeps_length, extract_inside}
use Rattle.demands.proofs.Naming.{extract_named}
use Rattle.demands.proofs.Receiving.{extract_received}
use Rattle.sharing.specs.Shares.{Part, holds_to, Shares}
use Rattle.sharing.specs.HandOut.{bytes_of, Addressed}
use Rattle.sharing.proofs.Parts.{output_of, part_of, part_once, gets_nothing, gets_some, gets_part}

-- ---- a file holds a record to E exactly where one of its items is addressed to E

addressed_to : (e : ℕ) (is : List Item) → Addressed e is → 1 ≤ length (items_to e is)
unfolding items_to is_to addressee
addressed_to e [] a = absurd a
addressed_to e (i ∷ is) (inl q) = rw (eq-eqb _ e q) (omega arith)
addressed_to e (i ∷ is) (inr a) = go (is_to e i.individual) (addressed_to e is a)
  where
    go : (b : Bool) → 1 ≤ length (items_to e is) → 1 ≤ length (cond b (i ∷ items_to e is) (items_to e is))
    go true l = omega arith
    go false l = l

to_addressed : (e : ℕ) (is : List Item) → 1 ≤ length (items_to e is) → Addressed e is
unfolding items_to is_to addressee
to_addressed e [] l = absurd (omega arith)
to_addressed e (i ∷ is) l = go (is_to e i.individual) refl l (λ k. to_addressed e is k)
  where
    go : (b : Bool) → is_to e i.individual ≡ b → 1 ≤ length (cond b (i ∷ items_to e is) (items_to e is)) → (1 ≤ length (items_to e is) → Addressed e is)
        → Addressed e (i ∷ is)
    go true q l rest = inl (eqb-true _ e q)
    go false q l rest = inr (rest l)

pub addressed_exactly : (e : ℕ) (file : List ℕ) → Addressed e (items_of file) ↔ (holds_to e file ≡ true)
unfolding holds_to
addressed_exactly e file = ((λ a. le-leb 1 _ (addressed_to e (items_of file) a)), λ h. to_addressed e (items_of file) (leb-true 1 _ h))

pub none_to : (e : ℕ) (file : List ℕ) → holds_to e file ≡ false → items_to e (items_of file) ≡ []
unfolding holds_to
none_to e file h = go (items_to e (items_of file)) (leb-false 1 _ h)
  where
    go : (is : List Item) → length is < 1 → is ≡ []
    go [] l = refl
    go (i ∷ is) l = absurd (omega arith)

-- one way or the other
pub by : {A : Type 0} (b : Bool) → (b ≡ true → A) → (b ≡ false → A) → A
by true f g = f refl
by false f g = g refl

-- nothing is neither bytes nor a refusal
apart : (r : Part) (o : Output) → r ≡ Ok None → r ≡ part_of o → ⊥
apart r (Ok n) p q = let z : ◌≡◌ {A = ℕ} 0 1 = cc in omega arith
apart r (Err x) p q = let z : ◌≡◌ {A = ℕ} 0 1 = cc in omega arith

-- ---- one call

module _ (s : Session) (e : ℕ) (file before : List ℕ) (r : Part) (after : List ℕ) (h : Shares s e file before r after) where
  -- one outcome only: two calls that are lent the same hand out the same and leave the same bytes
  pub share_once : (q : Part) (later : List ℕ) → Shares s e file before q later → (r ≡ q) × (after ≡ later)
  share_once q later k = part_once r q after later (h ∙ sym k)

  none : holds_to e file ≡ false → (r ≡ Ok None) × (after ≡ before)
  none = gets_nothing (rules_of s) e file before r after h

  cut : holds_to e file ≡ true → Extracts s e file before (output_of r) after
  cut = gets_some (rules_of s) e file before r after h

  same : holds_to e file ≡ true → {o : Output} → output_of r ≡ o → r ≡ part_of o
  same y q = gets_part (rules_of s) e file before r after h y ∙ ap part_of q

  -- bytes and refusals are for who is addressed
  some : (o : Output) → r ≡ part_of o → holds_to e file ≡ true
  some o p = by (holds_to e file) (λ y. y) (λ n. absurd (apart r o (none n).0 p))

  -- nothing is handed out exactly where none of the file's items is addressed to E
  -- (not so with a file for every entity on the roster, or with nothing for who has one record)
  pub nothing_exactly : (r ≡ Ok None) ↔ (Addressed e (items_of file) → ⊥)
  nothing_exactly = (
    (λ p a. apart r (output_of r) p (same ((addressed_exactly e file).0 a) refl)),
    λ n. by (holds_to e file) (λ y. absurd (n ((addressed_exactly e file).1 y))) (λ y. (none y).0),
  )

  -- bytes are handed out exactly where one is, E is 1 to 499 and on the roster, the reading accepts and there is room
  pub bytes_exactly : (Addressed e (items_of file) → Extractable s e file before → r ≡ Ok (Some (length (extract s.rules.currency e file))))
      × ((n : ℕ) → r ≡ Ok (Some n) → Addressed e (items_of file) × Extractable s e file before)
  bytes_exactly = (
    (λ a x. let y = (addressed_exactly e file).0 a in same y ((extract_exactly s e file before (output_of r) after (cut y)).0 x)),
    λ n p. let y = some (Ok n) p in ((addressed_exactly e file).1 y, (extract_exactly s e file before (output_of r) after (cut y)).1 n (ap output_of p)),
  )

  -- a refusal, exactly where one is: the first of 208, the reading's refusals and 206
  pub refused_exactly : (fault : Fault) (place : ℕ)
      → (r ≡ refusal fault place) ↔ (Addressed e (items_of file) × ExtractFaulty s e file before (number_of fault) place)
  refused_exactly fault place = (
    (λ p. let y = some (refusal fault place) p in ((addressed_exactly e file).1 y, (extract_named s e file before (output_of r) after (cut y) fault place).0 (ap output_of p))),
    λ x. let y = (addressed_exactly e file).0 x.0 in same y ((extract_named s e file before (output_of r) after (cut y) fault place).1 x.1),
  )

  all_handed : {n : ℕ} → r ≡ Ok (Some n) → bytes_of r after ≡ handed (output_of r) after
  unfolding bytes_of handed
  all_handed p = ap (λ (q : Part). bytes_of q after) p ∙ ap (λ (q : Part). handed (output_of q) after) (sym p)

  -- the bytes are the extract, their number is its length, and the rest of the buffer stays
  pub bytes_held : {n : ℕ} → r ≡ Ok (Some n)
      → (bytes_of r after ≡ extract s.rules.currency e file) × (n ≡ length (extract s.rules.currency e file)) × (drop n after ≡ drop n before)
  bytes_held {n} p =
      let x = extract_held s e file before (output_of r) after (cut (some (Ok n) p)) (ap output_of p) in
      (all_handed p ∙ x.0, x.1, x.2)

  -- they are received at E's desk, in that session or in one of the same date, currency and roster
  -- (not so with the whole file for who has one record, or with the next entity's extract)
  pub bytes_received : {n : ℕ} → r ≡ Ok (Some n) → (t : Session) → rules_of t ≡ rules_of s → (a : Answer) → Receives t e (bytes_of r after) a → a ≡ Ok tt
  bytes_received {n} p t same-rules a k =
      extract_received s e file before (output_of r) after (cut (some (Ok n) p)) (ap output_of p) t same-rules a
      (k ∙ ap (receiving (rules_of t) e) (all_handed p))

  -- nothing, and a refusal, leave the lent buffer as it was
  pub nothing_stays : r ≡ Ok None → after ≡ before
  nothing_stays p = by (holds_to e file) (λ y. absurd (apart r (output_of r) p (same y refl))) (λ y. (none y).1)

  pub refused_stays : {fault : Fault} {place : ℕ} → r ≡ refusal fault place → after ≡ before
  refused_stays p = by (holds_to e file) (λ y. extract_refused s e file before (output_of r) after (cut y) (ap output_of p)) (λ y. (none y).1)

  -- the buffer comes back as long as it was, and the number of bytes is within it
  pub share_keeps_length : length after ≡ length before
  share_keeps_length = by (holds_to e file) (λ y. extract_keeps_length s e file before (output_of r) after (cut y)) (λ y. ap length (none y).1)

  pub share_inside : {n : ℕ} → r ≡ Ok (Some n) → n ≤ length after
  share_inside {n} p = extract_inside s e file before (output_of r) after (cut (some (Ok n) p)) (ap output_of p)
