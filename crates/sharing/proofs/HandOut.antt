-- A file handed out whole: calls of share for 1 to 499 share it out among the entities on the roster.
use Prim.Native.Nat.{ℕ, ◌*◌, ◌≤◌}
use native.Mathlib.Omega.{arith}
use mathlib.Core.Bool.{Bool, true, false}
use mathlib.Core.List.{List, [], ◌∷◌}
use mathlib.Core.Logic.{inl, inr}
use mathlib.Core.Path.{◌≡◌, refl, sym, ap, ◌∙◌, subst}
use lib.Dec.{T}
use lib.ListN.{length, drop, get_or}
use borrow.Author.Tests.{leb-true}
use Rattle.std.specs.Prelude.{Some, Ok}
use Rattle.paper.specs.declared.answer.Fault.{Fault}
use Rattle.paper.specs.Answers.{accepted, refusal}
use Rattle.paper.specs.Fields.{within}
use Rattle.paper.specs.Reading.{parts, records_of, reading}
use Rattle.paper.specs.Extract.{Item, Batch, grouped, batches_of, items_to, batches_to, item_records, extract}
use Rattle.paper.specs.Demands.{items_in, items_of, carried, SharedOut, nothing_left, next_goes}
use Rattle.paper.proofs.Tests.{T_of, of_T}
use Rattle.paper.proofs.Size.{extract_length, extract_fits}
use Rattle.paper.proofs.Shared as paper-shared
use Rattle.paper.proofs.Shared.{items_in_to, extract_items, extract_records, same_hands}
use Rattle.desk.specs.declared.Session.{Session}
use Rattle.desk.specs.Standing.{rules_of}
use Rattle.sharing.specs.Shares.{Part, holds_to, Shares}
use Rattle.sharing.specs.HandOut.{bytes_of, written_for, Addressed}
use Rattle.sharing.proofs.Parts.{gets_nothing}
use Rattle.sharing.proofs.Shares.{addressed_exactly, none_to, by, bytes_exactly, refused_exactly, bytes_held}

-- who is dealt something is on the roster
dealt_listed : {roster : List Bool} {is : List Item} {hands : ℕ → List Item} → SharedOut roster is hands → (e : ℕ) → Addressed e is
    → T (within 1 499 e) × T (get_or roster e false)
dealt_listed (nothing_left q) e a = absurd a
dealt_listed {roster} (next_goes {i} w l q others h) e (inl p) = subst (λ (x : ℕ). T (within 1 499 x) × T (get_or roster x false)) p (w, l)
dealt_listed (next_goes w l q others h) e (inr a) = dealt_listed h e a

-- so is everybody that an accepted file has an item to
pub addressed_listed : (s : Session) (file : List ℕ) → reading (rules_of s) file ≡ accepted → (e : ℕ) → Addressed e (items_of file)
    → T (within 1 499 e) × T (get_or s.rules.roster e false)
addressed_listed s file reads e a = dealt_listed (paper-shared.shared_out (rules_of s) file reads) e a

-- items take a batch, and records
some_to : (e : ℕ) (file : List ℕ) → holds_to e file ≡ true → 1 ≤ length (items_to e (items_of file))
unfolding holds_to
some_to e file y = leb-true 1 _ y

some_batch : (e : ℕ) (bs : List Batch) → 1 ≤ length (items_to e (items_in bs)) → 1 ≤ length (batches_to e bs)
unfolding items_in
some_batch e bs l = go (batches_to e bs) (items_in_to e bs)
  where
    go : (cs : List Batch) → items_in cs ≡ items_to e (items_in bs) → 1 ≤ length cs
    go [] q = absurd (omega (arith, ap length q))
    go (c ∷ cs) q = omega arith

some_record : (is : List Item) → 1 ≤ length is → 1 ≤ length (item_records is)
unfolding item_records
some_record [] l = l
some_record (i ∷ is) l = omega arith

abbrev AllCarried : List ℕ → Type 0
AllCarried file = item_records (items_of file) ≡ carried (records_of file)

no_items : items_of [] ≡ []
unfolding items_of items_in batches_of grouped records_of parts
no_items = refl

none_carried : AllCarried []
unfolding items_of items_in item_records batches_of grouped records_of parts carried
none_carried = refl

-- a call for each of 1 to 499, with a buffer as long as the file for every entity on the roster
module _ (s : Session) (file : List ℕ) (before after : ℕ → List ℕ) (r : ℕ → Part) (reads : reading (rules_of s) file ≡ accepted)
    (calls : (e : ℕ) → T (within 1 499 e) → Shares s e file (before e) (r e) (after e))
    (room : (e : ℕ) → T (within 1 499 e) → T (get_or s.rules.roster e false) → length file ≤ length (before e)) where
  -- a file is written for E exactly where one of the file's items is addressed to E
  -- (not so with a file for everybody on the roster, or with nothing for who has one record)
  pub written_exactly : (e : ℕ) → T (within 1 499 e)
      → ((n : ℕ) → r e ≡ Ok (Some n) → Addressed e (items_of file)) × (Addressed e (items_of file) → r e ≡ Ok (Some (length (extract s.rules.currency e file))))
  written_exactly e w =
      let x = bytes_exactly s e file (before e) (r e) (after e) (calls e w) in (
        (λ n p. (x.1 n p).0),
        λ a. let l = (addressed_listed s file reads e a).1 in
            let fits = extract_fits (rules_of s) e file reads in
            let enough = room e w l in
            x.0 a (record { entity = w; listed = l; reads = reads; room = omega arith }),
      )

  -- no call is refused
  pub never_refused : (e : ℕ) → T (within 1 499 e) → {fault : Fault} {place : ℕ} → r e ≡ refusal fault place → ⊥
  never_refused e w {fault} {place} p =
      let a = ((refused_exactly s e file (before e) (r e) (after e) (calls e w) fault place).0 p).0 in
      let q = (written_exactly e w).1 a in
      let z : ◌≡◌ {A = ℕ} 0 1 = cc in
      omega arith

  -- who gets a file is on the roster, it is the extract, the number of bytes is its length, and the rest of the buffer stays
  pub written_held : (e : ℕ) → T (within 1 499 e) → {n : ℕ} → r e ≡ Ok (Some n)
      → T (get_or s.rules.roster e false) × (bytes_of (r e) (after e) ≡ extract s.rules.currency e file) × (n ≡ length (extract s.rules.currency e file))
      × (drop n (after e) ≡ drop n (before e))
  written_held e w {n} p =
      let x = bytes_held s e file (before e) (r e) (after e) (calls e w) p in
      ((addressed_listed s file reads e ((written_exactly e w).0 n p)).1, x.0, x.1, x.2)

  -- and none is empty: file header and control, both of a batch, and a record
  pub written_size : (e : ℕ) → T (within 1 499 e) → {n : ℕ} → r e ≡ Ok (Some n) → 5 * 94 ≤ n
  unfolding items_of
  written_size e w {n} p =
      let y = (addressed_exactly e file).0 ((written_exactly e w).0 n p) in
      let l = some_to e file y in
      omega (arith, (written_held e w p).2, extract_length (rules_of s) e file reads, some_batch e (batches_of file) l, some_record (items_to e (items_of file)) l)

  is_extract : (e : ℕ) → holds_to e file ≡ true → written_for r after e ≡ extract s.rules.currency e file
  unfolding written_for
  is_extract e y =
      let a = (addressed_exactly e file).1 y in
      let w = (addressed_listed s file reads e a).0 in
      rw (of_T (within 1 499 e) w) (written_held e w ((written_exactly e w).1 a)).1

  is_empty : (e : ℕ) → holds_to e file ≡ false → written_for r after e ≡ []
  unfolding written_for bytes_of
  is_empty e y = by (within 1 499 e) (λ w. rw (w, (gets_nothing (rules_of s) e file (before e) (r e) (after e) (calls e (T_of w)) y).0)) (λ w. rw w)

  in_hand : (e : ℕ) → items_of (extract s.rules.currency e file) ≡ items_of (written_for r after e)
  in_hand e =
      by (holds_to e file)
      (λ y. ap items_of (sym (is_extract e y)))
      (λ y. extract_items (rules_of s) e file reads ∙ none_to e file y ∙ sym (ap items_of (is_empty e y) ∙ no_items))

  -- each individual record with its additionals stands in exactly one of the files written, its addressee's, in the file's order
  -- (not so with a file for its sender too, or with the next entity's extract under an entity's name)
  pub shared_out : SharedOut s.rules.roster (items_of file) (λ e. items_of (written_for r after e))
  shared_out = same_hands in_hand (paper-shared.shared_out (rules_of s) file reads)

  -- and no individual or additional record stands in a file written beside these
  pub nothing_beside : (e : ℕ) → item_records (items_of (written_for r after e)) ≡ carried (records_of (written_for r after e))
  nothing_beside e =
      by (holds_to e file)
      (λ y. subst AllCarried (sym (is_extract e y)) (extract_records (rules_of s) e file reads))
      (λ y. subst AllCarried (sym (is_empty e y)) none_carried)
