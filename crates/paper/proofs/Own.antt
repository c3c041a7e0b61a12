-- Demand 3, positions and counts: they depend on the accepted records that name the entity only.
use Prim.Native.Nat.{ℕ, ◌<◌}
use mathlib.Core.Bool.{Bool, true, false, cond, not}
use mathlib.Core.List.{[], List, ◌∷◌, ◌++◌, append-nil, append_assoc, map}
use mathlib.Core.Path.{◌≡◌, refl, sym, ap, ◌∙◌, ap₂}
use lib.Dec.{T}
use lib.ListN.{get_or}
use Rattle.paper.specs.declared.record.Kind.{Kind}
use Rattle.paper.specs.declared.record.Kind.TheVariants.{FileHeader, BatchHeader, Individual, Additional, BatchControl, FileControl, Other}
use Rattle.paper.specs.Answers.{Said, accepted, refused, require}
use Rattle.paper.specs.Fields.{field}
use Rattle.paper.specs.Entities.{entity}
use Rattle.paper.specs.Kinds.{kind_of}
use Rattle.paper.specs.Reading.{records_of, reading}
use Rattle.paper.specs.Postings.{Posting, posting, posted_by, own_postings}
use Rattle.paper.specs.Sessions.{Session, zero_cell, key_of, answer_to, presenting}
use Rattle.paper.specs.Demands.{with_accepted, Arose, opened, presented, postings_of, all_records, names, naming, Equal}
use Rattle.paper.proofs.Refusals.{both_accept, required}
use Rattle.paper.proofs.Sums.{named_by, postings_naming, own_same}
use Rattle.paper.proofs.Places.{postings_own}
use Rattle.paper.proofs.Figures.{postings_of_snoc, figures}

own_append : (a b : List (List ℕ)) → own_postings (a ++ b) ≡ own_postings a ++ own_postings b
unfolding own_postings
own_append [] b = refl
own_append (r ∷ a) b = ap (λ (l : List Posting). posted_by (kind_of r) (entity (field r 80 87)) r ++ l) (own_append a b) ∙ sym (append_assoc (posted_by (kind_of r) (entity (field r 80 87)) r) (own_postings a) (own_postings b))

all_snoc : (fs : List (List ℕ)) (f : List ℕ) → all_records (fs ++ f ∷ []) ≡ all_records fs ++ records_of f
unfolding all_records
all_snoc [] f = append-nil (records_of f)
all_snoc (x ∷ fs) f = ap (λ (l : List (List ℕ)). records_of x ++ l) (all_snoc fs f) ∙ sym (append_assoc (records_of x) (all_records fs) (records_of f))

-- a presentation that is accepted was accepted by the reading, and its key was new
pub presented_new : (s : Session) (file : List ℕ) → answer_to s file ≡ accepted
    → (reading s.rules file ≡ accepted) × (get_or s.used (key_of file) false ≡ false)
unfolding answer_to
presented_new s file h =
    let used : Bool = get_or s.used (key_of file) false in
    let p = both_accept (reading s.rules file) (require (not used) 209 0) h in
    (p.0, new used (required (not used) 209 0 p.1))
  where
    new : (u : Bool) → T (not u) → u ≡ false
    new true t = absurd t
    new false t = refl

-- the postings of the files accepted are those of their records
postings_came : {s : Session} {files : List (List ℕ)} → Arose s files → postings_of files ≡ own_postings (all_records files)
unfolding postings_of all_records own_postings presenting answer_to with_accepted
postings_came (opened date currency entities) = refl
postings_came (presented {s} {files} c file) = go (answer_to s file) refl (postings_came c)
  where
    go : (a : Said) → answer_to s file ≡ a → postings_of files ≡ own_postings (all_records files)
        → postings_of (with_accepted a files file) ≡ own_postings (all_records (with_accepted a files file))
    go (refused n place) e h = h
    go accepted e h =
        postings_of_snoc files file
        ∙ ap₂ ◌++◌ h (postings_own s.rules file (presented_new s file e).0)
        ∙ sym (ap own_postings (all_snoc files file) ∙ own_append (all_records files) (records_of file))

own_posting : List ℕ → Posting
own_posting r = posting (entity (field r 80 87)) r

naming_own : (e : ℕ) (rs : List (List ℕ)) → postings_naming e (own_postings rs) ≡ map own_posting (naming e rs)
unfolding postings_naming own_postings naming posted_by names named_by posting own_posting
naming_own e [] = refl
naming_own e (r ∷ rs) = step (kind_of r) (naming_own e rs)
  where
    six : (b : Bool) → postings_naming e (own_postings rs) ≡ map own_posting (naming e rs)
        → cond b (own_posting r ∷ postings_naming e (own_postings rs)) (postings_naming e (own_postings rs)) ≡ map own_posting (cond b (r ∷ naming e rs) (naming e rs))
    six true h = ap (λ (l : List Posting). own_posting r ∷ l) h
    six false h = h

    step : (k : Kind) → postings_naming e (own_postings rs) ≡ map own_posting (naming e rs)
        → postings_naming e (posted_by k (entity (field r 80 87)) r ++ own_postings rs) ≡ map own_posting (cond (names k e r) (r ∷ naming e rs) (naming e rs))
    step FileHeader h = h
    step BatchHeader h = h
    step Individual h = six (names Individual e r) h
    step Additional h = h
    step BatchControl h = h
    step FileControl h = h
    step Other h = h

-- if in two sessions the accepted records that name E as sender or receiver form the same list, E's position and counts are equal
pub own_records : {s t : Session} {fs gs : List (List ℕ)} → Arose s fs → Arose t gs → (e : ℕ) → e < 500
    → naming e (all_records fs) ≡ naming e (all_records gs) → Equal (get_or s.cells e zero_cell) (get_or t.cells e zero_cell)
own_records {fs = fs} {gs = gs} c d e l h =
    let a = figures c e l in
    let b = figures d e l in
    let n = ap (postings_naming e) (postings_came c) ∙ naming_own e (all_records fs) ∙ ap (map own_posting) h ∙ sym (naming_own e (all_records gs)) ∙ sym (ap (postings_naming e) (postings_came d)) in
    let o = own_same e (postings_of fs) (postings_of gs) n in
    record { position = a.position ∙ o.position ∙ sym b.position; sent = a.sent ∙ o.sent ∙ sym b.sent; received = a.received ∙ o.received ∙ sym b.received }
