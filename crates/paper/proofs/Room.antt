-- An origin has 36 identifiers, so no position leaves 64 bits.
use Prim.Native.Nat.{ℕ, zero, suc, ◌+◌, ◌*◌, ◌≤◌, ◌<◌, ◌^◌}
use native.Mathlib.Omega.{arith}
use mathlib.Core.Bool.{Bool, true, false, cond}
use mathlib.Core.List.{[], List, ◌∷◌, ◌++◌}
use mathlib.Core.Path.{◌≡◌, refl, ap, ◌∙◌}
use lib.Dec.{ltb}
use lib.IntN.{ℤ, pos, nat_abs}
use lib.ListN.{length, get_or, length-append, set, replicate, get_or-eq_default}
use borrow.Author.Tests.{ltb-true, ltb-false}
use Rattle.paper.specs.declared.ledger.Cell.{Cell}
use Rattle.paper.specs.Answers.{Said, accepted, refused}
use Rattle.paper.specs.Postings.{Posting, postings, position, sent, received}
use Rattle.paper.specs.Sessions.{Session, zero_cell, new_session, key_of, answer_to, session_after, presenting}
use Rattle.paper.specs.Demands.{with_accepted, Arose, opened, presented, postings_of, Touched, session_sides}
use Rattle.paper.proofs.Sums.{Adds, one_adds}
use Rattle.paper.proofs.Places.{AllSound, sound_append, postings_sound, postings_count}
use Rattle.paper.proofs.Bounds.{position_bound, count_bound}
use Rattle.paper.proofs.Figures.{postings_of_snoc, opened_by, cells_came, figures}
use Rattle.paper.proofs.Own.{presented_new}
use Rattle.paper.proofs.Identifiers.{identifier_lt, key_lt, used_length}

-- how many marks are set
unfoldable marks : List Bool → ℕ
marks [] = 0
marks (b ∷ bs) = cond b 1 0 + marks bs

marks_bound : (bs : List Bool) → marks bs ≤ length bs
unfolding marks
marks_bound [] = omega arith
marks_bound (true ∷ bs) = omega (arith, marks_bound bs)
marks_bound (false ∷ bs) = omega (arith, marks_bound bs)

marks_more : (bs : List Bool) (k : ℕ) → k < length bs → get_or bs k false ≡ false → marks (set bs k true) ≡ marks bs + 1
unfolding marks
marks_more [] k l e = absurd (omega arith)
marks_more (b ∷ bs) zero l e = rw e (omega arith)
marks_more (b ∷ bs) (suc k) l e = omega (arith, marks_more bs k (omega arith) e)

marks_none : (n : ℕ) → marks (replicate n false) ≡ 0
unfolding marks
marks_none zero = refl
marks_none (suc n) = omega (arith, marks_none n)

length_snoc : (fs : List (List ℕ)) (f : List ℕ) → length (fs ++ f ∷ []) ≡ length fs + 1
length_snoc fs f = length-append fs (f ∷ [])

marks_files : {s : Session} {files : List (List ℕ)} → Arose s files → marks s.used ≡ length files
unfolding new_session presenting session_after answer_to with_accepted
marks_files (opened date currency entities) = opened_by (λ s. marks s.used ≡ 0) (λ d c es. marks_none 18000) date currency entities
marks_files (presented {s} {files} c file) = go (answer_to s file) refl (marks_files c)
  where
    go : (a : Said) → answer_to s file ≡ a → marks s.used ≡ length files → marks (session_after a s file).used ≡ length (with_accepted a files file)
    go (refused n place) e h = h
    go accepted e h =
        let p = presented_new s file e in
        let l : key_of file < length s.used = omega (arith, key_lt file (identifier_lt s.rules file p.0), used_length c) in
        marks_more s.used (key_of file) l p.1 ∙ omega (arith, length_snoc files file)

-- no more than 18,000 files are accepted
pub files_bound : {s : Session} {files : List (List ℕ)} → Arose s files → length files ≤ 18000
files_bound {s} c = omega (arith, marks_bound s.used, marks_files c, used_length c)

-- the postings of the accepted files
record Posted (s : Session) (files : List (List ℕ)) : Type 0 where
  sound : AllSound s.rules (postings_of files)
  count : length (postings_of files) ≤ length files * 10000

posted_came : {s : Session} {files : List (List ℕ)} → Arose s files → Posted s files
unfolding postings_of presenting answer_to session_after with_accepted
posted_came (opened date currency entities) = record { sound = tt; count = omega arith }
posted_came (presented {s} {files} c file) = go (answer_to s file) refl (posted_came c)
  where
    go : (a : Said) → answer_to s file ≡ a → Posted s files → Posted (session_after a s file) (with_accepted a files file)
    go (refused n place) e b = b
    go accepted e b =
        let p = (presented_new s file e).0 in
        let q : postings_of (files ++ file ∷ []) ≡ postings_of files ++ postings file = postings_of_snoc files file in
        record {
          sound = rw q (sound_append s.rules (postings_of files) (postings file) b.sound (postings_sound s.rules file p));
          count = rw (q, length-append (postings_of files) (postings file), length_snoc files file) (omega (arith, b.count, postings_count s.rules file p));
        }

-- no accepted record names an entity that is not on the roster, or 0
pub sound_came : {s : Session} {files : List (List ℕ)} → Arose s files → AllSound s.rules (postings_of files)
sound_came c = (posted_came c).sound

-- ---- figures that add up what postings say

-- a cell holds what postings say, added up over entities
pub record Totalled (total : (ℕ → ℤ) → ℤ) (c : Cell) (ps : List Posting) : Type 0 where
  pub position : c.position ≡ total (λ e. position e ps)
  pub sent : pos c.sent ≡ total (λ e. pos (sent e ps))
  pub received : pos c.received ≡ total (λ e. pos (received e ps))

-- 18,000 files of 10,000 records at most, and a posting has two sides
pub totalled_touched : {s : Session} {files : List (List ℕ)} {total : (ℕ → ℤ) → ℤ} {d : Cell} → Arose s files → Adds total
    → Totalled total d (postings_of files) → Touched session_sides d
totalled_touched {s} {files} c a t =
    let n : length (postings_of files) ≤ 180000000 = omega (arith, (posted_came c).count, files_bound c) in
    record {
      position = omega (arith, ap nat_abs t.position, position_bound a s.rules (postings_of files) (sound_came c));
      sent = omega (arith, ap nat_abs t.sent, count_bound a (λ p. p.sender) (postings_of files));
      received = omega (arith, ap nat_abs t.received, count_bound a (λ p. p.destination) (postings_of files));
    }

-- ---- of one cell

-- of any number: beyond the 500 cells there are zeros
pub cells_touched : {s : Session} {files : List (List ℕ)} → Arose s files → (e : ℕ) → Touched session_sides (get_or s.cells e zero_cell)
cells_touched {s} {files} c e = go (ltb e 500) refl
  where
    go : (b : Bool) → ltb e 500 ≡ b → Touched session_sides (get_or s.cells e zero_cell)
    go true h =
        let a = figures c e (ltb-true e 500 h) in
        totalled_touched c (one_adds e) (record { position = a.position; sent = ap pos a.sent; received = ap pos a.received })
    go false h =
        let l : 500 ≤ e = ltb-false e 500 h in
        rw (get_or-eq_default s.cells zero_cell {n = e} (omega (arith, cells_came c))) (record { position = omega arith; sent = omega arith; received = omega arith })

-- no position leaves 64 bits
pub position_fits : {s : Session} {files : List (List ℕ)} → Arose s files → (e : ℕ) → e < 500
    → nat_abs (get_or s.cells e zero_cell).position < 2 ^ 63
position_fits c e l = omega (arith, (cells_touched c e).position)

-- and no count does
pub counts_fit : {s : Session} {files : List (List ℕ)} → Arose s files → (e : ℕ) → e < 500
    → ((get_or s.cells e zero_cell).sent < 2 ^ 64) × ((get_or s.cells e zero_cell).received < 2 ^ 64)
counts_fit c e l = let t = cells_touched c e in (omega (arith, t.sent), omega (arith, t.received))
