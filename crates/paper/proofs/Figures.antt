-- Demand 2: after any calls each entity's position and counts are the sums over the records of the files accepted; positions add up to zero, and sent counts as received.
use Prim.Native.Nat.{ℕ, zero, suc, ◌+◌, ◌≤◌, ◌<◌}
use native.Mathlib.Nat.{mod-lt, zero-add, add-zero}
use native.Mathlib.Omega.{arith}
use mathlib.Core.List.{[], List, ◌∷◌, ◌++◌, append-nil, append_assoc}
use mathlib.Core.Path.{◌≡◌, refl, sym, ap, ◌∙◌, subst}
use lib.Dec.{eqb}
use lib.IntN.{ℤ, pos, ◌+ℤ◌}
use lib.ListN.{length, get_or, replicate, length-replicate}
use Rattle.paper.specs.declared.ledger.Cell.{Cell}
use Rattle.paper.specs.declared.record.Kind.{Kind}
use Rattle.paper.specs.declared.record.Kind.TheVariants.{FileHeader, BatchHeader, Individual, Additional, BatchControl, FileControl, Other}
use Rattle.paper.specs.declared.rules.Currency.{Currency}
use Rattle.paper.specs.declared.rules.Currency.TheVariants.{Pesos}
use Rattle.paper.specs.Answers.{Said, accepted, refused}
use Rattle.paper.specs.Fields.{field}
use Rattle.paper.specs.Entities.{entity_value, entity}
use Rattle.paper.specs.Kinds.{kind_of}
use Rattle.paper.specs.Reading.{records_of}
use Rattle.paper.specs.Postings.{Posting, posting, posted_by, sender_after, postings_from, postings, position, how_many, sent, received}
use Rattle.paper.specs.Sessions.{Session, zero_cell, new_session, opening_answer, opened_with, opening, answer_to, cell_after, cells_after, session_after, presenting}
use Rattle.paper.specs.Demands.{with_accepted, Arose, opened, presented, postings_of, Agrees, sum_to}
use Rattle.paper.proofs.Sums.{sum_to_same, AllWithin, within_append, positions_cancel, counts_add, position_append, count_append}

-- ---- senders and destinations are below 500

pub entity_lt : (f : List ℕ) → entity f < 500
unfolding entity
entity_lt f = mod-lt (entity_value f) (omega arith)

within_by : (k : Kind) (sender : ℕ) (r : List ℕ) → sender < 500 → AllWithin (posted_by k sender r)
unfolding posted_by posting
within_by FileHeader s r h = tt
within_by BatchHeader s r h = tt
within_by Individual s r h = (record { sender = h; destination = entity_lt (field r 4 11) }, tt)
within_by Additional s r h = tt
within_by BatchControl s r h = tt
within_by FileControl s r h = tt
within_by Other s r h = tt

sender_by : (k : Kind) (sender : ℕ) (r : List ℕ) → sender < 500 → sender_after k sender r < 500
unfolding sender_after
sender_by FileHeader s r h = h
sender_by BatchHeader s r h = entity_lt (field r 80 87)
sender_by Individual s r h = h
sender_by Additional s r h = h
sender_by BatchControl s r h = h
sender_by FileControl s r h = h
sender_by Other s r h = h

within_from : (rs : List (List ℕ)) (sender : ℕ) → sender < 500 → AllWithin (postings_from sender rs)
unfolding postings_from
within_from [] s h = tt
within_from (r ∷ rs) s h = within_append (posted_by (kind_of r) s r) _ (within_by (kind_of r) s r h) (within_from rs (sender_after (kind_of r) s r) (sender_by (kind_of r) s r h))

within_files : (fs : List (List ℕ)) → AllWithin (postings_of fs)
unfolding postings_of postings
within_files [] = tt
within_files (f ∷ fs) = within_append (postings f) (postings_of fs) (within_from (records_of f) 0 (omega arith)) (within_files fs)

-- ---- the cells

-- the cells from entity e on
abbrev AllAgree : List Cell → ℕ → List Posting → Type 0
AllAgree [] e ps = Unit {0}
AllAgree (c ∷ cs) e ps = Agrees c e ps × AllAgree cs (e + 1) ps

new_agree : (n e : ℕ) → AllAgree (replicate n zero_cell) e []
unfolding position how_many
new_agree zero e = tt
new_agree (suc n) e = (record { position = refl; sent = refl; received = refl }, new_agree n (e + 1))

after_agree : (qs : List Posting) (e : ℕ) (cs : List Cell) (ps : List Posting) → AllAgree cs e ps → AllAgree (cells_after e qs cs) e (ps ++ qs)
unfolding cells_after cell_after
after_agree qs e [] ps h = tt
after_agree qs e (c ∷ cs) ps h = (
  record {
    position = ap (λ (z : ℤ). z +ℤ position e qs) h.0.position ∙ sym (position_append e ps qs);
    sent = ap (λ (n : ℕ). n + sent e qs) h.0.sent ∙ sym (count_append (λ p. eqb e p.sender) ps qs);
    received = ap (λ (n : ℕ). n + received e qs) h.0.received ∙ sym (count_append (λ p. eqb e p.destination) ps qs);
  },
  after_agree qs (e + 1) cs ps h.1,
)

pub length_after : (qs : List Posting) (e : ℕ) (cs : List Cell) → length (cells_after e qs cs) ≡ length cs
unfolding cells_after
length_after qs e [] = refl
length_after qs e (c ∷ cs) = ap suc (length_after qs (e + 1) cs)

-- ---- after any calls

pub postings_of_snoc : (fs : List (List ℕ)) (f : List ℕ) → postings_of (fs ++ f ∷ []) ≡ postings_of fs ++ postings f
unfolding postings_of
postings_of_snoc [] f = append-nil (postings f)
postings_of_snoc (x ∷ fs) f = ap (λ (l : List Posting). postings x ++ l) (postings_of_snoc fs f) ∙ sym (append_assoc (postings x) (postings_of fs) (postings f))

record Kept (s : Session) (files : List (List ℕ)) : Type 0 where
  cells : length s.cells ≡ 500
  agree : AllAgree s.cells 0 (postings_of files)

-- a session as opening returns it, whatever it answers
pub opened_by : (P : Session → Type 0) → ((date : ℕ) (currency : Currency) (entities : List ℕ) → P (new_session date currency entities))
    → (date : ℕ) (currency : Currency) (entities : List ℕ) → P (opening date currency entities).session
unfolding opening opened_with
opened_by P new date currency entities = go (opening_answer date entities)
  where
    go : (a : Said) → P (opened_with a date currency entities)
    go accepted = new date currency entities
    go (refused n place) = new 101 Pesos []

kept_presented : (s : Session) (files : List (List ℕ)) (file : List ℕ) → Kept s files
    → Kept (presenting s file).session (with_accepted (presenting s file).answer files file)
unfolding presenting with_accepted session_after
kept_presented s files file t = go (answer_to s file)
  where
    go : (a : Said) → Kept (session_after a s file) (with_accepted a files file)
    go (refused n place) = t
    go accepted = record {
      cells = length_after (postings file) 0 s.cells ∙ t.cells;
      agree = rw (postings_of_snoc files file) (after_agree (postings file) 0 s.cells (postings_of files) t.agree);
    }

kept_came : {s : Session} {files : List (List ℕ)} → Arose s files → Kept s files
unfolding new_session postings_of
kept_came (opened date currency entities) =
    opened_by (λ s. Kept s []) (λ d c es. record { cells = length-replicate 500 zero_cell; agree = new_agree 500 0 }) date currency entities
kept_came (presented c file) = kept_presented _ _ file (kept_came c)

pub cells_came : {s : Session} {files : List (List ℕ)} → Arose s files → length s.cells ≡ 500
cells_came c = (kept_came c).cells

agree_at : (cs : List Cell) (e i : ℕ) (ps : List Posting) → AllAgree cs e ps → i < length cs → Agrees (get_or cs i zero_cell) (e + i) ps
agree_at [] e i ps h l = absurd (omega arith)
agree_at (c ∷ cs) e zero ps h l = rw (add-zero e) h.0
agree_at (c ∷ cs) e (suc i) ps h l =
    let q : e + 1 + i ≡ e + suc i = omega arith in
    subst (λ (n : ℕ). Agrees (get_or cs i zero_cell) n ps) q (agree_at cs (e + 1) i ps h.1 (omega arith))

-- each entity's position and counts are the sums over the records of the files accepted when presented
pub figures : {s : Session} {files : List (List ℕ)} → Arose s files → (e : ℕ) → e < 500 → Agrees (get_or s.cells e zero_cell) e (postings_of files)
figures {s} {files} c e l =
    let t = kept_came c in
    subst (λ (n : ℕ). Agrees (get_or s.cells e zero_cell) n (postings_of files)) (zero-add e) (agree_at s.cells 0 e (postings_of files) t.agree (omega (arith, t.cells)))

-- so a figure adds up over the cells as it does over the postings
pub sums_agree : {s : Session} {files : List (List ℕ)} → Arose s files → (n : ℕ) → n ≤ 500 → (figure : Cell → ℤ) (posted : ℕ → ℤ)
    → ((c : Cell) (e : ℕ) → Agrees c e (postings_of files) → figure c ≡ posted e) → sum_to n (λ e. figure (get_or s.cells e zero_cell)) ≡ sum_to n posted
sums_agree {s} c n h figure posted same =
    sum_to_same n (λ e. figure (get_or s.cells e zero_cell)) posted (λ e l. same (get_or s.cells e zero_cell) e (figures c e (omega arith)))

-- positions add up to zero
pub positions_zero : {s : Session} {files : List (List ℕ)} → Arose s files → sum_to 500 (λ e. (get_or s.cells e zero_cell).position) ≡ pos 0
positions_zero {files = files} c =
    sums_agree c 500 (omega arith) (λ d. d.position) (λ e. position e (postings_of files)) (λ d e a. a.position)
    ∙ positions_cancel (postings_of files) (within_files files)

-- sent counts add up to the number of records posted, and received counts alike
pub sent_sum : {s : Session} {files : List (List ℕ)} → Arose s files
    → sum_to 500 (λ e. pos (get_or s.cells e zero_cell).sent) ≡ pos (length (postings_of files))
sent_sum {files = files} c =
    sums_agree c 500 (omega arith) (λ d. pos d.sent) (λ e. pos (sent e (postings_of files))) (λ d e a. ap pos a.sent)
    ∙ counts_add (λ p. p.sender) (λ p w. w.sender) (postings_of files) (within_files files)

pub received_sum : {s : Session} {files : List (List ℕ)} → Arose s files
    → sum_to 500 (λ e. pos (get_or s.cells e zero_cell).received) ≡ pos (length (postings_of files))
received_sum {files = files} c =
    sums_agree c 500 (omega arith) (λ d. pos d.received) (λ e. pos (received e (postings_of files))) (λ d e a. ap pos a.received)
    ∙ counts_add (λ p. p.destination) (λ p w. w.destination) (postings_of files) (within_files files)
