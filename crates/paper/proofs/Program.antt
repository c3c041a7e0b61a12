-- The program `positions`: the session that it opens is always accepted, and the sums that it prints balance.
use Prim.Native.Nat.{ℕ, zero, suc, ◌≤◌}
use native.Mathlib.Omega.{arith}
use mathlib.Core.Bool.{Bool, true, false, ◌&&◌, cond}
use mathlib.Core.List.{[], List, ◌∷◌, ◌++◌, append-nil}
use mathlib.Core.Path.{◌≡◌, refl, subst}
use lib.Dec.{T}
use lib.IntN.{pos}
use lib.ListN.{length}
use borrow.Author.Tests.{le-leb}
use Rattle.paper.specs.declared.ledger.Cell.{Cell}
use Rattle.paper.specs.Answers.{Said, accepted, and_then}
use Rattle.paper.specs.Fields.{bytes, field, within, every, digits, value, number}
use Rattle.paper.specs.Dates.{month_days, is_date, date_field}
use Rattle.paper.specs.Postings.{postings}
use Rattle.paper.specs.Sessions.{Session, opening_answer, opening}
use Rattle.paper.specs.Listing.{line_feed, figures_line, entity_lines, cell_sums, listing, has_header, date_in, currency_in, numbers_to, printed, one_file, positions_of}
use Rattle.paper.specs.Demands.{with_accepted, Arose, opened, presented, postings_of}
use Rattle.paper.proofs.Tests.{and_l, and_r, T_of, of_T}
use Rattle.paper.proofs.Refusals.{require_met}
use Rattle.paper.proofs.Digits.{every_append}
use Rattle.paper.proofs.Totals.{sums_whole}

-- ---- opening

numbers_within : (n : ℕ) → n ≤ 499 → every (within 1 499) (numbers_to n) ≡ true
unfolding every numbers_to
numbers_within zero l = refl
numbers_within (suc n) l = rw (every_append (within 1 499) (numbers_to n) (suc n ∷ []), numbers_within n (omega arith), le-leb 1 (suc n) (omega arith), le-leb (suc n) 499 l)

pub numbers_to_within : every (within 1 499) (numbers_to 499) ≡ true
numbers_to_within = numbers_within 499 (omega arith)

pub open_all : (date : ℕ) → T (is_date date) → opening_answer date (numbers_to 499) ≡ accepted
unfolding opening_answer and_then
open_all date t = rw (require_met (is_date date) 75 0 t) (require_met (every (within 1 499) (numbers_to 499)) 208 0 (T_of numbers_to_within))

date_number : (f : List ℕ) → T (date_field f) → T (is_date (number f))
unfolding date_field number
date_number f t = rw (of_T (digits f) (and_l (digits f) (is_date (value f)) t)) (and_r (digits f) (is_date (value f)) t)

-- what the program takes as its date is a date
pub date_in_lem : (file : List ℕ) → T (is_date (date_in file))
unfolding date_in is_date month_days
date_in_lem file = go (has_header file && date_field (field file 24 29)) refl
  where
    go : (b : Bool) → (has_header file && date_field (field file 24 29)) ≡ b → T (is_date (cond b (number (field file 24 29)) 101))
    go true e = date_number (field file 24 29) (and_r (has_header file) (date_field (field file 24 29)) (T_of e))
    go false e = tt

pub program_opens : (file : List ℕ) → (opening (date_in file) (currency_in file) (numbers_to 499)).answer ≡ accepted
unfolding opening
program_opens file = open_all (date_in file) (date_in_lem file)

-- ---- printing

-- sums over all entities where n records were posted
abbrev pub balanced : ℕ → Cell
balanced n = record { position = pos 0; sent = n; received = n }

pub sums_balanced : {s : Session} {files : List (List ℕ)} → Arose s files → cell_sums 499 s.cells ≡ balanced (length (postings_of files))
sums_balanced c = let w = sums_whole c in λ i. record { position = w.0 i; sent = w.1 i; received = w.2 i }

one_came : (file : List ℕ) → (one_file file).answer ≡ accepted → Arose (one_file file).session (file ∷ [])
unfolding one_file with_accepted
one_came file h =
    subst (λ (a : Said). Arose (one_file file).session (with_accepted a [] file)) h (presented (opened (date_in file) (currency_in file) (numbers_to 499)) file)

-- where a listing is printed, its last line is SUM, the number of the file's individual records twice, and 0
pub positions_balanced : (file : List ℕ) → length file ≤ 65424 → (one_file file).answer ≡ accepted
    → positions_of file ≡ bytes "ENTITY SENT RECEIVED NET" ++ line_feed ++ entity_lines 499 (one_file file).session.cells ++ figures_line (bytes "SUM") (balanced (length (postings file)))
unfolding positions_of printed listing postings_of
positions_balanced file l h = rw (le-leb (length file) 65424 l, h, sums_balanced (one_came file h), append-nil (postings file))
