-- How long the records are, of the company's file and of the tray, and how many.
use Prim.Native.Nat.{ℕ, suc, ◌+◌, ◌-◌, ◌*◌, ◌/◌, ◌≤◌, ◌<◌}
use native.Mathlib.Omega.{arith}
use mathlib.Core.List.{List, [], ◌∷◌, ◌++◌, map}
use mathlib.Core.Path.{◌≡◌, ◌∙◌}
use lib.ListN.{length, take, drop, length-append, length-take, length-drop, length-map}
use lib.Seq.{length-take-le}
use Rattle.paper.specs.declared.rules.Currency.{Currency}
use Rattle.paper.specs.Fields.{bytes}
use Rattle.paper.specs.Writing.{joined}
use Rattle.paper.proofs.Lists.{Sized, length_spelled, length_joined, length_parts, sized_parts}
use Rattle.paper.proofs.Places.{parts_from}
use Rattle.company.specs.Details.{order_of}
use Rattle.company.specs.Files.{details_of, closing_of, tray_of, company_tray}

-- ---- the company's file

-- every detail is 250 bytes (not so with a last detail cut short by bytes that are left over)
pub details_long : (file : List ℕ) → Sized 250 (details_of file)
unfolding details_of
details_long file = sized_parts 250 (length file / 250 - 1) file (omega arith)

-- every record but the last is a detail (not so with the closing record judged as one)
pub details_count : (file : List ℕ) → length (details_of file) ≡ length file / 250 - 1
unfolding details_of
details_count file = length_parts 250 (length file / 250 - 1) file

-- detail k is the 250 bytes at 250 * k (not so with line ends skipped between records)
pub details_at : (file : List ℕ) (k : ℕ) → k < length (details_of file) → drop k (details_of file) ≡ take 250 (drop (k * 250) file) ∷ drop (suc k) (details_of file)
unfolding details_of
details_at file k h = parts_from 250 (length file / 250 - 1) file k (omega (arith, details_count file))

pub detail_long : (file : List ℕ) (k : ℕ) → k < length (details_of file) → length (take 250 (drop (k * 250) file)) ≡ 250
detail_long file k h = length-take-le 250 (drop (k * 250) file) (omega (arith, length-drop (k * 250) file, details_count file))

pub closing_long : (file : List ℕ) → 250 ≤ length file → length (closing_of file) ≡ 250
unfolding closing_of
closing_long file h =
    let at : ℕ = (length file / 250 - 1) * 250 in
    length-take-le 250 (drop at file) (omega (arith, length-drop at file))

-- ---- the tray

-- an order is 94 bytes (not so with an amount of twelve digits, or with block 2 alone as the account)
pub order_length : (currency : Currency) (lo r : List ℕ) → length lo ≡ 94 → length r ≡ 250 → length (order_of currency lo r) ≡ 94
unfolding order_of
order_length currency lo r l h = simp (length-append, length_spelled, length-take, length-drop, l, h)

-- IN and the order
abbrev pub marked_order : Currency → List ℕ → List ℕ → List ℕ
marked_order currency lo r = bytes "IN" ++ order_of currency lo r

pub orders_sized : (currency : Currency) (lo : List ℕ) (rs : List (List ℕ)) → length lo ≡ 94 → Sized 250 rs → Sized 96 (map (marked_order currency lo) rs)
orders_sized currency lo [] l z = tt
orders_sized currency lo (r ∷ rs) l z =
    (length-append (bytes "IN") (order_of currency lo r) ∙ omega (arith, order_length currency lo r l z.0), orders_sized currency lo rs l z.1)

-- 96 bytes for the LO and for each detail (not so with a record written for the closing record)
pub tray_length : (currency : Currency) (lo file : List ℕ) → length lo ≡ 94 → length (company_tray currency lo file) ≡ 96 * (length (details_of file) + 1)
unfolding tray_of
tray_length currency lo file l =
    let rs : List (List ℕ) = map (marked_order currency lo) (details_of file) in
    length-append (bytes "LO" ++ lo) (joined rs)
    ∙ omega (arith, l, length_joined 96 rs (orders_sized currency lo (details_of file) l (details_long file)), length-map (details_of file) (marked_order currency lo))
