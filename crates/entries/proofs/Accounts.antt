-- The account, asked in the order of the code: the digits of 14 to 29 before the zeros.
use Prim.Native.Nat.{ℕ, ◌+◌, ◌-◌, ◌≤◌}
use mathlib.Core.Bool.{Bool, true, false}
use mathlib.Core.List.{List, ◌++◌}
use mathlib.Core.Path.{◌≡◌, refl, sym, ap, ◌∙◌}
use native.Mathlib.Omega.{arith}
use lib.Dec.{T}
use lib.ListN.{length, get_or, take, drop}
use lib.Seq.{drop_at}
use Rattle.paper.specs.Fields.{field, bytes, every, digit, digits, is}
use Rattle.paper.specs.Accounts.{block_good, account_checked}
use Rattle.paper.proofs.Tests.{not_both, and_l, and_r, T_of, of_T, same→eq}
use Rattle.paper.proofs.Digits.{every_r}
use Rattle.paper.proofs.Every.{every_both}
use Rattle.paper.proofs.Lists.{field_at}
use Rattle.paper.proofs.Accounts.{block_is_digits}
use Rattle.characters.specs.Words.{Packs}
use Rattle.characters.proofs.Part.{part_length, first_of, parted_before}
use Rattle.field.specs.Blocks.{InWords}

module _ (r : List ℕ) (l : length r ≡ 94) where
  -- a field without its first positions
  rest_of : (first mid next last n : ℕ) → (1 ≤ first) × (first ≤ mid) × (mid ≤ last) × (last ≤ 94) → mid + 1 ≡ next → n ≡ next - first
      → drop n (field r first last) ≡ field r next last
  rest_of first mid next last n h e k =
      ap (drop n) (parted_before r first mid next last (omega arith) (omega arith) (omega arith) e)
      ∙ drop_at (field r first mid) (field r next last) n (part_length r first mid (omega arith) ∙ omega arith)

  -- positions 13 to 20 and 21 to 28, as words, and 29
  pub account_words : {front back : ℕ} → Packs (field r 13 20) front → Packs (field r 21 28) back → InWords (field r 16 29) front back (get_or r 28 0)
  account_words p q =
      let first_eight = ap (take 8) (rest_of 16 20 21 29 5 (omega arith) refl refl) ∙ first_of r 21 29 8 28 (omega arith) (omega arith) refl in
      record {
        long = part_length r 16 29 (omega arith);
        begin = field r 13 20;
        begins = p;
        first_five = rest_of 13 15 16 20 3 (omega arith) refl refl ∙ sym (first_of r 16 29 5 20 (omega arith) (omega arith) refl);
        next_eight = rw first_eight q;
        last = sym (field_at r 16 29 29 (omega arith) (omega arith) (omega arith));
      }

  pub account_zeros : field (field r 13 20) 1 3 ≡ field r 13 15
  account_zeros = first_of r 13 20 3 15 (omega arith) (omega arith) refl

module _ (r : List ℕ) where
  pub block_digits : T (digits (field r 14 29)) → T (digits (field r 16 29))
  block_digits t = every_r digit (field r 14 15) (field r 16 29) (rw (parted_before r 14 15 16 29 (omega arith) (omega arith) (omega arith) refl) at t)

  pub no_account : digits (field r 14 29) ≡ false → false ≡ account_checked r
  unfolding account_checked every digit
  no_account h = go (account_checked r) refl
    where
      zeros : T (account_checked r) → T (digits (field r 14 15))
      zeros t =
          let read = same→eq (field r 13 15) (bytes "000") (and_l (is (field r 13 15) "000") (block_good (field r 16 29)) t) in
          let three : T (digits (field r 13 15)) = rw read tt in
          every_r digit (field r 13 13) (field r 14 15) (rw (parted_before r 13 13 14 15 (omega arith) (omega arith) (omega arith) refl) at three)

      behind : T (account_checked r) → T (digits (field r 16 29))
      behind t = block_is_digits (field r 16 29) (and_r (is (field r 13 15) "000") (block_good (field r 16 29)) t)

      go : (b : Bool) → account_checked r ≡ b → false ≡ b
      go false e = refl
      go true e =
          let all = every_both digit (field r 14 15) (field r 16 29) (zeros (T_of e)) (behind (T_of e)) in
          absurd (not_both (ap digits (parted_before r 14 15 16 29 (omega arith) (omega arith) (omega arith) refl) ∙ of_T (digits (field r 14 15 ++ field r 16 29)) all) h)
