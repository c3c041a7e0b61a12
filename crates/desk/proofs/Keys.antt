-- An identifier as one of 36 numbers, and the key that the code takes of any file.
use Prim.Native.Nat.{ℕ, ◌+◌, ◌-◌, ◌≤◌, ◌<◌}
use mathlib.Core.Bool.{true, false, ◌&&◌, ◌||◌}
use mathlib.Core.List.{List}
use mathlib.Core.Path.{◌≡◌, sym, ◌∙◌}
use native.Mathlib.Omega.{arith}
use borrow.Author.Tests.{le-leb, lt-leb}
use lib.Dec.{T, leb}
use lib.ListN.{length, get_or}
use Rattle.paper.specs.declared.rules.Rules.{Rules}
use Rattle.paper.specs.Answers.{accepted}
use Rattle.paper.specs.Reading.{reading}
use Rattle.paper.proofs.Lists.{one_of}
use Rattle.paper.proofs.Accepted.{accepted_facts}
use Rattle.paper.proofs.Identifiers.{identifier_good}
use Rattle.desk.specs.Standing.{keyed, key_if}
use Rattle.paper.specs.Fields.{field, every, digit, capital, identifier_field}
use Rattle.paper.specs.Sessions.{identifier_if, key_of}
use Rattle.paper.proofs.Tests.{and_l, or_go, T_of, of_T, within_range}

module _ (b : ℕ) (h : T (digit b || capital b)) where
  -- a digit is below every capital
  pub digit_low : 48 ≤ b
  unfolding digit capital
  digit_low = or_go (digit b) (capital b) h (λ d. (within_range 48 57 b d).0) (λ c. let r = within_range 65 90 b c in omega arith)

  pub capital_low : 57 < b → (65 ≤ b) × (b ≤ 90)
  unfolding digit capital
  capital_low l = or_go (digit b) (capital b) h (λ d. absurd (let r = within_range 48 57 b d in omega arith)) (λ c. within_range 65 90 b c)

  pub of_digit : b ≤ 57 → (b - 48 ≡ identifier_if (leb b 57) b) × (b - 48 < 36)
  unfolding identifier_if
  of_digit l = (rw (le-leb b 57 l), omega (arith, digit_low))

  pub of_capital : 57 < b → (b - 65 + 10 ≡ identifier_if (leb b 57) b) × (b - 65 + 10 < 36)
  unfolding identifier_if
  of_capital l = let r = capital_low l in (rw (lt-leb b 57 l) (omega arith), omega arith)

module _ (file : List ℕ) where
  pub too_short : length file < 94 → 0 ≡ key_if (keyed file) file
  unfolding keyed
  too_short h = rw (lt-leb 94 (length file) h)

  module _ (l : 94 ≤ length file) where
    pub no_identifier : identifier_field (field file 34 34) ≡ false → 0 ≡ key_if (keyed file) file
    unfolding keyed
    no_identifier e = rw (le-leb 94 (length file) l, e)

    pub key_of_lem : identifier_field (field file 34 34) ≡ true → key_of file ≡ key_if (keyed file) file
    unfolding keyed
    key_of_lem e = rw (le-leb 94 (length file) l, e)

    -- position 34 is one byte
    at-34 : identifier_field (field file 34 34) ≡ ((digit (get_or file 33 0) || capital (get_or file 33 0)) && true)
    unfolding identifier_field every
    at-34 = rw (one_of file 33 (omega arith))

    pub byte_34 : identifier_field (field file 34 34) ≡ true → T (digit (get_or file 33 0) || capital (get_or file 33 0))
    byte_34 e = and_l (digit (get_or file 33 0) || capital (get_or file 33 0)) true (T_of (sym at-34 ∙ e))

    identifier-34 : T (digit (get_or file 33 0) || capital (get_or file 33 0)) → identifier_field (field file 34 34) ≡ true
    identifier-34 t = at-34 ∙ rw (of_T (digit (get_or file 33 0) || capital (get_or file 33 0)) t)

-- of a file that the reading accepts it is the paper's
pub key_accepted : (rules : Rules) (file : List ℕ) → reading rules file ≡ accepted → key_if (keyed file) file ≡ key_of file
key_accepted rules file h =
    let l : 94 ≤ length file = omega (arith, (accepted_facts rules file h).long) in
    sym (key_of_lem file l (identifier-34 file l (identifier_good rules file h)))

-- what the check needs of an identifier
pub ruleset identifiers = (digit_low, capital_low, of_digit, of_capital)
