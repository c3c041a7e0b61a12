-- An extract's file header, as it is written: part after part.
use Prim.Native.Nat.{ℕ, ◌+◌}
use mathlib.Core.List.{List, ◌++◌, append_assoc}
use mathlib.Core.Path.{◌≡◌, sym, ap, ◌∙◌}
use Rattle.paper.specs.declared.rules.Currency.{Currency}
use Rattle.paper.specs.Fields.{bytes, field}
use Rattle.paper.specs.Entities.{currency_adds}
use Rattle.paper.specs.Writing.{spelled}
use Rattle.paper.specs.Extract.{header_for}
use Rattle.extract.specs.Header.{destination_for}

destination_on : (a : List ℕ) (currency : Currency) (e : ℕ)
    → a ++ destination_for currency e ≡ a ++ bytes " " ++ spelled 4 (e + currency_adds currency) ++ bytes "0000" ++ bytes "0"
destination_on a currency e = parts_on (spelled 4 (e + currency_adds currency))
  where
    parts_on : (n : List ℕ) → a ++ (bytes " " ++ n ++ bytes "00000") ≡ a ++ bytes " " ++ n ++ bytes "0000" ++ bytes "0"
    parts_on n =
        sym (append_assoc a (bytes " " ++ n) (bytes "00000"))
        ∙ (ap (λ (l : List ℕ). l ++ bytes "00000") (sym (append_assoc a (bytes " ") n)) ∙ sym (append_assoc (a ++ bytes " " ++ n) (bytes "0000") (bytes "0")))

pub header_parts : (currency : Currency) (e : ℕ) (r : List ℕ)
    → field r 1 3 ++ destination_for currency e ++ field r 4 13 ++ field r 24 40 ++ field r 64 86 ++ field r 41 63 ++ field r 87 94 ≡ header_for currency e r
unfolding header_for
header_parts currency e r =
    ap (λ (l : List ℕ). l ++ field r 4 13 ++ field r 24 40 ++ field r 64 86 ++ field r 41 63 ++ field r 87 94) (destination_on (field r 1 3) currency e)
