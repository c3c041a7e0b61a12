-- The tests of the paper that ask for digits and then for their value, said of the number in the field.
use Rattle.std.proofs.Common.{◌≡◌, ℕ, ◌/◌, ◌%◌, Bool, true, false, cond, ◌&&◌, ◌||◌, leb, List, refl, ap}
use Rattle.paper.specs.Fields.{digits, blank, value, number}
use Rattle.paper.specs.Dates.{is_date, date_field, time_field}

-- nothing is no date
pub date_number : (f : List ℕ) → is_date (number f) ≡ date_field f
unfolding number is_date date_field
date_number f = go (digits f)
  where
    go : (d : Bool) → is_date (cond d (value f) 0) ≡ (d && is_date (value f))
    go true = refl
    go false = refl

abbrev clock : ℕ → Bool
clock n = leb (n / 100) 23 && leb (n % 100) 59

pub time_number : (f : List ℕ) → (blank f || digits f && clock (number f)) ≡ time_field f
unfolding number time_field
time_number f = ap (λ (t : Bool). blank f || t) (go (digits f))
  where
    go : (d : Bool) → (d && clock (cond d (value f) 0)) ≡ (d && leb (value f / 100) 23 && leb (value f % 100) 59)
    go true = refl
    go false = refl
