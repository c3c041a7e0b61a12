-- Dates of the years 2000 to 2099 as AAMMDD, and times.
use Rattle.std.specs.Prelude.{ℕ, ◌/◌, ◌%◌, Bool, ◌&&◌, ◌||◌, cond, List, [], ◌∷◌, eqb, leb, get_or}
use Rattle.paper.specs.Fields.{within, digits, blank, value}

-- true month lengths; of the years 2000 to 2099 every fourth is a leap year; 0 where there is no such month
unfoldable pub month_days : ℕ → ℕ → ℕ
month_days year month =
    get_or (0 ∷ 31 ∷ cond (eqb (year % 4) 0) 29 28 ∷ 31 ∷ 30 ∷ 31 ∷ 30 ∷ 31 ∷ 31 ∷ 30 ∷ 31 ∷ 30 ∷ 31 ∷ []) month 0

-- the number that AAMMDD spells is a date; a number of more than six digits is none
unfoldable pub is_date : ℕ → Bool
is_date n = leb n 991231 && within 1 (month_days (n / 10000) (n / 100 % 100)) (n % 100)

unfoldable pub date_field : List ℕ → Bool
date_field f = digits f && is_date (value f)

-- four blanks, or hours 00-23 and minutes 00-59
unfoldable pub time_field : List ℕ → Bool
time_field f = blank f || digits f && leb (value f / 100) 23 && leb (value f % 100) 59
