-- The modes of files, as the launcher hands them over.
use Rattle.std.specs.Prelude.{ℕ, ◌+◌, ◌-◌, ◌*◌, ◌/◌, cond, List, leb, ltb, length, get_or, Option, Some, None}

-- an octal digit, or none
abbrev pub octal : ℕ → Option ℕ
octal b = cond (ltb b 48) None (cond (ltb 55 b) None (Some (b - 48)))

-- three of them, owner, group and others
abbrev pub spelled_mode : Option ℕ → Option ℕ → Option ℕ → Option ℕ
spelled_mode (Some a) (Some b) (Some c) = Some (a * 64 + b * 8 + c)
spelled_mode (Some a) (Some b) None = None
spelled_mode (Some a) None c = None
spelled_mode None b c = None

-- file i's are characters 3i, 3i + 1 and 3i + 2, where there are so many
abbrev pub mode_of : List ℕ → ℕ → Option ℕ
mode_of modes i = cond (leb (length modes / 3) i) None (spelled_mode (octal (get_or modes (i * 3) 0)) (octal (get_or modes (i * 3 + 1) 0)) (octal (get_or modes (i * 3 + 2) 0)))
