-- The listing: what the program `positions` prints.
use Rattle.std.specs.Prelude.{ℕ, zero, suc, ◌+◌, ◌/◌, Bool, true, false, ◌&&◌, cond, List, [], ◌∷◌, ◌++◌, eqb, leb, ltb, ℤ, pos, negsuc, ◌+ℤ◌, length, get_or}
use Rattle.paper.specs.declared.rules.Currency.{Currency}
use Rattle.paper.specs.declared.rules.Currency.TheVariants.{Pesos, Dollars}
use Rattle.paper.specs.declared.ledger.Cell.{Cell}
use Rattle.paper.specs.Answers.{Said, accepted, refused}
use Rattle.paper.specs.Fields.{bytes, field, within, number}
use Rattle.paper.specs.Dates.{date_field}
use Rattle.paper.specs.Sessions.{Reply, zero_cell, opening, presenting}
use Rattle.paper.specs.Writing.{spelled}

-- ---- numbers in as many digits as they need

-- one digit, and one more for each time that it can be divided by ten, up to so many
unfoldable pub width_by : ℕ → ℕ → ℕ
width_by zero n = 1
width_by (suc more) n = cond (ltb n 10) 1 (suc (width_by more (n / 10)))

-- numbers of 64 bits have up to twenty
unfoldable pub width : ℕ → ℕ
width n = width_by 19 n

unfoldable pub decimal : ℕ → List ℕ
decimal n = spelled (width n) n

-- a minus sign where negative
unfoldable pub signed_decimal : ℤ → List ℕ
signed_decimal (pos n) = decimal n
signed_decimal (negsuc n) = bytes "-" ++ decimal (suc n)

-- ---- lines

-- every line ends in one line feed
abbrev pub line_feed : List ℕ
line_feed = 10 ∷ []

-- number, records sent, received, position in cents
unfoldable pub figures_line : List ℕ → Cell → List ℕ
figures_line name c =
    name ++ bytes " " ++ decimal c.sent ++ bytes " " ++ decimal c.received ++ bytes " " ++ signed_decimal c.position ++ line_feed

-- entities that sent or received
unfoldable pub entity_line : ℕ → Cell → List ℕ
entity_line e c = cond (eqb c.sent 0 && eqb c.received 0) [] (figures_line (decimal e) c)

-- entities 1 to n, ascending
unfoldable pub entity_lines : ℕ → List Cell → List ℕ
entity_lines zero cells = []
entity_lines (suc n) cells = entity_lines n cells ++ entity_line (suc n) (get_or cells (suc n) zero_cell)

-- last the sums
unfoldable pub plus_cell : Cell → Cell → Cell
plus_cell c d = record { position = c.position +ℤ d.position; sent = c.sent + d.sent; received = c.received + d.received }

unfoldable pub cell_sums : ℕ → List Cell → Cell
cell_sums zero cells = zero_cell
cell_sums (suc n) cells = plus_cell (cell_sums n cells) (get_or cells (suc n) zero_cell)

unfoldable pub listing : List Cell → List ℕ
listing cells = bytes "ENTITY SENT RECEIVED NET" ++ line_feed ++ entity_lines 499 cells ++ figures_line (bytes "SUM") (cell_sums 499 cells)

unfoldable pub refusal_line : ℕ → ℕ → List ℕ
refusal_line n place = bytes "REFUSED " ++ decimal n ++ bytes " AT " ++ decimal place ++ line_feed

-- ---- the program

-- a file that is shorter than a record has no header
unfoldable pub has_header : List ℕ → Bool
has_header file = leb 94 (length file)

-- the header's date, or 000101 if that is none
unfoldable pub date_in : List ℕ → ℕ
date_in file = cond (has_header file && date_field (field file 24 29)) (number (field file 24 29)) 101

-- whether it is dollars
abbrev pub currency_if : Bool → Currency
currency_if true = Dollars
currency_if false = Pesos

-- dollars where 15-18 are digits from 0501 to 0999, else pesos; what is no number counts as nothing
unfoldable pub currency_in : List ℕ → Currency
currency_in file = currency_if (has_header file && within 501 999 (number (field file 15 18)))

-- 1 to n
unfoldable pub numbers_to : ℕ → List ℕ
numbers_to zero = []
numbers_to (suc n) = numbers_to n ++ suc n ∷ []

unfoldable pub printed : Said → List Cell → List ℕ
printed accepted cells = listing cells
printed (refused n place) cells = refusal_line n place

-- one file is presented to a session of roster 1 to 499
unfoldable pub one_file : List ℕ → Reply
one_file file = presenting (opening (date_in file) (currency_in file) (numbers_to 499)).session file

-- a file of at most 65,424 bytes
unfoldable pub positions_of : List ℕ → List ℕ
positions_of file = cond (leb (length file) 65424) (printed (one_file file).answer (one_file file).session.cells) (refusal_line 201 0)
