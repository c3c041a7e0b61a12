-- The line of a reason.
use Rattle.std.specs.Prelude.{ℕ, cond, List, [], ◌++◌}
use Rattle.paper.specs.Fields.{bytes, field}
use Rattle.paper.specs.Listing.{decimal, line_feed}
use Rattle.paper.specs.Reading.{record_at}
use Rattle.paper.specs.Receiving.{explains_at, text_at, text_in}

-- `3 R10 SIN FONDOS AL VENCIMIENTO`, the text with all its blanks
unfoldable pub reason_line : ℕ → List ℕ → List ℕ → List ℕ
reason_line place motive text = decimal place ++ bytes " " ++ motive ++ bytes " " ++ text ++ line_feed

-- of the record at a place: positions 4-6, and the text from whichever of the two it stands in; nothing of what is no rejection's additional record
unfoldable pub reason_at : List ℕ → List ℕ → ℕ → List ℕ
reason_at file motives place =
    cond (explains_at file place) (reason_line place (field (record_at file place) 4 6) (text_in (text_at file place) file motives)) []
