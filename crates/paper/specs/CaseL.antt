-- Case L, record by record, and small changes of a file.
use Rattle.std.specs.Prelude.{ℕ, ◌+◌, ◌-◌, ◌*◌, List, [], ◌∷◌, ◌++◌, length, take, drop}
use Prim.Native.String.{String}
use Rattle.paper.specs.Fields.{bytes}

abbrev pub lines : List String → List ℕ
lines [] = []
lines (r ∷ rs) = bytes r ++ lines rs

abbrev pub case_l : List ℕ
case_l =
    lines
    ("101 999900010 0401000102506301230A094101CAMARA                 BANCO 401                      " ∷
    "5200EMPRESA UNO                         3050001091PPDALQUILERES      250630   1040100010000001" ∷
    "637040200010000000000000000000000012500RECIBO 0001    PEREZ JUAN            000040100010000001" ∷
    "637040300020000000000000000000000040000RECIBO 0001    PEREZ JUAN            000040100010000002" ∷
    "820000000200080500030000000525000000000000003050001091                         040100010000001" ∷
    "5200EMPRESA UNO                         3050001091PPDALQUILERES      250630   1040300020000002" ∷
    "632040100010000000000000000000000007500RECIBO 0001    PEREZ JUAN            001040300020000003" ∷
    "705PAGO                                                                            00010000003" ∷
    "820000000200040100010000000000000000000075003050001091                         040300020000002" ∷
    "9000002000001000000040012060004000000052500000000007500                                       " ∷ [])

-- header and file control only
abbrev pub empty : List ℕ
empty =
    lines
    ("101 999900010 0401000102506301230A094101CAMARA                 BANCO 401                      " ∷
    "9000000000001000000000000000000000000000000000000000000                                       " ∷ [])

-- the file with a text put over its bytes, from a position (from 1) of the record at a place (from 0)
abbrev pub put : ℕ → ℕ → String → List ℕ → List ℕ
put place from text file = laid (place * 94 + (from - 1)) (bytes text) file
  where
    laid : ℕ → List ℕ → List ℕ → List ℕ
    laid n new file = take n file ++ new ++ drop (n + length new) file

-- the file without the record at a place
abbrev pub without : ℕ → List ℕ → List ℕ
without place file = take (place * 94) file ++ drop (place * 94 + 94) file
