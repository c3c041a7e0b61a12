-- Every type in every place, numbered on from 33; codes, the flag and "01"; the whole counter; two blocks.
use Rattle.std.specs.Prelude.{ℕ, List, [], ◌∷◌, ◌++◌, drop}
use Rattle.paper.specs.declared.rules.Currency.TheVariants.{Pesos}
use Rattle.paper.specs.Answers.{accepted, refused}
use Rattle.paper.specs.CaseL.{lines, case_l, empty, put}
use Rattle.paper.specs.Claims.{reads, Row, case}
use Rattle.paper.specs.Marked.{today}
use Rattle.cases.specs.Ends.{returned, reversed}

-- a receiver's reversal: 37 with "01", its amount among the debits
abbrev receiver_reversal : List ℕ
receiver_reversal =
    put 2 2 "37" (put 2 77 "01" (put 4 21 "000000012500000000000000" (put 5 32 "000000012500000000000000" reversed)))

-- L with one order more
abbrev eleven : List ℕ
eleven =
    lines
    ("101 999900010 0401000102506301230A094101CAMARA                 BANCO 401                      " ∷
    "5200EMPRESA UNO                         3050001091PPDALQUILERES      250630   1040100010000001" ∷
    "637040200010000000000000000000000012500RECIBO 0001    PEREZ JUAN            000040100010000001" ∷
    "637040300020000000000000000000000040000RECIBO 0001    PEREZ JUAN            000040100010000002" ∷
    "637040300020000000000000000000000040000RECIBO 0002    PEREZ JUAN            000040100010000003" ∷
    "820000000300120800050000000925000000000000003050001091                         040100010000001" ∷
    "5200EMPRESA UNO                         3050001091PPDALQUILERES      250630   1040300020000002" ∷
    "632040100010000000000000000000000007500RECIBO 0001    PEREZ JUAN            001040300020000004" ∷
    "705PAGO                                                                            00010000004" ∷
    "820000000200040100010000000000000000000075003050001091                         040300020000002" ∷
    "9000002000002000000050016090006000000092500000000007500                                       " ∷ [])

abbrev pub succession : List Row
succession =
    -- what may stand after what: every type in every place
    case 33 (reads (today Pesos) (put 0 1 "5" case_l) (refused 17 0)) ∷
    case 33 (reads (today Pesos) (put 0 1 "6" case_l) (refused 17 0)) ∷
    case 33 (reads (today Pesos) (put 0 1 "7" case_l) (refused 17 0)) ∷
    case 33 (reads (today Pesos) (put 0 1 "8" case_l) (refused 17 0)) ∷
    case 33 (reads (today Pesos) (put 0 1 "9" case_l) (refused 17 0)) ∷
    case 33 (reads (today Pesos) (put 0 1 "X" case_l) (refused 17 0)) ∷
    case 33 (reads (today Pesos) (put 1 1 "1" case_l) (refused 17 1)) ∷
    case 33 (reads (today Pesos) (put 1 1 "6" case_l) (refused 17 1)) ∷
    case 33 (reads (today Pesos) (put 1 1 "7" case_l) (refused 17 1)) ∷
    case 33 (reads (today Pesos) (put 1 1 "8" case_l) (refused 17 1)) ∷
    case 33 (reads (today Pesos) (put 1 1 "X" case_l) (refused 17 1)) ∷
    case 33 (reads (today Pesos) (put 5 1 "1" case_l) (refused 17 5)) ∷
    case 33 (reads (today Pesos) (put 5 1 "6" case_l) (refused 17 5)) ∷
    case 33 (reads (today Pesos) (put 5 1 "7" case_l) (refused 17 5)) ∷
    case 33 (reads (today Pesos) (put 5 1 "8" case_l) (refused 17 5)) ∷
    case 33 (reads (today Pesos) (put 5 1 "X" case_l) (refused 17 5)) ∷
    case 33 (reads (today Pesos) (put 2 1 "1" case_l) (refused 17 2)) ∷
    case 33 (reads (today Pesos) (put 2 1 "5" case_l) (refused 17 2)) ∷
    case 33 (reads (today Pesos) (put 2 1 "7" case_l) (refused 17 2)) ∷
    case 33 (reads (today Pesos) (put 2 1 "8" case_l) (refused 17 2)) ∷
    case 33 (reads (today Pesos) (put 2 1 "9" case_l) (refused 17 2)) ∷
    case 33 (reads (today Pesos) (put 2 1 "X" case_l) (refused 17 2)) ∷
    case 33 (reads (today Pesos) (put 7 1 "1" case_l) (refused 25 7)) ∷
    case 33 (reads (today Pesos) (put 7 1 "5" case_l) (refused 25 7)) ∷
    case 33 (reads (today Pesos) (put 7 1 "6" case_l) (refused 25 7)) ∷
    case 33 (reads (today Pesos) (put 7 1 "8" case_l) (refused 25 7)) ∷
    case 33 (reads (today Pesos) (put 7 1 "9" case_l) (refused 25 7)) ∷
    case 33 (reads (today Pesos) (put 7 1 "X" case_l) (refused 25 7)) ∷
    case 33 (reads (today Pesos) (put 3 1 "1" case_l) (refused 17 3)) ∷
    case 33 (reads (today Pesos) (put 3 1 "5" case_l) (refused 17 3)) ∷
    case 33 (reads (today Pesos) (put 3 1 "7" case_l) (refused 25 3)) ∷
    case 33 (reads (today Pesos) (put 3 1 "9" case_l) (refused 17 3)) ∷
    case 33 (reads (today Pesos) (put 3 1 "X" case_l) (refused 17 3)) ∷
    case 33 (reads (today Pesos) (put 8 1 "1" case_l) (refused 17 8)) ∷
    case 33 (reads (today Pesos) (put 8 1 "5" case_l) (refused 17 8)) ∷
    case 33 (reads (today Pesos) (put 8 1 "7" case_l) (refused 25 8)) ∷
    case 33 (reads (today Pesos) (put 8 1 "9" case_l) (refused 17 8)) ∷
    case 33 (reads (today Pesos) (put 8 1 "X" case_l) (refused 17 8)) ∷
    case 33 (reads (today Pesos) (put 2 1 "1" (empty ++ drop 94 empty)) (refused 17 2)) ∷
    case 33 (reads (today Pesos) (put 2 1 "5" (empty ++ drop 94 empty)) (refused 17 2)) ∷
    case 33 (reads (today Pesos) (put 2 1 "6" (empty ++ drop 94 empty)) (refused 17 2)) ∷
    case 33 (reads (today Pesos) (put 2 1 "7" (empty ++ drop 94 empty)) (refused 17 2)) ∷
    case 33 (reads (today Pesos) (put 2 1 "8" (empty ++ drop 94 empty)) (refused 17 2)) ∷
    case 33 (reads (today Pesos) (put 2 1 "9" (empty ++ drop 94 empty)) (refused 17 2)) ∷
    case 33 (reads (today Pesos) (put 2 1 "X" (empty ++ drop 94 empty)) (refused 17 2)) ∷
    -- codes with "00", "01" and the flag
    case 34 (reads (today Pesos) receiver_reversal accepted) ∷
    case 34 (reads (today Pesos) (put 2 77 "00" receiver_reversal) accepted) ∷
    case 34 (reads (today Pesos) (put 2 79 "0" receiver_reversal) (refused 25 2)) ∷
    case 34 (reads (today Pesos) (put 2 79 "0" returned) (refused 25 2)) ∷
    case 34 (reads (today Pesos) (put 2 79 "0" reversed) (refused 25 2)) ∷
    case 34 (reads (today Pesos) (put 2 77 "01" reversed) (refused 87 2)) ∷
    case 34 (reads (today Pesos) (put 2 2 "31" (put 2 77 "01" returned)) (refused 87 2)) ∷
    -- the whole counter ascends; eleven records are two blocks
    case 35 (reads (today Pesos) (put 2 88 "1000000" case_l) (refused 27 3)) ∷
    case 35 (reads (today Pesos) eleven accepted) ∷
    case 35 (reads (today Pesos) (put 10 13 "1" eleven) (refused 17 10)) ∷
    []
