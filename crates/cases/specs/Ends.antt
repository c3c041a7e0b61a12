-- The ends of every field, numbered on from 25: its first and its last byte decide, and those beside it do not.
use Rattle.std.specs.Prelude.{ℕ, List, [], ◌∷◌}
use Rattle.paper.specs.declared.rules.Currency.TheVariants.{Pesos}
use Rattle.paper.specs.Answers.{accepted, refused}
use Rattle.paper.specs.CaseL.{lines, put}
use Rattle.paper.specs.Claims.{reads, Row, case}
use Rattle.paper.specs.Marked.{today}

-- a rejection with its 99
abbrev pub returned : List ℕ
returned =
    lines
    ("101 999900010 0401000102506301230A094101CAMARA                 BANCO 401                      " ∷
    "5200EMPRESA UNO                         3050001091PPDALQUILERES      250630   1040100010000001" ∷
    "636040200010000000000000000000000012500RECIBO 0001    PEREZ JUAN            001040100010000001" ∷
    "799R10000000000000000      00000000                                            040100010000001" ∷
    "820000000200040200010000000125000000000000003050001091                         040100010000001" ∷
    "9000001000001000000020004020001000000012500000000000000                                       " ∷ [])

-- an originator's reversal with its 05
abbrev pub reversed : List ℕ
reversed =
    lines
    ("101 999900010 0401000102506301230A094101CAMARA                 BANCO 401                      " ∷
    "5200EMPRESA UNO                         3050001091PPDALQUILERES      250630   1040100010000001" ∷
    "632040200010000000000000000000000012500RECIBO 0001    PEREZ JUAN            001040100010000001" ∷
    "705PAGO                                                                            00010000001" ∷
    "820000000200040200010000000000000000000125003050001091                         040100010000001" ∷
    "9000001000001000000020004020001000000000000000000012500                                       " ∷ [])

abbrev pub ends : List Row
ends =
    case 25 (reads (today Pesos) returned accepted) ∷
    case 25 (reads (today Pesos) reversed accepted) ∷
    -- file header
    case 26 (reads (today Pesos) (put 0 2 "1" returned) (refused 17 0)) ∷
    case 26 (reads (today Pesos) (put 0 3 "2" returned) (refused 17 0)) ∷
    case 26 (reads (today Pesos) (put 0 5 " " returned) (refused 17 0)) ∷
    case 26 (reads (today Pesos) (put 0 12 " " returned) (refused 17 0)) ∷
    case 26 (reads (today Pesos) (put 0 15 "A" returned) (refused 17 0)) ∷
    case 26 (reads (today Pesos) (put 0 19 "A" returned) (refused 17 0)) ∷
    case 26 (reads (today Pesos) (put 0 22 " " returned) (refused 17 0)) ∷
    case 26 (reads (today Pesos) (put 0 24 "3" returned) (refused 75 0)) ∷
    case 26 (reads (today Pesos) (put 0 24 " " returned) (refused 75 0)) ∷
    case 26 (reads (today Pesos) (put 0 29 "1" returned) (refused 75 0)) ∷
    case 26 (reads (today Pesos) (put 0 29 " " returned) (refused 75 0)) ∷
    case 26 (reads (today Pesos) (put 0 30 "A" returned) (refused 17 0)) ∷
    case 26 (reads (today Pesos) (put 0 33 "A" returned) (refused 17 0)) ∷
    case 26 (reads (today Pesos) (put 0 30 " " returned) (refused 17 0)) ∷
    case 26 (reads (today Pesos) (put 0 33 " " returned) (refused 17 0)) ∷
    case 26 (reads (today Pesos) (put 0 34 ":" returned) (refused 17 0)) ∷
    case 26 (reads (today Pesos) (put 0 34 "@" returned) (refused 17 0)) ∷
    case 26 (reads (today Pesos) (put 0 35 "1" returned) (refused 17 0)) ∷
    case 26 (reads (today Pesos) (put 0 40 "0" returned) (refused 17 0)) ∷
    case 26 (reads (today Pesos) (put 0 5 "8" returned) accepted) ∷
    case 26 (reads (today Pesos) (put 0 12 "9" returned) accepted) ∷
    case 26 (reads (today Pesos) (put 0 34 "0" returned) accepted) ∷
    case 26 (reads (today Pesos) (put 0 34 "9" returned) accepted) ∷
    case 26 (reads (today Pesos) (put 0 34 "Z" returned) accepted) ∷
    case 26 (reads (today Pesos) (put 0 30 "0000" returned) accepted) ∷
    case 26 (reads (today Pesos) (put 0 30 "2359" returned) accepted) ∷
    case 26 (reads (today Pesos) (put 0 41 "X" returned) accepted) ∷
    case 26 (reads (today Pesos) (put 0 94 "X" returned) accepted) ∷
    -- batch header
    case 27 (reads (today Pesos) (put 1 2 " " returned) (refused 17 1)) ∷
    case 27 (reads (today Pesos) (put 1 4 " " returned) (refused 17 1)) ∷
    case 27 (reads (today Pesos) (put 1 5 "                X" returned) (refused 17 1)) ∷
    case 27 (reads (today Pesos) (put 1 41 " " returned) (refused 17 1)) ∷
    case 27 (reads (today Pesos) (put 1 50 " " returned) (refused 17 1)) ∷
    case 27 (reads (today Pesos) (put 1 53 "X          X" returned) (refused 17 1)) ∷
    case 27 (reads (today Pesos) (put 1 70 " " returned) (refused 75 1)) ∷
    case 27 (reads (today Pesos) (put 1 75 " " returned) (refused 75 1)) ∷
    case 27 (reads (today Pesos) (put 1 79 " " returned) (refused 17 1)) ∷
    case 27 (reads (today Pesos) (put 1 80 " " returned) (refused 17 1)) ∷
    case 27 (reads (today Pesos) (put 1 87 " " returned) (refused 17 1)) ∷
    case 27 (reads (today Pesos) (put 1 88 " " returned) (refused 17 1)) ∷
    case 27 (reads (today Pesos) (put 1 94 " " returned) (refused 17 1)) ∷
    case 27 (reads (today Pesos) (put 1 5 "X               " returned) accepted) ∷
    case 27 (reads (today Pesos) (put 1 5 "               X" returned) accepted) ∷
    case 27 (reads (today Pesos) (put 1 21 "X" returned) accepted) ∷
    case 27 (reads (today Pesos) (put 1 40 "X" returned) accepted) ∷
    case 27 (reads (today Pesos) (put 1 51 "XXX" returned) accepted) ∷
    case 27 (reads (today Pesos) (put 1 54 "X         " returned) accepted) ∷
    case 27 (reads (today Pesos) (put 1 54 "         X" returned) accepted) ∷
    case 27 (reads (today Pesos) (put 1 64 "XXXXXX" returned) accepted) ∷
    case 27 (reads (today Pesos) (put 1 70 "000229" returned) accepted) ∷
    case 27 (reads (today Pesos) (put 1 76 "XXX" returned) accepted) ∷
    case 27 (reads (today Pesos) (put 1 79 "0" returned) accepted) ∷
    -- individual
    case 28 (reads (today Pesos) (put 2 2 "4" returned) (refused 17 2)) ∷
    case 28 (reads (today Pesos) (put 2 3 "8" returned) (refused 17 2)) ∷
    case 28 (reads (today Pesos) (put 2 4 " " returned) (refused 17 2)) ∷
    case 28 (reads (today Pesos) (put 2 8 " " returned) (refused 17 2)) ∷
    case 28 (reads (today Pesos) (put 2 11 " " returned) (refused 17 2)) ∷
    case 28 (reads (today Pesos) (put 2 12 " " returned) (refused 77 2)) ∷
    case 28 (reads (today Pesos) (put 2 13 " " returned) (refused 78 2)) ∷
    case 28 (reads (today Pesos) (put 2 29 " " returned) (refused 78 2)) ∷
    case 28 (reads (today Pesos) (put 2 30 " " returned) (refused 19 2)) ∷
    case 28 (reads (today Pesos) (put 2 39 " " returned) (refused 19 2)) ∷
    case 28 (reads (today Pesos) (put 2 77 "1" returned) (refused 87 2)) ∷
    case 28 (reads (today Pesos) (put 2 78 "2" returned) (refused 87 2)) ∷
    case 28 (reads (today Pesos) (put 2 79 " " returned) (refused 17 2)) ∷
    case 28 (reads (today Pesos) (put 2 80 " " returned) (refused 17 2)) ∷
    case 28 (reads (today Pesos) (put 2 94 " " returned) (refused 17 2)) ∷
    case 28 (reads (today Pesos) (put 2 80 "1" returned) (refused 27 2)) ∷
    case 28 (reads (today Pesos) (put 2 87 "2" returned) (refused 27 2)) ∷
    case 28 (reads (today Pesos) (put 2 94 "0" returned) (refused 27 2)) ∷
    case 28 (reads (today Pesos) (put 2 88 "1000001" returned) (refused 25 3)) ∷
    case 28 (reads (today Pesos) (put 2 30 "1000012500" (put 4 21 "001000012500" (put 5 32 "001000012500" returned))) accepted) ∷
    case 28 (reads (today Pesos) (put 2 13 "1" returned) accepted) ∷
    case 28 (reads (today Pesos) (put 2 29 "1" returned) accepted) ∷
    case 28 (reads (today Pesos) (put 2 40 "X              " returned) accepted) ∷
    case 28 (reads (today Pesos) (put 2 40 "              X" returned) accepted) ∷
    case 28 (reads (today Pesos) (put 2 55 "X                     " returned) accepted) ∷
    case 28 (reads (today Pesos) (put 2 55 "                     X" returned) accepted) ∷
    case 28 (reads (today Pesos) (put 2 77 "01" returned) accepted) ∷
    case 28 (reads (today Pesos) (put 2 40 "               " returned) (refused 79 2)) ∷
    case 28 (reads (today Pesos) (put 2 55 "                      " returned) (refused 17 2)) ∷
    -- additional, 99
    case 29 (reads (today Pesos) (put 3 2 "8" returned) (refused 25 3)) ∷
    case 29 (reads (today Pesos) (put 3 3 "8" returned) (refused 25 3)) ∷
    case 29 (reads (today Pesos) (put 3 4 " " returned) (refused 17 3)) ∷
    case 29 (reads (today Pesos) (put 3 5 " " returned) (refused 17 3)) ∷
    case 29 (reads (today Pesos) (put 3 6 " " returned) (refused 17 3)) ∷
    case 29 (reads (today Pesos) (put 3 7 " " returned) (refused 17 3)) ∷
    case 29 (reads (today Pesos) (put 3 21 " " returned) (refused 17 3)) ∷
    case 29 (reads (today Pesos) (put 3 22 "0" returned) (refused 17 3)) ∷
    case 29 (reads (today Pesos) (put 3 27 "0" returned) (refused 17 3)) ∷
    case 29 (reads (today Pesos) (put 3 28 " " returned) (refused 17 3)) ∷
    case 29 (reads (today Pesos) (put 3 35 " " returned) (refused 17 3)) ∷
    case 29 (reads (today Pesos) (put 3 80 "1" returned) (refused 25 3)) ∷
    case 29 (reads (today Pesos) (put 3 94 "2" returned) (refused 25 3)) ∷
    case 29 (reads (today Pesos) (put 3 5 "99" returned) accepted) ∷
    case 29 (reads (today Pesos) (put 3 7 "9" returned) accepted) ∷
    case 29 (reads (today Pesos) (put 3 21 "9" returned) accepted) ∷
    case 29 (reads (today Pesos) (put 3 28 "9" returned) accepted) ∷
    case 29 (reads (today Pesos) (put 3 35 "9" returned) accepted) ∷
    case 29 (reads (today Pesos) (put 3 36 "X" returned) accepted) ∷
    case 29 (reads (today Pesos) (put 3 79 "X" returned) accepted) ∷
    -- additional, 05
    case 30 (reads (today Pesos) (put 3 2 "1" reversed) (refused 25 3)) ∷
    case 30 (reads (today Pesos) (put 3 3 "6" reversed) (refused 25 3)) ∷
    case 30 (reads (today Pesos) (put 3 84 " " reversed) (refused 17 3)) ∷
    case 30 (reads (today Pesos) (put 3 87 " " reversed) (refused 17 3)) ∷
    case 30 (reads (today Pesos) (put 3 88 "1" reversed) (refused 25 3)) ∷
    case 30 (reads (today Pesos) (put 3 94 "2" reversed) (refused 25 3)) ∷
    case 30 (reads (today Pesos) (put 3 4 "X" reversed) accepted) ∷
    case 30 (reads (today Pesos) (put 3 83 "X" reversed) accepted) ∷
    case 30 (reads (today Pesos) (put 3 84 "9" reversed) accepted) ∷
    case 30 (reads (today Pesos) (put 3 87 "9" reversed) accepted) ∷
    -- batch control
    case 31 (reads (today Pesos) (put 4 2 "3" returned) (refused 17 4)) ∷
    case 31 (reads (today Pesos) (put 4 4 "1" returned) (refused 17 4)) ∷
    case 31 (reads (today Pesos) (put 4 5 "1" returned) (refused 17 4)) ∷
    case 31 (reads (today Pesos) (put 4 10 "3" returned) (refused 17 4)) ∷
    case 31 (reads (today Pesos) (put 4 11 "1" returned) (refused 17 4)) ∷
    case 31 (reads (today Pesos) (put 4 20 "2" returned) (refused 17 4)) ∷
    case 31 (reads (today Pesos) (put 4 21 "1" returned) (refused 17 4)) ∷
    case 31 (reads (today Pesos) (put 4 32 "1" returned) (refused 17 4)) ∷
    case 31 (reads (today Pesos) (put 4 33 "1" returned) (refused 17 4)) ∷
    case 31 (reads (today Pesos) (put 4 44 "1" returned) (refused 17 4)) ∷
    case 31 (reads (today Pesos) (put 4 45 "4" returned) (refused 17 4)) ∷
    case 31 (reads (today Pesos) (put 4 54 "2" returned) (refused 17 4)) ∷
    case 31 (reads (today Pesos) (put 4 80 "1" returned) (refused 17 4)) ∷
    case 31 (reads (today Pesos) (put 4 87 "2" returned) (refused 17 4)) ∷
    case 31 (reads (today Pesos) (put 4 88 "1" returned) (refused 17 4)) ∷
    case 31 (reads (today Pesos) (put 4 94 "2" returned) (refused 17 4)) ∷
    case 31 (reads (today Pesos) (put 4 55 "X" returned) accepted) ∷
    case 31 (reads (today Pesos) (put 4 79 "X" returned) accepted) ∷
    -- file control
    case 32 (reads (today Pesos) (put 5 2 "1" returned) (refused 17 5)) ∷
    case 32 (reads (today Pesos) (put 5 7 "2" returned) (refused 17 5)) ∷
    case 32 (reads (today Pesos) (put 5 8 "1" returned) (refused 17 5)) ∷
    case 32 (reads (today Pesos) (put 5 13 "2" returned) (refused 17 5)) ∷
    case 32 (reads (today Pesos) (put 5 14 "1" returned) (refused 17 5)) ∷
    case 32 (reads (today Pesos) (put 5 21 "3" returned) (refused 17 5)) ∷
    case 32 (reads (today Pesos) (put 5 22 "1" returned) (refused 17 5)) ∷
    case 32 (reads (today Pesos) (put 5 31 "2" returned) (refused 17 5)) ∷
    case 32 (reads (today Pesos) (put 5 32 "1" returned) (refused 17 5)) ∷
    case 32 (reads (today Pesos) (put 5 43 "1" returned) (refused 17 5)) ∷
    case 32 (reads (today Pesos) (put 5 44 "1" returned) (refused 17 5)) ∷
    case 32 (reads (today Pesos) (put 5 55 "1" returned) (refused 17 5)) ∷
    case 32 (reads (today Pesos) (put 5 56 "X" returned) accepted) ∷
    case 32 (reads (today Pesos) (put 5 94 "X" returned) accepted) ∷
    []
