-- What the program prints, numbered on from 36, and what a session holds for numbers that are entities and that are none.
use Rattle.std.specs.Prelude.{ℕ, List, [], ◌∷◌, pos, neg_ℤ, replicate}
use Prim.Native.String.{String}
use Rattle.paper.specs.declared.rules.Currency.TheVariants.{Pesos}
use Rattle.paper.specs.Sessions.{Session, opening, presenting}
use Rattle.paper.specs.CaseL.{lines, case_l, empty, put}
use Rattle.paper.specs.Claims.{prints, holds, Row, case}
use Rattle.paper.specs.Marked.{cell}

abbrev heading : String
heading = "ENTITY SENT RECEIVED NET"

-- L in dollars
abbrev dollars_l : List ℕ
dollars_l =
    lines
    ("101 999900010 0901000102506301230A094101CAMARA                 BANCO 401                      " ∷
    "5200EMPRESA UNO                         3050001091PPDALQUILERES      250630   1090100010000001" ∷
    "637090200010000000000000000000000012500RECIBO 0001    PEREZ JUAN            000090100010000001" ∷
    "637090300020000000000000000000000040000RECIBO 0001    PEREZ JUAN            000090100010000002" ∷
    "820000000200180500030000000525000000000000003050001091                         090100010000001" ∷
    "5200EMPRESA UNO                         3050001091PPDALQUILERES      250630   1090300020000002" ∷
    "632090100010000000000000000000000007500RECIBO 0001    PEREZ JUAN            001090300020000003" ∷
    "705PAGO                                                                            00010000003" ∷
    "820000000200090100010000000000000000000075003050001091                         090300020000002" ∷
    "9000002000001000000040027060004000000052500000000007500                                       " ∷ [])

-- L with its first order to the sender itself
abbrev to_itself : List ℕ
to_itself = put 2 4 "0401" (put 4 11 "0008040003" (put 9 22 "0012050004" case_l))

-- L with its orders to 1 and to 499, presented
abbrev after_ends : Session
after_ends =
    (presenting (opening 250630 Pesos (499 ∷ 401 ∷ 403 ∷ 1 ∷ [])).session
    (put 2 4 "0001" (put 3 4 "0499" (put 4 11 "0005000003" (put 9 22 "0009010004" case_l))))).session

abbrev pub printed_rows : List Row
printed_rows =
    case 36 (prints dollars_l (heading ∷ "401 2 1 60000" ∷ "402 0 1 -12500" ∷ "403 1 1 -47500" ∷ "SUM 3 3 0" ∷ [])) ∷
    case 36 (prints to_itself (heading ∷ "401 2 2 47500" ∷ "403 1 1 -47500" ∷ "SUM 3 3 0" ∷ [])) ∷
    case 36 (prints empty (heading ∷ "SUM 0 0 0" ∷ [])) ∷
    case 36 (prints (put 0 24 "000101" empty) (heading ∷ "SUM 0 0 0" ∷ [])) ∷
    case 36 (prints (put 2 30 "0000000000" case_l) ("REFUSED 19 AT 2" ∷ [])) ∷
    case 36 (prints (put 0 24 "250631" empty) ("REFUSED 75 AT 0" ∷ [])) ∷
    case 36 (prints (put 0 15 "0500" empty) ("REFUSED 17 AT 0" ∷ [])) ∷
    case 36 (prints (put 0 15 " 901" empty) ("REFUSED 17 AT 0" ∷ [])) ∷
    case 36 (prints [] ("REFUSED 201 AT 0" ∷ [])) ∷
    case 36 (prints (replicate 65425 32) ("REFUSED 201 AT 0" ∷ [])) ∷
    case 37 (holds after_ends (0 ∷ 1 ∷ 401 ∷ 499 ∷ 500 ∷ 901 ∷ [])
    (cell (pos 0) 0 0 ∷ cell (neg_ℤ (pos 12500)) 0 1 ∷ cell (pos 60000) 2 1 ∷ cell (neg_ℤ (pos 40000)) 0 1 ∷ cell (pos 0) 0 0 ∷ cell (pos 0) 0 0 ∷ [])) ∷
    []
