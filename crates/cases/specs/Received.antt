-- What a member's desk receives and shows, numbered on from 38: each rule of request 1, and the rules beside it that stay.
use Rattle.std.specs.Prelude.{ℕ, List, [], ◌∷◌, ◌++◌, take, drop}
use Rattle.paper.specs.declared.rules.Currency.TheVariants.{Pesos, Dollars}
use Rattle.paper.specs.Answers.{accepted, refused}
use Rattle.paper.specs.Fields.{bytes}
use Rattle.paper.specs.Writing.{blanks}
use Rattle.paper.specs.Receiving.{TextPlace, nowhere, in_file, in_motives, Showing}
use Rattle.paper.specs.CaseL.{lines, put}
use Rattle.paper.specs.Claims.{reads, receives, shows, tells, Row, case}
use Rattle.paper.specs.Marked.{today}
use Rattle.paper.specs.Beyond.{all_but}

-- handed out to 401: rejections of both codes, one with a text of its own, and orders
abbrev pub handed_to_401 : List ℕ
handed_to_401 =
    lines
    ("101 040100000 9999000102506301230A094101BANCO 403              CAMARA                         " ∷
    "5200EMPRESA UNO                         3050001091PPDALQUILERES      250630   1040300020000001" ∷
    "636040100010000000000000000000000012500RECIBO 0001    PEREZ JUAN            001040300020000003" ∷
    "799R10000000000000000      00000000FALTA DE FONDOS                             040300020000003" ∷
    "637040100070000000000000000000000040000RECIBO 0001    PEREZ JUAN            000040300020000009" ∷
    "820000000300080200080000000525000000000000003050001091                         040300020000001" ∷
    "5200EMPRESA UNO                         3050001091PPDALQUILERES      250630   1040200010000002" ∷
    "631040100010000000000000000000000007500RECIBO 0001    PEREZ JUAN            001040200010000011" ∷
    "799R02000000000000000      00000000                                            040200010000011" ∷
    "637040100010000000000000000000000000500RECIBO 0001    PEREZ JUAN            001040200010000012" ∷
    "705PAGO                                                                            00010000012" ∷
    "820000000400080200020000000005000000000075003050001091                         040200010000002" ∷
    "9000002000002000000070016040010000000053000000000007500                                       " ∷ [])

-- three batches of an order each
abbrev pub three_batches : List ℕ
three_batches =
    lines
    ("101 040100000 9999000102506301230A094101BANCO 403              CAMARA                         " ∷
    "5200EMPRESA UNO                         3050001091PPDALQUILERES      250630   1040300020000001" ∷
    "637040100010000000000000000000000012500RECIBO 0001    PEREZ JUAN            000040300020000001" ∷
    "820000000100040100010000000125000000000000003050001091                         040300020000001" ∷
    "5200EMPRESA UNO                         3050001091PPDALQUILERES      250630   1040300020000002" ∷
    "637040100010000000000000000000000012500RECIBO 0001    PEREZ JUAN            000040300020000002" ∷
    "820000000100040100010000000125000000000000003050001091                         040300020000002" ∷
    "5200EMPRESA UNO                         3050001091PPDALQUILERES      250630   1040300020000003" ∷
    "637040100010000000000000000000000012500RECIBO 0001    PEREZ JUAN            000040300020000003" ∷
    "820000000100040100010000000125000000000000003050001091                         040300020000003" ∷
    "9000003000002000000030012030003000000037500000000000000                                       " ∷ [])

-- nothing was addressed to 401
abbrev pub nobody : List ℕ
nobody =
    lines
    ("101 040100000 9999000102506301230A094101BANCO 403              CAMARA                         " ∷
    "9000000000001000000000000000000000000000000000000000000                                       " ∷ [])

-- one hundred lines, of which R00, R02 and R99 say something
abbrev pub motives : List ℕ
motives =
    bytes "LINE OF R00                                 " ++ blanks 44 ++ bytes "LINE OF R02                                 "
    ++ blanks 4224 ++ bytes "LINE OF R99                                 "

abbrev found : TextPlace → Showing
found text = record { answer = accepted; text = text }

abbrev unshown : ℕ → ℕ → Showing
unshown n place = record { answer = refused n place; text = nowhere }

abbrev pub at_desks : List Row
at_desks =
    -- what was handed out to 401; the house does not take it
    case 38 (receives (today Pesos) 401 handed_to_401 accepted) ∷
    case 38 (reads (today Pesos) handed_to_401 (refused 17 0)) ∷
    case 38 (receives (today Pesos) 401 nobody accepted) ∷
    -- 208 first, then the length
    case 39 (receives (today Pesos) 0 handed_to_401 (refused 208 0)) ∷
    case 39 (receives (today Pesos) 500 handed_to_401 (refused 208 0)) ∷
    case 39 (receives (all_but 401) 401 handed_to_401 (refused 208 0)) ∷
    case 39 (receives (today Pesos) 500 [] (refused 208 0)) ∷
    case 39 (receives (today Pesos) 401 [] (refused 201 0)) ∷
    -- the desk's own entity with branch 0000, in the session's currency: 17, and no 203
    case 40 (receives (today Pesos) 402 handed_to_401 (refused 17 0)) ∷
    case 40 (receives (today Pesos) 401 (put 0 5 "0402" handed_to_401) (refused 17 0)) ∷
    case 40 (receives (today Pesos) 401 (put 0 9 "0001" handed_to_401) (refused 17 0)) ∷
    case 40 (receives (today Pesos) 401 (put 0 12 "1" handed_to_401) (refused 17 0)) ∷
    case 40 (receives (today Pesos) 401 (put 0 5 "0901" handed_to_401) (refused 17 0)) ∷
    case 40 (receives (today Dollars) 401 handed_to_401 (refused 17 0)) ∷
    case 40 (receives (today Dollars) 402 (put 0 5 "0901" handed_to_401) (refused 17 0)) ∷
    case 40 (receives (today Dollars) 401 (put 0 5 "0901" nobody) accepted) ∷
    -- it is asked last in the header
    case 41 (receives (today Pesos) 401 (put 0 24 "250631" (put 0 5 "0402" handed_to_401)) (refused 75 0)) ∷
    case 41 (receives (today Pesos) 401 (put 0 4 "0" handed_to_401) (refused 17 0)) ∷
    case 41 (receives (today Pesos) 401 (put 0 13 "1" handed_to_401) (refused 17 0)) ∷
    -- 14-23 are free eight digits in their frame
    case 42 (receives (today Pesos) 401 (put 0 15 "00000000" handed_to_401) accepted) ∷
    case 42 (receives (today Pesos) 401 (put 0 15 "05000000" handed_to_401) accepted) ∷
    case 42 (receives (today Pesos) 401 (put 0 15 "A" handed_to_401) (refused 17 0)) ∷
    case 42 (receives (today Pesos) 401 (put 0 22 " " handed_to_401) (refused 17 0)) ∷
    case 42 (receives (today Pesos) 401 (put 0 14 "0" handed_to_401) (refused 17 0)) ∷
    case 42 (receives (today Pesos) 401 (put 0 23 "1" handed_to_401) (refused 17 0)) ∷
    -- a foreign destination, at any branch, stands in the place of 204: an entity of the other currency is 203 before it
    case 43 (receives (today Pesos) 401 (put 2 4 "0402" handed_to_401) (refused 17 2)) ∷
    case 43 (receives (today Pesos) 401 (put 2 4 "0901" handed_to_401) (refused 203 2)) ∷
    case 43 (receives (today Pesos) 401 (put 2 4 "0902" handed_to_401) (refused 203 2)) ∷
    case 43 (receives (today Pesos) 401 (put 2 4 "0500" handed_to_401) (refused 17 2)) ∷
    case 43 (receives (today Pesos) 401 (put 4 4 "0402" handed_to_401) (refused 17 4)) ∷
    case 43 (receives (today Pesos) 401 (put 2 12 "1" (put 2 4 "0402" handed_to_401)) (refused 17 2)) ∷
    case 43 (receives (today Pesos) 401 (put 2 12 "1" handed_to_401) (refused 77 2)) ∷
    -- senders keep their 203 and 204
    case 44 (receives (today Pesos) 401 (put 1 80 "0903" handed_to_401) (refused 203 1)) ∷
    case 44 (receives (all_but 403) 401 handed_to_401 (refused 204 1)) ∷
    case 44 (receives (all_but 402) 401 handed_to_401 (refused 204 6)) ∷
    -- batches run 1, 2, ..
    case 45 (receives (today Pesos) 401 three_batches accepted) ∷
    case 45 (receives (today Pesos) 401 (put 7 94 "2" three_batches) (refused 17 7)) ∷
    case 45 (receives (today Pesos) 401 (put 7 94 "1" three_batches) (refused 17 7)) ∷
    case 45 (receives (today Pesos) 401 (put 1 94 "2" handed_to_401) (refused 17 1)) ∷
    case 45 (receives (today Pesos) 401 (put 1 94 "0" handed_to_401) (refused 17 1)) ∷
    case 45 (receives (today Pesos) 401 (put 6 94 "1" handed_to_401) (refused 17 6)) ∷
    case 45 (receives (today Pesos) 401 (put 6 94 "3" handed_to_401) (refused 17 6)) ∷
    case 45 (receives (today Pesos) 401 (put 6 88 " " handed_to_401) (refused 17 6)) ∷
    case 45 (receives (today Pesos) 401 (put 6 88 "1" handed_to_401) (refused 17 6)) ∷
    case 45 (receives (today Pesos) 401 (put 6 94 "1" (put 6 80 "0902" handed_to_401)) (refused 203 6)) ∷
    case 45 (receives (today Pesos) 401 (put 11 94 "1" handed_to_401) (refused 17 11)) ∷
    -- all else as in 01
    case 46 (receives (today Pesos) 401 (put 2 30 "0000000000" handed_to_401) (refused 19 2)) ∷
    case 46 (receives (today Pesos) 401 (put 3 80 "1" handed_to_401) (refused 25 3)) ∷
    case 46 (receives (today Pesos) 401 (put 5 44 "1" handed_to_401) (refused 17 5)) ∷
    case 46 (receives (today Pesos) 401 (put 12 55 "1" handed_to_401) (refused 17 12)) ∷
    case 46 (receives (today Pesos) 401 (take 1128 handed_to_401) (refused 17 12)) ∷
    case 46 (receives (today Pesos) 401 (put 7 88 "0000009" handed_to_401) (refused 27 7)) ∷
    -- the text in 36-79, where it is not all blank
    case 47 (shows (today Pesos) 401 handed_to_401 motives 3 (found (in_file 317))) ∷
    case 47 (tells (today Pesos) 401 handed_to_401 motives 3 "FALTA DE FONDOS                             ") ∷
    case 47 (shows (today Pesos) 401 (put 8 36 "X" handed_to_401) motives 8 (found (in_file 787))) ∷
    case 47 (tells (today Pesos) 401 (put 8 36 "X" handed_to_401) motives 8 "X                                           ") ∷
    case 47 (shows (today Pesos) 401 (put 8 79 "X" handed_to_401) motives 8 (found (in_file 787))) ∷
    case 47 (tells (today Pesos) 401 (put 8 79 "X" handed_to_401) motives 8 "                                           X") ∷
    -- otherwise the line of the number: R02, R00 and R99
    case 48 (shows (today Pesos) 401 handed_to_401 motives 8 (found (in_motives 88))) ∷
    case 48 (tells (today Pesos) 401 handed_to_401 motives 8 "LINE OF R02                                 ") ∷
    case 48 (shows (today Pesos) 401 (put 8 5 "00" handed_to_401) motives 8 (found (in_motives 0))) ∷
    case 48 (tells (today Pesos) 401 (put 8 5 "00" handed_to_401) motives 8 "LINE OF R00                                 ") ∷
    case 48 (shows (today Pesos) 401 (put 8 5 "99" handed_to_401) motives 8 (found (in_motives 4356))) ∷
    case 48 (tells (today Pesos) 401 (put 8 5 "99" handed_to_401) motives 8 "LINE OF R99                                 ") ∷
    case 48 (shows (today Pesos) 401 (put 3 36 "               " handed_to_401) motives 3 (found (in_motives 440))) ∷
    case 48 (tells (today Pesos) 401 (put 3 36 "               " handed_to_401) motives 3 "                                            ") ∷
    -- 208, then 207 for a list of another length, then the reading
    case 49 (shows (today Pesos) 500 handed_to_401 [] 3 (unshown 208 0)) ∷
    case 49 (shows (today Pesos) 401 handed_to_401 (drop 1 motives) 3 (unshown 207 0)) ∷
    case 49 (shows (today Pesos) 401 handed_to_401 (32 ∷ motives) 3 (unshown 207 0)) ∷
    case 49 (shows (today Pesos) 401 [] (32 ∷ motives) 3 (unshown 207 0)) ∷
    case 49 (shows (today Pesos) 401 [] motives 3 (unshown 201 0)) ∷
    case 49 (shows (today Pesos) 401 (put 6 94 "1" handed_to_401) motives 3 (unshown 17 6)) ∷
    case 49 (shows (today Pesos) 402 handed_to_401 motives 3 (unshown 17 0)) ∷
    -- 214, at 0: no rejection's additional record stands there
    case 50 (shows (today Pesos) 401 handed_to_401 motives 0 (unshown 214 0)) ∷
    case 50 (shows (today Pesos) 401 handed_to_401 motives 1 (unshown 214 0)) ∷
    case 50 (shows (today Pesos) 401 handed_to_401 motives 2 (unshown 214 0)) ∷
    case 50 (shows (today Pesos) 401 handed_to_401 motives 4 (unshown 214 0)) ∷
    case 50 (shows (today Pesos) 401 handed_to_401 motives 5 (unshown 214 0)) ∷
    case 50 (shows (today Pesos) 401 handed_to_401 motives 7 (unshown 214 0)) ∷
    case 50 (shows (today Pesos) 401 handed_to_401 motives 10 (unshown 214 0)) ∷
    case 50 (shows (today Pesos) 401 handed_to_401 motives 11 (unshown 214 0)) ∷
    case 50 (shows (today Pesos) 401 handed_to_401 motives 12 (unshown 214 0)) ∷
    case 50 (shows (today Pesos) 401 handed_to_401 motives 13 (unshown 214 0)) ∷
    case 50 (shows (today Pesos) 401 handed_to_401 motives 14 (unshown 214 0)) ∷
    case 50 (shows (today Pesos) 401 handed_to_401 motives 1000000 (unshown 214 0)) ∷
    case 50 (shows (today Pesos) 401 nobody motives 1 (unshown 214 0)) ∷
    []
