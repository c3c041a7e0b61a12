-- Beyond the marked cases, numbered on from 13: the rules that they leave out, and two faults in one record. Same form, same statement.
use Rattle.std.specs.Prelude.{ℕ, ◌+◌, ◌*◌, true, false, List, [], ◌∷◌, ◌++◌, pos, neg_ℤ, take, drop, replicate, set}
use Prim.Native.String.{String}
use Rattle.paper.specs.declared.rules.Rules.{Rules}
use Rattle.paper.specs.declared.rules.Currency.TheVariants.{Pesos, Dollars}
use Rattle.paper.specs.Answers.{accepted, refused}
use Rattle.paper.specs.Sessions.{Session, opening, presenting}
use Rattle.paper.specs.Trays.{strip}
use Rattle.paper.specs.CaseL.{lines, case_l, empty, put}
use Rattle.paper.specs.Claims.{characters, dates, no_dates, reads, opens, answers, presents, holds, extracts, builds, strips, Row, case, wrote, gave}
use Rattle.paper.specs.Marked.{today, cell}

-- all entities but one
abbrev pub all_but : ℕ → Rules
all_but e = record { date = 250630; currency = Pesos; roster = set (false ∷ replicate 499 true) e false }

-- L with a rejection instead of the reversal: 403 returns a debit of 7500 to 401, under motive R10
abbrev pub rejection : List ℕ
rejection =
    put 6 2 "36" (put 7 2 "99R10000000000000000      00000000" (put 7 80 "040300020000003"
    (put 8 21 "000000007500000000000000" (put 9 32 "000000060000000000000000" case_l))))

-- L with the rejection of a reversal in its place: the amounts count as before
abbrev reversal_rejection : List ℕ
reversal_rejection = put 6 2 "31" (put 7 2 "99R10000000000000000      00000000" (put 7 80 "040300020000003" case_l))

abbrev pub fresh : Session
fresh = (opening 250630 Pesos (401 ∷ 402 ∷ 403 ∷ [])).session

-- fresh, after a file
abbrev fresh_after : List ℕ → Session
fresh_after file = (presenting fresh file).session

-- L's tray, with a byte put at an index of the record at a place
abbrev tray_with : ℕ → ℕ → ℕ → List ℕ
tray_with place index byte = set (strip case_l) (place * 96 + index) byte

-- L with other numbers in 88-94 of its three individual records, the third's in its additional too
abbrev numbered_l : String → String → String → List ℕ
numbered_l a b c = put 2 88 a (put 3 88 b (put 6 88 c (put 7 88 c case_l)))

-- with both batches of one sender
abbrev one_sender : List ℕ → List ℕ
one_sender file = put 5 80 "04010001" (put 6 80 "04010001" (put 8 80 "04010001" file))

abbrev pub beyond : List Row
beyond =
    -- 36 returns a debit: its sender collects
    case 13 (reads (today Pesos) rejection accepted) ∷
    case 13 (holds (fresh_after rejection) (401 ∷ 403 ∷ []) (cell (pos 45000) 2 1 ∷ cell (neg_ℤ (pos 32500)) 1 1 ∷ [])) ∷
    -- 31 counts and posts as 32 does
    case 13 (reads (today Pesos) reversal_rejection accepted) ∷
    case 13 (holds (fresh_after reversal_rejection) (401 ∷ 403 ∷ []) (cell (pos 60000) 2 1 ∷ cell (neg_ℤ (pos 47500)) 1 1 ∷ [])) ∷
    -- records are posted only where the file control was seen
    case 14 (presents fresh (take 846 case_l) (refused 17 9) fresh) ∷
    case 14 (presents fresh (put 9 32 "000000052501" case_l) (refused 17 9) fresh) ∷
    -- 209: the identifier, and the origin without branch
    case 14 (answers (fresh_after (put 0 34 "0" empty)) empty accepted) ∷
    case 14 (answers (fresh_after empty) (put 0 34 "B" empty) accepted) ∷
    case 14 (answers (fresh_after empty) (put 0 19 "0009" empty) (refused 209 0)) ∷
    case 14 (answers (fresh_after empty) (put 0 19 "9009" empty) (refused 209 0)) ∷
    case 14 (answers (fresh_after (put 0 34 "9" empty)) empty accepted) ∷
    case 14 (answers (fresh_after empty) (put 0 15 "0402" empty) accepted) ∷
    case 14 (answers (fresh_after empty) (put 2 30 "0000000000" case_l) (refused 19 2)) ∷
    -- characters: all 57 of them, as document 004 prints the set
    case 15 (characters " !#$%()*+,-./0123456789:;<=>?@ABCDEFGHIJKLMNOPQRSTUVWXYZ_") ∷
    -- dates: the last day of each month, and the day after it
    case 15 (dates (250131 ∷ 250228 ∷ 250331 ∷ 250430 ∷ 250531 ∷ 250630 ∷ 250731 ∷ 250831 ∷ 250930 ∷ 251031 ∷ 251130 ∷ 251231 ∷ 240229 ∷ 229 ∷ 101 ∷ 991231 ∷ 960229 ∷ [])) ∷
    case 15 (no_dates (250132 ∷ 250229 ∷ 250332 ∷ 250431 ∷ 250532 ∷ 250631 ∷ 250732 ∷ 250832 ∷ 250931 ∷ 251032 ∷ 251131 ∷ 251232 ∷ 0 ∷ 100 ∷ 1 ∷ 250100 ∷ 250001 ∷ 251301 ∷ 250931 ∷ 240230 ∷ 230 ∷ 991232 ∷ 1000101 ∷ 1250630 ∷ [])) ∷
    -- length
    case 15 (reads (today Pesos) (drop 1 empty) (refused 201 0)) ∷
    case 15 (reads (today Pesos) (take 94 empty) (refused 201 0)) ∷
    -- order of types
    case 16 (reads (today Pesos) (put 0 1 "5" case_l) (refused 17 0)) ∷
    case 16 (reads (today Pesos) (put 3 1 "7" case_l) (refused 25 3)) ∷
    case 16 (reads (today Pesos) (put 7 1 "X" case_l) (refused 25 7)) ∷
    case 16 (reads (today Pesos) (put 1 1 "7" case_l) (refused 17 1)) ∷
    case 16 (reads (today Pesos) (put 2 1 "7" case_l) (refused 17 2)) ∷
    case 16 (reads (today Pesos) (put 5 1 "7" case_l) (refused 17 5)) ∷
    case 16 (reads (today Pesos) (put 7 94 "&" (put 7 1 "X" case_l)) (refused 17 7)) ∷
    case 16 (reads (today Pesos) (take 658 case_l) (refused 17 7)) ∷
    case 16 (reads (today Pesos) (empty ++ drop 94 empty) (refused 17 2)) ∷
    -- file header
    case 17 (reads (today Pesos) (put 0 2 "02" case_l) (refused 17 0)) ∷
    case 17 (reads (today Pesos) (put 0 4 "0" case_l) (refused 17 0)) ∷
    case 17 (reads (today Pesos) (put 0 12 "A" case_l) (refused 17 0)) ∷
    case 17 (reads (today Pesos) (put 0 13 " " case_l) (refused 17 0)) ∷
    case 17 (reads (today Pesos) (put 0 14 "0" case_l) (refused 17 0)) ∷
    case 17 (reads (today Pesos) (put 0 22 "A" case_l) (refused 17 0)) ∷
    case 17 (reads (today Pesos) (put 0 23 " " case_l) (refused 17 0)) ∷
    case 17 (reads (today Pesos) (put 0 24 "250629" case_l) (refused 75 0)) ∷
    case 17 (reads (today Pesos) (put 0 30 "    " case_l) accepted) ∷
    case 17 (reads (today Pesos) (put 0 30 "2400" case_l) (refused 17 0)) ∷
    case 17 (reads (today Pesos) (put 0 30 "2360" case_l) (refused 17 0)) ∷
    case 17 (reads (today Pesos) (put 0 30 "12  " case_l) (refused 17 0)) ∷
    case 17 (reads (today Pesos) (put 0 34 "-" case_l) (refused 17 0)) ∷
    case 17 (reads (today Pesos) (put 0 35 "094102" case_l) (refused 17 0)) ∷
    case 17 (reads (today Dollars) case_l (refused 203 0)) ∷
    case 17 (reads (all_but 401) case_l (refused 204 0)) ∷
    case 17 (reads (today Dollars) (put 0 24 "250629" case_l) (refused 75 0)) ∷
    case 17 (reads (all_but 401) (put 0 40 "2" case_l) (refused 17 0)) ∷
    -- batch header
    case 18 (reads (today Pesos) (put 1 2 "A" case_l) (refused 17 1)) ∷
    case 18 (reads (today Pesos) (put 1 5 "                " case_l) (refused 17 1)) ∷
    case 18 (reads (today Pesos) (put 1 54 "          " case_l) (refused 17 1)) ∷
    case 18 (reads (today Pesos) (put 1 41 " " case_l) (refused 17 1)) ∷
    case 18 (reads (today Pesos) (put 1 79 " " case_l) (refused 17 1)) ∷
    case 18 (reads (today Pesos) (put 1 80 "0500" case_l) (refused 17 1)) ∷
    case 18 (reads (today Pesos) (put 1 87 "A" case_l) (refused 17 1)) ∷
    case 18 (reads (today Pesos) (put 1 70 "230229" (put 1 80 "0500" case_l)) (refused 75 1)) ∷
    case 18 (reads (today Pesos) (put 1 80 "0901" (put 1 88 "A" case_l)) (refused 203 1)) ∷
    case 18 (reads (today Pesos) (put 1 80 "0901" case_l) (refused 203 1)) ∷
    case 18 (reads (today Pesos) (put 1 88 "A" case_l) (refused 17 1)) ∷
    case 18 (reads (all_but 403) (put 1 80 "0403" case_l) (refused 204 1)) ∷
    case 18 (reads (all_but 403) (put 1 80 "0403" (put 1 88 "A" case_l)) (refused 204 1)) ∷
    -- individual
    case 19 (reads (today Pesos) (put 2 2 "38" case_l) (refused 17 2)) ∷
    case 19 (reads (today Pesos) (put 2 4 "0902" case_l) (refused 203 2)) ∷
    case 19 (reads (today Pesos) (put 2 4 "0500" case_l) (refused 17 2)) ∷
    case 19 (reads (all_but 403) case_l (refused 204 3)) ∷
    case 19 (reads (all_but 403) (put 3 30 "0000000000" case_l) (refused 204 3)) ∷
    case 19 (reads (today Pesos) (put 2 12 "1" (put 2 13 "A" case_l)) (refused 77 2)) ∷
    case 19 (reads (today Pesos) (put 2 13 "A" (put 2 30 "A" case_l)) (refused 78 2)) ∷
    case 19 (reads (today Pesos) (put 2 30 "A" (put 2 40 "               " case_l)) (refused 19 2)) ∷
    case 19 (reads (today Pesos) (put 2 12 "1" case_l) (refused 77 2)) ∷
    case 19 (reads (today Pesos) (put 2 29 " " case_l) (refused 78 2)) ∷
    case 19 (reads (today Pesos) (put 2 40 "               " case_l) (refused 79 2)) ∷
    case 19 (reads (today Pesos) (put 2 55 "                      " case_l) (refused 17 2)) ∷
    case 19 (reads (today Pesos) (put 2 77 "02" case_l) (refused 87 2)) ∷
    case 19 (reads (today Pesos) (put 2 77 "01" case_l) (refused 25 2)) ∷
    case 19 (reads (today Pesos) (put 2 79 "2" case_l) (refused 17 2)) ∷
    case 19 (reads (today Pesos) (put 2 79 "1" case_l) (refused 25 3)) ∷
    case 19 (reads (today Pesos) (put 6 79 "0" case_l) (refused 25 6)) ∷
    case 19 (reads (today Pesos) (put 2 88 "0000000" case_l) (refused 27 2)) ∷
    case 19 (reads (today Pesos) (put 3 88 "0000001" case_l) (refused 27 3)) ∷
    case 19 (reads (today Pesos) (put 3 84 "0002" case_l) (refused 27 3)) ∷
    case 19 (reads (today Pesos) (put 3 94 " " case_l) (refused 17 3)) ∷
    -- additional
    case 20 (reads (today Pesos) (put 7 2 "99" case_l) (refused 25 7)) ∷
    case 20 (reads (today Pesos) (put 7 84 "A" case_l) (refused 17 7)) ∷
    case 20 (reads (today Pesos) (put 7 88 "0000004" case_l) (refused 25 7)) ∷
    case 20 (reads (today Pesos) (put 7 5 "A" rejection) (refused 17 7)) ∷
    case 20 (reads (today Pesos) (put 7 2 "05" rejection) (refused 25 7)) ∷
    case 20 (reads (today Pesos) (put 7 2 "05" reversal_rejection) (refused 25 7)) ∷
    case 20 (reads (today Pesos) (put 7 4 "S" rejection) (refused 17 7)) ∷
    case 20 (reads (today Pesos) (put 7 7 " " rejection) (refused 17 7)) ∷
    case 20 (reads (today Pesos) (put 7 28 "A" rejection) (refused 17 7)) ∷
    case 20 (reads (today Pesos) (put 7 28 "A" (put 7 80 "040300020000004" rejection)) (refused 17 7)) ∷
    case 20 (reads (today Pesos) (put 7 22 "0" rejection) (refused 17 7)) ∷
    case 20 (reads (today Pesos) (put 7 80 "040300020000004" rejection) (refused 25 7)) ∷
    -- controls
    case 21 (reads (today Pesos) (put 4 10 "3" case_l) (refused 17 4)) ∷
    case 21 (reads (today Pesos) (put 4 5 "     2" case_l) (refused 17 4)) ∷
    case 21 (reads (today Pesos) (put 4 88 "0000002" case_l) (refused 17 4)) ∷
    case 21 (reads (today Pesos) (put 9 7 "1" case_l) (refused 17 9)) ∷
    case 21 (reads (today Pesos) (put 9 13 "2" case_l) (refused 17 9)) ∷
    -- opening
    case 22 (opens 230229 Pesos (0 ∷ []) (refused 75 0)) ∷
    case 22 (opens 240229 Pesos (1 ∷ 500 ∷ []) (refused 208 0)) ∷
    case 22 (opens 240229 Pesos (0 ∷ []) (refused 208 0)) ∷
    case 22 (opens 240229 Pesos (1 ∷ 499 ∷ 1 ∷ []) accepted) ∷
    case 22 (opens 1000101 Pesos [] (refused 75 0)) ∷
    case 22 (reads (opening 230229 Dollars (401 ∷ [])).session.rules (put 0 24 "000101" empty) (refused 204 0)) ∷
    case 22 (reads (opening 230229 Dollars (401 ∷ [])).session.rules (put 0 15 "0901" (put 0 24 "000101" empty)) (refused 203 0)) ∷
    -- an extract: 401's batch was the second and is numbered 1
    case 23 (extracts (today Pesos) 401 case_l (replicate 565 46) (wrote 564 (lines
    ("101 040100000 9999000102506301230A094101BANCO 401              CAMARA                         " ∷
    "5200EMPRESA UNO                         3050001091PPDALQUILERES      250630   1040300020000001" ∷
    "632040100010000000000000000000000007500RECIBO 0001    PEREZ JUAN            001040300020000003" ∷
    "705PAGO                                                                            00010000003" ∷
    "820000000200040100010000000000000000000075003050001091                         040300020000001" ∷
    "9000001000001000000020004010001000000000000000000007500                                       " ∷ []) ++ 46 ∷ []))) ∷
    case 23 (extracts (today Pesos) 404 case_l (replicate 188 46) (wrote 188 (lines
    ("101 040400000 9999000102506301230A094101BANCO 401              CAMARA                         " ∷
    "9000000000001000000000000000000000000000000000000000000                                       " ∷ [])))) ∷
    case 23 (extracts (today Dollars) 404 (put 0 15 "0901" empty) (replicate 188 46) (wrote 188 (lines
    ("101 090400000 9999000102506301230A094101BANCO 401              CAMARA                         " ∷
    "9000000000001000000000000000000000000000000000000000000                                       " ∷ [])))) ∷
    case 23 (extracts (today Pesos) 401 case_l (replicate 563 46) (gave 206 0 (replicate 563 46))) ∷
    case 23 (extracts (all_but 403) 403 [] [] (gave 208 0 [])) ∷
    -- strip and build
    case 24 (strips (today Pesos) case_l (replicate 575 46) (gave 206 0 (replicate 575 46))) ∷
    case 24 (builds (today Pesos) (take 94 case_l) (strip case_l) (replicate 941 46) (wrote 940 (case_l ++ 46 ∷ []))) ∷
    case 24 (builds (today Pesos) (take 94 case_l) (set (strip case_l) 95 49) (replicate 940 46) (gave 207 0 (replicate 940 46))) ∷
    case 24 (builds (today Dollars) (take 94 case_l) (strip case_l) (replicate 941 46) (gave 203 0 (replicate 940 32 ++ 46 ∷ []))) ∷
    case 24 (builds (today Pesos) (take 94 case_l) (tray_with 3 0 88) (replicate 940 46) (gave 207 3 (replicate 940 46))) ∷
    case 24 (builds (today Pesos) (take 94 case_l) (tray_with 1 2 53) (replicate 940 46) (gave 207 1 (replicate 940 46))) ∷
    case 24 (builds (today Pesos) (take 94 case_l) (tray_with 2 89 49) (replicate 940 46) (gave 207 2 (replicate 940 46))) ∷
    case 24 (builds (today Pesos) (take 94 case_l) (tray_with 5 95 32) (replicate 940 46) (gave 207 5 (replicate 940 46))) ∷
    case 24 (builds (today Pesos) (take 93 case_l) (strip case_l) (replicate 940 46) (gave 207 0 (replicate 940 46))) ∷
    case 24 (builds (today Pesos) (take 94 case_l) (take 575 (strip case_l)) (replicate 940 46) (gave 207 0 (replicate 940 46))) ∷
    case 24 (builds (today Pesos) (take 94 case_l) (tray_with 3 0 88) [] (gave 207 3 [])) ∷
    case 24 (builds (today Dollars) (take 94 case_l) (strip case_l) (replicate 939 46) (gave 206 0 (replicate 939 46))) ∷
    -- request 3: numbers restart with a batch, at one that is not used
    case 51 (reads (today Pesos) (numbered_l "0000005" "0000009" "0000007") accepted) ∷
    case 51 (reads (today Pesos) (numbered_l "0000005" "0000009" "0000001") accepted) ∷
    case 51 (reads (today Pesos) (one_sender (numbered_l "0000005" "0000009" "0000001")) accepted) ∷
    case 51 (reads (today Pesos) (numbered_l "0000002" "9999999" "0000001") accepted) ∷
    case 51 (answers fresh (numbered_l "0000005" "0000009" "0000007") accepted) ∷
    -- and 27 at the later of two, whoever the sender
    case 51 (reads (today Pesos) (numbered_l "0000001" "0000002" "0000001") (refused 27 6)) ∷
    case 51 (reads (today Pesos) (one_sender (numbered_l "0000001" "0000002" "0000001")) (refused 27 6)) ∷
    case 51 (reads (today Pesos) (numbered_l "0000001" "0000002" "0000002") (refused 27 6)) ∷
    case 51 (reads (today Pesos) (numbered_l "0000001" "0000001" "0000003") (refused 27 3)) ∷
    -- order in a batch, and above 0
    case 51 (reads (today Pesos) (numbered_l "0000003" "0000002" "0000001") (refused 27 3)) ∷
    case 51 (reads (today Pesos) (numbered_l "9999999" "0000001" "0000002") (refused 27 3)) ∷
    case 51 (reads (today Pesos) (numbered_l "0000000" "0000001" "0000002") (refused 27 2)) ∷
    case 51 (reads (today Pesos) (numbered_l "0000001" "0000002" "0000000") (refused 27 6)) ∷
    -- in its place among the rules
    case 51 (reads (today Pesos) (put 6 30 "0000000000" (numbered_l "0000001" "0000002" "0000001")) (refused 19 6)) ∷
    case 51 (reads (today Pesos) (put 6 80 " " (numbered_l "0000001" "0000002" "0000001")) (refused 17 6)) ∷
    case 51 (reads (today Pesos) (put 8 21 "1" (numbered_l "0000001" "0000002" "0000001")) (refused 27 6)) ∷
    []
