-- The twelve marked cases: one table, one statement. Each row bears the number of its case.
use Rattle.std.specs.Prelude.{ℕ, List, [], ◌∷◌, ℤ, pos, neg_ℤ}
use Rattle.paper.specs.declared.rules.Rules.{Rules}
use Rattle.paper.specs.declared.rules.Currency.{Currency}
use Rattle.paper.specs.declared.rules.Currency.TheVariants.{Pesos, Dollars}
use Rattle.paper.specs.declared.ledger.Cell.{Cell}
use Rattle.paper.specs.Answers.{accepted, refused}
use Rattle.paper.specs.Sessions.{Session, opening, presenting}
use Rattle.paper.specs.CaseL.{case_l, empty, put, without}
use Rattle.paper.specs.Claims.{reads, opens, presents, holds, prints, Row, case, dated}

-- on the day of case L
abbrev pub today : Currency → Rules
today currency = dated 250630 currency

-- a session to which L was presented
abbrev pub after_l : Session
after_l = (presenting (opening 250630 Pesos (403 ∷ 401 ∷ 402 ∷ 401 ∷ [])).session case_l).session

abbrev pub cell : ℤ → ℕ → ℕ → Cell
cell position sent received = record { position = position; sent = sent; received = received }

abbrev pub table : List Row
table =
    -- header and control only: accepted
    case 1 (reads (today Pesos) empty accepted) ∷
    -- L's positions
    case 2 (reads (today Pesos) case_l accepted) ∷
    case 2 (holds after_l (401 ∷ 402 ∷ 403 ∷ 404 ∷ [])
    (cell (pos 60000) 2 1 ∷ cell (neg_ℤ (pos 12500)) 0 1 ∷ cell (neg_ℤ (pos 47500)) 1 1 ∷ cell (pos 0) 0 0 ∷ [])) ∷
    case 2 (prints case_l ("ENTITY SENT RECEIVED NET" ∷ "401 2 1 60000" ∷ "402 0 1 -12500" ∷ "403 1 1 -47500" ∷ "SUM 3 3 0" ∷ [])) ∷
    -- L presented twice: 209, session unchanged
    case 3 (presents after_l case_l (refused 209 0) after_l) ∷
    -- first amount 0000000000: 19 at 2
    case 4 (reads (today Pesos) (put 2 30 "0000000000" case_l) (refused 19 2)) ∷
    -- an amount with a blank: 19
    case 5 (reads (today Pesos) (put 2 30 "00000 2500" case_l) (refused 19 2)) ∷
    case 5 (reads (today Pesos) (put 2 30 " 000012500" case_l) (refused 19 2)) ∷
    -- amount 0000000001 is good
    case 6 (reads (today Pesos) (put 2 30 "0000000001" (put 4 21 "000000040001" (put 9 32 "000000040001" case_l))) accepted) ∷
    -- dates 000229 and 240229 good, 230229 not
    case 7 (reads (dated 229 Pesos) (put 0 24 "000229" empty) accepted) ∷
    case 7 (reads (dated 240229 Pesos) (put 0 24 "240229" empty) accepted) ∷
    case 7 (reads (dated 230229 Pesos) (put 0 24 "230229" empty) (refused 75 0)) ∷
    case 7 (reads (today Pesos) (put 1 70 "230229" case_l) (refused 75 1)) ∷
    case 7 (opens 229 Pesos [] accepted) ∷
    case 7 (opens 240229 Pesos [] accepted) ∷
    case 7 (opens 230229 Pesos [] (refused 75 0)) ∷
    -- bytes 35, 95 good, 38, 96 not
    case 8 (reads (today Pesos) (put 0 41 "#" empty) accepted) ∷
    case 8 (reads (today Pesos) (put 0 41 "_" empty) accepted) ∷
    case 8 (reads (today Pesos) (put 0 41 "&" empty) (refused 17 0)) ∷
    case 8 (reads (today Pesos) (put 1 60 "`" empty) (refused 17 1)) ∷
    -- entity values 0001, 0499, 0501, 0999 good, 0000, 0500, 1000 not
    case 9 (reads (today Pesos) (put 0 15 "0001" empty) accepted) ∷
    case 9 (reads (today Pesos) (put 0 15 "0499" empty) accepted) ∷
    case 9 (reads (today Dollars) (put 0 15 "0501" empty) accepted) ∷
    case 9 (reads (today Dollars) (put 0 15 "0999" empty) accepted) ∷
    case 9 (reads (today Pesos) (put 0 15 "0501" empty) (refused 203 0)) ∷
    case 9 (reads (today Dollars) (put 0 15 "0499" empty) (refused 203 0)) ∷
    case 9 (reads (today Pesos) (put 0 15 "0000" empty) (refused 17 0)) ∷
    case 9 (reads (today Pesos) (put 0 15 "0500" empty) (refused 17 0)) ∷
    case 9 (reads (today Pesos) (put 0 15 "1000" empty) (refused 17 0)) ∷
    -- flag 1, then an 8: 25
    case 10 (reads (today Pesos) (without 7 case_l) (refused 25 7)) ∷
    -- code 32 with "01": 87
    case 11 (reads (today Pesos) (put 6 77 "01" case_l) (refused 87 6)) ∷
    -- a 5, then an 8: 17
    case 12 (reads (today Pesos) (without 6 (without 7 case_l)) (refused 17 6)) ∷
    []
