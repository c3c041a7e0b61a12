-- What the words of a call ask for.
use Rattle.std.specs.Prelude.{ℕ, Bool, cond, List, leb, eqb, Option, Some, None}
use Rattle.paper.specs.declared.rules.Currency.{Currency}
use Rattle.paper.specs.declared.rules.Currency.TheVariants.{Pesos, Dollars}
use Rattle.paper.specs.Fields.{is}
use Rattle.typed.specs.declared.call.Job.{Job}
use Rattle.typed.specs.declared.call.Job.TheVariants.{Read, Present, Extract, Build, Strip, Share, Receive, Reason, Reasons}
use Rattle.typed.specs.declared.call.Asked.{Asked}
use Rattle.typed.specs.declared.call.Asked.TheVariants.{To, Company}

-- pesos or dollars, by their names
unfoldable pub money_typed : List ℕ → Option Currency
money_typed word = cond (is word "pesos") (Some Pesos) (cond (is word "dollars") (Some Dollars) None)

-- a job in a session, or a company's file, where the currency is known
abbrev pub job_in : Job → Option Currency → Option Asked
job_in job (Some currency) = Some (To job currency)
job_in job None = None

abbrev pub company_in : Option Currency → Option Asked
company_in (Some currency) = Some (Company currency)
company_in None = None

-- a job whose number of words fits, in pesos or in dollars
unfoldable pub asked_in : List ℕ → Job → Bool → Option Asked
asked_in currency job fits = cond fits (job_in job (money_typed currency)) None

unfoldable pub asked_to_make : List ℕ → Bool → Option Asked
asked_to_make currency fits = cond fits (company_in (money_typed currency)) None

-- the job's name, and how many words its call has, the program's own name and the launcher's three words among them: first the jobs that write files
unfoldable pub asked_to_write : List ℕ → List ℕ → ℕ → Option Asked
asked_to_write job currency count =
    cond (is job "extract") (asked_in currency Extract (eqb count 11))
    (cond (is job "build") (asked_in currency Build (eqb count 11))
    (cond (is job "strip") (asked_in currency Strip (eqb count 10))
    (cond (is job "share") (asked_in currency Share (eqb count 10))
    None)))

-- then those of a member's desk, which write none
unfoldable pub asked_of_extract : List ℕ → List ℕ → ℕ → Option Asked
asked_of_extract job currency count =
    cond (is job "receive") (asked_in currency Receive (eqb count 10))
    (cond (is job "reason") (asked_in currency Reason (eqb count 12))
    (cond (is job "reasons") (asked_in currency Reasons (eqb count 11))
    (asked_to_write job currency count)))

-- all in a session; the words of `present` are nine or more
unfoldable pub asked_in_session : List ℕ → List ℕ → ℕ → Option Asked
asked_in_session job currency count =
    cond (is job "read") (asked_in currency Read (eqb count 9))
    (cond (is job "present") (asked_in currency Present (leb 9 count))
    (asked_of_extract job currency count))

-- and that which opens none: its currency is the word behind the job's
unfoldable pub asked_for : List ℕ → List ℕ → List ℕ → ℕ → Option Asked
asked_for job next currency count = cond (is job "company") (asked_to_make next (eqb count 9)) (asked_in_session job currency count)
