-- What a verdict of the code says in the paper's numbers, and the rules that a reading goes by.
use Rattle.std.specs.Prelude.{ℕ, Result, Ok, Err}
use Rattle.paper.specs.declared.answer.Fault.{Fault}
use Rattle.paper.specs.declared.rules.Terms.{Terms}
use Rattle.paper.specs.declared.answer.Refusal.{Refusal}
use Rattle.paper.specs.Answers.{number_of, refusal}
use Rattle.paper.specs.Checks.{Check, fine, wrong}
use Rattle.paper.specs.Records.{ReadingRules}

unfoldable pub check_of : {A : Type 0} → Result A Fault → Check
check_of (Ok x) = fine
check_of (Err fault) = wrong (number_of fault)

abbrev pub under : Terms → ReadingRules
under terms = record { session = record { date = terms.date; currency = terms.currency; roster = terms.roster.now }; reader = terms.reader }

-- a fault of the record at a place refuses there
abbrev pub placed : {A : Type 0} → Result A Fault → ℕ → Result A Refusal
placed (Ok x) place = Ok x
placed (Err fault) place = refusal fault place
