-- Pieces of whole records, all but the last, joined are seen whole, and what is told of them is said of the whole; of every form.
use Prim.Native.Nat.{ℕ, ◌%◌, ◌<◌}
use native.Mathlib.Omega.{arith}
use mathlib.Core.List.{List, [], ◌++◌}
use mathlib.Core.Path.{◌≡◌, sym, subst}
use lib.ListN.{length}
use Rattle.std.specs.Prelude.{Some, None}
use Rattle.paper.specs.declared.answer.Refusal.{Refusal}
use Rattle.paper.specs.Answers.{refused_by}
use Rattle.tray.specs.Seen.{most_seen}
use Rattle.tray.proofs.ByPieces.{seen_on, seen_told, seen_endless}
use Rattle.company.specs.declared.pieces.Pieces.{Pieces}
use Rattle.company.specs.Seen.{CompanySeen}
use Rattle.company.proofs.ByPieces.{company_begun_lem, company_on}
use Rattle.company.proofs.LongFiles.{company_told, company_endless}
use Rattle.looking.specs.declared.Form.{Form}
use Rattle.looking.specs.declared.Form.TheVariants as form
use Rattle.looking.specs.declared.Sought.{Sought}
use Rattle.looking.specs.declared.Sought.TheVariants as sought
use Rattle.looking.specs.Forms.{width_of, long_said}
use Rattle.looking.specs.Looks.{SoughtBegun, SeenOf, SoughtOn, TellsOf}

pub sought_none : (form : Form) (body : List ℕ) (s : Sought) → SoughtBegun form s → SeenOf form body s []
sought_none form.Tray body (sought.Tray p) b = b
sought_none form.Tray body (sought.Company p) b = absurd b
sought_none (form.Company currency) body (sought.Tray p) b = absurd b
sought_none (form.Company currency) body (sought.Company p) b = subst (λ (x : Pieces). CompanySeen currency body x []) (sym b) (company_begun_lem currency body)

pub sought_on : (form : Form) (body : List ℕ) (before after : Sought) (bytes piece : List ℕ) → SeenOf form body before bytes
    → length bytes % width_of form ≡ 0 → SoughtOn before body piece after → SeenOf form body after (bytes ++ piece)
sought_on form.Tray body (sought.Tray p) (sought.Tray r) bytes piece s whole o = seen_on p r bytes piece s whole o
sought_on form.Tray body (sought.Tray p) (sought.Company r) bytes piece s whole o = absurd o
sought_on form.Tray body (sought.Company p) after bytes piece s whole o = absurd s
sought_on (form.Company currency) body (sought.Tray p) after bytes piece s whole o = absurd s
sought_on (form.Company currency) body (sought.Company p) (sought.Tray r) bytes piece s whole o = absurd o
sought_on (form.Company currency) body (sought.Company p) (sought.Company r) bytes piece s whole o = company_on currency body p r bytes piece s whole o

pub sought_told : (form : Form) (body : List ℕ) (s : Sought) (bytes : List ℕ) (r : Refusal) → SeenOf form body s bytes → TellsOf s body (Some r)
    → refused_by r ≡ long_said form body bytes
sought_told form.Tray body (sought.Tray p) bytes r seen t = seen_told p body bytes r seen t
sought_told form.Tray body (sought.Company p) bytes r seen t = absurd seen
sought_told (form.Company currency) body (sought.Tray p) bytes r seen t = absurd seen
sought_told (form.Company currency) body (sought.Company p) bytes r seen t = company_told currency body bytes p seen r t

-- what is told to have no end has more bytes than any source hands over
pub sought_endless : (form : Form) (body : List ℕ) (s : Sought) (bytes : List ℕ) → SeenOf form body s bytes → TellsOf s body None → most_seen < length bytes
sought_endless form.Tray body (sought.Tray p) bytes seen t = omega (arith, seen_endless p body bytes seen t)
sought_endless form.Tray body (sought.Company p) bytes seen t = absurd seen
sought_endless (form.Company currency) body (sought.Tray p) bytes seen t = absurd seen
sought_endless (form.Company currency) body (sought.Company p) bytes seen t = omega (arith, company_endless currency body bytes p seen t)
