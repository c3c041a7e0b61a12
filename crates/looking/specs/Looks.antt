-- What is looked at in pieces, by its form, and watched. The fields of a look are private: other specs speak of them by these words.
use Rattle.std.specs.Prelude.{ℕ, List, [], ◌≡◌, Option}
use Rattle.watch.specs.declared.Watch.{Watch}
use Rattle.watch.specs.Watches.{place_of, watch_at, watch_on}
use Rattle.paper.specs.declared.answer.Refusal.{Refusal}
use Rattle.tray.specs.Seen.{Seen, ReadOn, Tells}
use Rattle.company.specs.Seen.{company_begun, CompanySeen, CompanyOn, CompanyTells}
use Rattle.looking.specs.declared.Form.{Form}
use Rattle.looking.specs.declared.Form.TheVariants as form
use Rattle.looking.specs.declared.Sought.{Sought}
use Rattle.looking.specs.declared.Sought.TheVariants as sought
use Rattle.looking.specs.declared.Look.{Look}

-- ---- what is known

-- before any piece
abbrev pub SoughtBegun : Form → Sought → Type 0
SoughtBegun form.Tray (sought.Tray p) = Seen p []
SoughtBegun form.Tray (sought.Company p) = ⊥
SoughtBegun (form.Company currency) (sought.Tray p) = ⊥
SoughtBegun (form.Company currency) (sought.Company p) = p ≡ company_begun currency

-- this much of these bytes was seen
abbrev pub SeenOf : Form → List ℕ → Sought → List ℕ → Type 0
SeenOf form.Tray body (sought.Tray p) bytes = Seen p bytes
SeenOf form.Tray body (sought.Company p) bytes = ⊥
SeenOf (form.Company currency) body (sought.Tray p) bytes = ⊥
SeenOf (form.Company currency) body (sought.Company p) bytes = CompanySeen currency body p bytes

-- after one piece more
abbrev pub SoughtOn : Sought → List ℕ → List ℕ → Sought → Type 0
SoughtOn (sought.Tray p) body piece (sought.Tray r) = ReadOn p piece r
SoughtOn (sought.Tray p) body piece (sought.Company r) = ⊥
SoughtOn (sought.Company p) body piece (sought.Tray r) = ⊥
SoughtOn (sought.Company p) body piece (sought.Company r) = CompanyOn p body piece r

-- what is told after all pieces
abbrev pub TellsOf : Sought → List ℕ → Option Refusal → Type 0
TellsOf (sought.Tray p) body known = Tells p body known
TellsOf (sought.Company p) body known = CompanyTells p body known

-- ---- a look

-- what is known so far
abbrev pub sought_in : Look → Sought
sought_in l = l.sought

-- what watched the bytes that were looked at
abbrev pub watched_in : Look → Watch
watched_in l = l.watch

pub record LookBegun (form : Form) (w : Watch) (l : Look) : Type 0 where
  pub seen : SoughtBegun form (sought_in l)
  pub watch : watched_in l ≡ watch_at (place_of w)

pub record LookOn (before : Look) (body piece : List ℕ) (after : Look) : Type 0 where
  pub seen : SoughtOn (sought_in before) body piece (sought_in after)
  pub watch : watched_in after ≡ watch_on (watched_in before) piece
