-- What is looked at, by its form. The body is what its job is handed besides: with a tray a header body, with a company's file an LO body.
use Rattle.std.specs.Prelude.{ℕ, List}
use Rattle.paper.specs.Answers.{Said, refused, and_then}
use Rattle.paper.specs.Buffers.{tray_answer}
use Rattle.company.specs.Files.{company_answer}
use Rattle.looking.specs.declared.Form.{Form}
use Rattle.looking.specs.declared.Form.TheVariants.{Tray, Company}

-- bytes of a record
abbrev pub width_of : Form → ℕ
width_of Tray = 96
width_of (Company currency) = 250

-- no file can be built from a longer tray, and 960,000 bytes have no room for the tray of a longer company's file
abbrev pub limit_of : Form → ℕ
limit_of Tray = 960000
limit_of (Company currency) = 2500000

-- what is said of a longer one: 207, else 201; 201, 207, the first record at fault, else 206
abbrev pub long_said : Form → List ℕ → List ℕ → Said
long_said Tray body bytes = and_then (tray_answer body bytes) (refused 201 0)
long_said (Company currency) body bytes = and_then (company_answer currency body bytes) (refused 206 0)
