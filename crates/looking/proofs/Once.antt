-- What is known of pieces is one thing only, of every form, and so is what is told of them.
use Prim.Native.Nat.{ℕ}
use mathlib.Core.List.{List}
use mathlib.Core.Path.{◌≡◌, sym, ap, ◌∙◌}
use Rattle.watch.specs.declared.Watch.{Watch}
use Rattle.std.specs.Prelude.{Option}
use Rattle.paper.specs.declared.answer.Refusal.{Refusal}
use Rattle.tray.proofs.Once.{begun_once, read_once, tells_once}
use Rattle.company.proofs.Once.{company_read_once, company_tells_once}
use Rattle.looking.specs.declared.Form.{Form}
use Rattle.looking.specs.declared.Form.TheVariants as form
use Rattle.looking.specs.declared.Sought.{Sought}
use Rattle.looking.specs.declared.Sought.TheVariants as sought
use Rattle.looking.specs.declared.Look.{Look}
use Rattle.looking.specs.Looks.{SoughtBegun, SoughtOn, TellsOf, sought_in, watched_in, LookBegun, LookOn}

-- ---- by form, and by what is known

sought_begun_once : (form : Form) (r q : Sought) → SoughtBegun form r → SoughtBegun form q → r ≡ q
sought_begun_once form.Tray (sought.Tray r) (sought.Tray q) s t = ap sought.Tray (begun_once r q s t)
sought_begun_once form.Tray (sought.Tray r) (sought.Company q) s t = absurd t
sought_begun_once form.Tray (sought.Company r) q s t = absurd s
sought_begun_once (form.Company currency) (sought.Tray r) q s t = absurd s
sought_begun_once (form.Company currency) (sought.Company r) (sought.Tray q) s t = absurd t
sought_begun_once (form.Company currency) (sought.Company r) (sought.Company q) s t = ap sought.Company (s ∙ sym t)

sought_read_once : (before : Sought) (body piece : List ℕ) (r q : Sought) → SoughtOn before body piece r → SoughtOn before body piece q → r ≡ q
sought_read_once (sought.Tray p) body piece (sought.Tray r) (sought.Tray q) s t = ap sought.Tray (read_once p piece r q s t)
sought_read_once (sought.Tray p) body piece (sought.Tray r) (sought.Company q) s t = absurd t
sought_read_once (sought.Tray p) body piece (sought.Company r) q s t = absurd s
sought_read_once (sought.Company p) body piece (sought.Tray r) q s t = absurd s
sought_read_once (sought.Company p) body piece (sought.Company r) (sought.Tray q) s t = absurd t
sought_read_once (sought.Company p) body piece (sought.Company r) (sought.Company q) s t = ap sought.Company (company_read_once p body piece r q s t)

sought_tells_once : (known : Sought) (body : List ℕ) (r q : Option Refusal) → TellsOf known body r → TellsOf known body q → r ≡ q
sought_tells_once (sought.Tray p) body r q s t = tells_once p body r q s t
sought_tells_once (sought.Company p) body r q s t = company_tells_once p body r q s t

-- ---- a look is its two parts

same_look : (l m : Look) → sought_in l ≡ sought_in m → watched_in l ≡ watched_in m → l ≡ m
same_look l m s w = ap (λ (x : Sought). record { sought = x; watch = watched_in l }) s ∙ ap (λ (x : Watch). record { sought = sought_in m; watch = x }) w

pub look_begun_once : (form : Form) (w : Watch) (l m : Look) → LookBegun form w l → LookBegun form w m → l ≡ m
look_begun_once form w l m a b = same_look l m (sought_begun_once form (sought_in l) (sought_in m) a.seen b.seen) (a.watch ∙ sym b.watch)

pub look_read_once : (before : Look) (body piece : List ℕ) (l m : Look) → LookOn before body piece l → LookOn before body piece m → l ≡ m
look_read_once before body piece l m a b =
    same_look l m (sought_read_once (sought_in before) body piece (sought_in l) (sought_in m) a.seen b.seen) (a.watch ∙ sym b.watch)

pub look_answer_once : (l : Look) (body : List ℕ) (r q : Option Refusal) → TellsOf (sought_in l) body r → TellsOf (sought_in l) body q → r ≡ q
look_answer_once l body r q s t = sought_tells_once (sought_in l) body r q s t
