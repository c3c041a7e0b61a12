-- Numbers on the counter: an answer is acceptance or a refusal number with a place. Record places count from 0.
use Rattle.std.specs.Prelude.{ℕ, Bool, true, false, List, [], ◌∷◌, Result, Ok, Err}
use Rattle.paper.specs.declared.answer.Fault.{Fault}
use Rattle.paper.specs.declared.answer.Fault.TheVariants.{Length, Format, Amount, Additional, Counter, Date, Reserved, Account, Reference, Information, Currency, Roster, Room, Tray, Entity, Identifier, Reason}
use Rattle.paper.specs.declared.answer.Refusal.{Refusal}

-- what the desk says, in this paper's numbers: the refusal number, then the place
pub data Said : Type 0 where
  accepted : Said
  refused : ℕ → ℕ → Said

-- this paper's number of each fault
abbrev pub number_of : Fault → ℕ
number_of Length = 201
number_of Format = 17
number_of Amount = 19
number_of Additional = 25
number_of Counter = 27
number_of Date = 75
number_of Reserved = 77
number_of Account = 78
number_of Reference = 79
number_of Information = 87
number_of Currency = 203
number_of Roster = 204
number_of Room = 206
number_of Tray = 207
number_of Entity = 208
number_of Identifier = 209
number_of Reason = 214

-- the numbers of the table
abbrev pub table_numbers : List ℕ
table_numbers = 201 ∷ 17 ∷ 19 ∷ 25 ∷ 27 ∷ 75 ∷ 77 ∷ 78 ∷ 79 ∷ 87 ∷ 203 ∷ 204 ∷ 206 ∷ 207 ∷ 208 ∷ 209 ∷ 214 ∷ []

-- what a job of the library answers, and one that writes into a lent buffer
abbrev pub Answer : Type 0
Answer = Result (Unit {0}) Refusal

abbrev pub Output : Type 0
Output = Result ℕ Refusal

-- this refusal, in place of whatever acceptance would carry
abbrev pub refusal : {A : Type 0} → Fault → ℕ → Result A Refusal
refusal fault place = Err (record { fault = fault; place = place })

-- what a refusal says
abbrev pub refused_by : Refusal → Said
refused_by r = refused (number_of r.fault) r.place

-- what an answer of the library says, whatever acceptance carries
abbrev pub said : {A : Type 0} → Result A Refusal → Said
said (Ok carried) = accepted
said (Err r) = refused_by r

-- the first refusal is the answer: one stands, and acceptance asks on
unfoldable pub and_then : Said → Said → Said
and_then accepted next = next
and_then (refused n place) next = refused n place

-- the test holds, else this number at this place
unfoldable pub require : Bool → ℕ → ℕ → Said
require true n place = accepted
require false n place = refused n place
