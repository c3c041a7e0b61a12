-- A chain of rules: the first fault is what `?` hands back.
use Prim.Native.Nat.{ℕ}
use mathlib.Core.Path.{refl}
use Rattle.std.proofs.Common.{◌≡◌, ap, sym, Result, Ok, Err, IsErr}
use Rattle.std.specs.Prelude.{IsErrAnd}
use Rattle.std.proofs.lemmas.Result.{err_from_is_err_and}
use Rattle.paper.specs.declared.answer.Fault.{Fault}
use Rattle.paper.specs.Answers.{number_of}
use Rattle.paper.specs.Checks.{Check, fine, wrong, ◌also◌}
use Rattle.paper.specs.declared.answer.Refusal.{Refusal}
use Rattle.verdicts.specs.Verdicts.{check_of, placed}

pub fine_also : (c : Check) → fine also c ≡ c
unfolding ◌also◌
fine_also c = refl

pub wrong_also : (n : ℕ) (c : Check) → wrong n also c ≡ wrong n
unfolding ◌also◌
wrong_also n c = refl

pub check_ok : {A : Type 0} (x : A) → check_of (Ok x) ≡ fine
unfolding check_of
check_ok x = refl

pub check_err : (A : Type 0) (f : Fault) → check_of {A = A} (Err f) ≡ wrong (number_of f)
unfolding check_of
check_err A f = refl

-- what `?` hands back at a fault
pub stopped : {A : Type 0} (f : Fault) (r : Result A Fault) → IsErr r → IsErrAnd r (λ y. y ≡ f) → check_of r ≡ wrong (number_of f)
unfolding check_of
stopped f r e h = let p = err_from_is_err_and r h in rw (p.1, p.2) refl

-- what stands behind what is placed
pub placed_ok : {A : Type 0} (r : Result A Fault) (place : ℕ) {x : A} → Ok x ≡ placed r place → r ≡ Ok x
placed_ok (Ok y) place {x} h = let w : x ≡ y = cc in ap Ok (sym w)
placed_ok (Err f) place h = cc

pub placed_err : {A : Type 0} (r : Result A Fault) (place : ℕ) {e : Refusal} → Err e ≡ placed r place → (r ≡ Err e.fault) × (e.place ≡ place)
placed_err (Ok y) place h = (cc, cc)
placed_err (Err f) place {e} h =
    let w : e ≡ record { fault = f; place = place } = cc in
    (ap (λ (r : Refusal). Err r.fault) (sym w), ap (λ (r : Refusal). r.place) w)

-- what the check needs of such a chain
pub ruleset chain = (stopped, fine_also, wrong_also, check_ok, check_err)
