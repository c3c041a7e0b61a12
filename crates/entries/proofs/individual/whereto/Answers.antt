use Rattle.std.proofs.Common.{ap, ap₂, arith, drop, length, sym, take, true, ℕ, ◌*◌, ◌+◌, ◌<◌, ◌∙◌, ◌≡◌}
use Rattle.paper.specs.Fields.{field, digits, value}
use Rattle.paper.specs.Records.{destination}
use Rattle.paper.proofs.Tests.{T_of}
use Rattle.verdicts.specs.Verdicts.{check_of, under}
use Rattle.verdicts.proofs.Chain.{stopped}
use Rattle.characters.proofs.Part.{part_length}
use Rattle.characters.proofs.Eights.{first_small, last_small}
use Rattle.characters.proofs.Words.{told_digits, told_none}
use Rattle.field.proofs.Words.{entity_told, field_told}
use Rattle.entries.proofs.Chains.{no_digits}
use Rattle.entries.proofs.individual.whereto.Goals as goal
use Rattle.entries.proofs.individual.whereto.Goals.{After-destination, In-Some}

pub returns-in_default-clause-says : goal.returns-in_default-clause-says
unfolding check_of
returns-in_default-clause-says c = no_digits _ _ (told_none _ (sym c.halves.ensures ∙ c.in_default.is))

-- field 4-11 is digits
abbrev eight : (c : In-Some) → let f = field c.args.rec.now 4 11 in
    (digits f ≡ true) × (value (take 4 f) ≡ c.in-Some.entity) × (value (drop 4 f) ≡ c.in-Some.branch)
eight c = told_digits _ (sym c.halves.ensures ∙ c.in-Some.is)

small : (c : In-Some) → (c.in-Some.entity < 10000) × (c.in-Some.branch < 10000)
small c =
    let f = field c.args.rec.now 4 11 in
    let l : length f ≡ 8 = part_length c.args.rec.now 4 11 (omega (arith, c.requires)) in
    let t = eight c in
    (rw t.1 at (first_small f l (T_of t.0)), rw t.2 at (last_small f l (T_of t.0)))

whereto : (c : After-destination) → check_of c.destination.result ≡ destination (under c.args.terms) (field c.args.rec.now 4 11)
whereto c =
    let t = told_digits _ (sym c.halves.ensures ∙ c.in-Some.is) in
    c.destination.ensures _ t.0 (entity_told _ t.0 ∙ t.1)

pub returns-in_err-destination-clause-says : goal.returns-in_err-destination-clause-says
unfolding check_of
returns-in_err-destination-clause-says c =
    stopped _ _ c.from_residual.ensures.0 c.from_residual.ensures.1
    ∙ (ap check_of (sym c.in_err-destination.was) ∙ whereto (goal.at.returns-in_err-destination-clause-says c).After-destination)

pub returns-clause-says : goal.returns-clause-says
unfolding check_of
returns-clause-says c = ap check_of (sym c.in_ok-destination.was) ∙ whereto (goal.at.returns-clause-says c).After-destination

pub returns-clause-hands : goal.returns-clause-hands
returns-clause-hands c =
    let t = eight (goal.at.returns-clause-hands c).In-Some in
    ap₂ (λ (a b : ℕ). a * 10000 + b) (sym t.1) (sym t.2) ∙ field_told _ t.0 (part_length c.args.rec.now 4 11 (omega (arith, c.requires)))

pub overflow_mul-result : goal.overflow_mul-result
overflow_mul-result c = omega (arith, small (goal.at.overflow_mul-result c).In-Some)

pub overflow_add-result : goal.overflow_add-result
overflow_add-result c = omega (arith, small (goal.at.overflow_add-result c).In-Some)
