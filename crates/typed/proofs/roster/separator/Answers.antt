use Rattle.std.proofs.Common.{List, [], arith, inl, inr, refl, true, ℕ, ⊎_elim, ◌∷◌, ◌≡◌}
use types.Run.{OneOf}
use Rattle.paper.specs.Fields.{among}
use Rattle.paper.proofs.Runs.{in_run}
use Rattle.characters.proofs.Ranges.{Keys, apart}
use Rattle.typed.specs.Rosters.{separator}
use Rattle.typed.proofs.roster.separator.Goals as goal

abbrev four : List ℕ
four = 9 ∷ 10 ∷ 13 ∷ 32 ∷ []

-- 9 and 10 are tested as a range, 13 and 32 as keys
others : {b : ℕ} → (OneOf (13 ∷ 32 ∷ []) b → ⊥) → Keys (λ k. b ≡ k → ⊥) (13 ∷ 32 ∷ [])
others h = (λ e. h (inl e), (λ e. h (inr e), tt))

pub returns-in_default : goal.returns-in_default
unfolding separator among
returns-in_default c = apart c.args.b four (omega arith)

pub returns-in_default-2 : goal.returns-in_default-2
unfolding separator among
returns-in_default-2 c = apart c.args.b four (omega arith, (omega arith, others c.in_default.in_default-own.rest.1))

pub returns-in-9 : goal.returns-in-9
unfolding separator among
returns-in-9 c = ⊎_elim (λ e. rw e) (λ e. rw e) c.in-9.is

pub returns-in-9-2 : goal.returns-in-9-2
unfolding separator among
returns-in-9-2 c = in_run (λ b. true ≡ separator b) 9 2 (refl, (refl, tt)) c.args.b (omega arith) (omega arith)
