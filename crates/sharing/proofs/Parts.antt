-- What is handed out to one entity, by whether the file holds a record to it: there and back.
use Prim.Native.Nat.{ℕ}
use mathlib.Core.Bool.{true, false}
use mathlib.Core.List.{List}
use mathlib.Core.Path.{◌≡◌, refl, sym, ap, ◌∙◌}
use Rattle.std.specs.Prelude.{Some, None, Ok, Err, IsErr, IsErrAnd}
use Rattle.std.proofs.lemmas.Result.{err_from_is_err_and}
use Rattle.paper.specs.declared.answer.Refusal.{Refusal}
use Rattle.paper.specs.declared.rules.Rules.{Rules}
use Rattle.paper.specs.Answers.{Output}
use Rattle.paper.specs.Buffers.{Outcome, told, extracting}
use Rattle.paper.proofs.Numbers.{told_once}
use Rattle.sharing.specs.Shares.{Part, Portion, nothing, extracted, holds_to, sharing, share_of}

-- ---- a part is nothing, or an output

-- of nothing, that no byte was written
abbrev pub output_of : Part → Output
output_of (Ok None) = Ok 0
output_of (Ok (Some n)) = Ok n
output_of (Err r) = Err r

abbrev pub part_of : Output → Part
part_of (Ok n) = Ok (Some n)
part_of (Err r) = Err r

nothing_or : Portion → Part → Part
nothing_or (nothing buffer) r = Ok None
nothing_or (extracted o) r = r

outcome_of : Portion → Outcome
outcome_of (nothing buffer) = told (Ok 0) buffer
outcome_of (extracted o) = o

part_back : (r : Part) (buffer : List ℕ) → nothing_or (share_of r buffer) (part_of (output_of r)) ≡ r
unfolding nothing_or
part_back (Ok None) buffer = refl
part_back (Ok (Some n)) buffer = refl
part_back (Err r) buffer = refl

outcome_back : (r : Part) (buffer : List ℕ) → outcome_of (share_of r buffer) ≡ told (output_of r) buffer
unfolding outcome_of
outcome_back (Ok None) buffer = refl
outcome_back (Ok (Some n)) buffer = refl
outcome_back (Err r) buffer = refl

-- what is said of a part and its buffer fixes both
pub part_once : (r q : Part) (after later : List ℕ) → share_of r after ≡ share_of q later → (r ≡ q) × (after ≡ later)
part_once r q after later h =
    let t = told_once (output_of r) (output_of q) after later (sym (outcome_back r after) ∙ ap outcome_of h ∙ outcome_back q later) in
    (sym (part_back r after) ∙ (λ i. nothing_or (h i) (part_of (t.0 i))) ∙ part_back q later, t.1)

-- what `?` hands back at a refusal
pub stopped_share : (x : Refusal) (r : Part) (buffer : List ℕ) → IsErr r × IsErrAnd r (λ y. y ≡ x) → share_of r buffer ≡ extracted (told (Err x) buffer)
stopped_share x r buffer h = let p = err_from_is_err_and r h.1 in rw (p.1, p.2) refl

-- ---- what sharing says

module _ (rules : Rules) (e : ℕ) (file buffer : List ℕ) where
  pub none_held : holds_to e file ≡ false → nothing buffer ≡ sharing rules e file buffer
  unfolding sharing
  none_held h = rw h

  pub one_held : holds_to e file ≡ true → {o : Outcome} → o ≡ extracting rules e file buffer → extracted o ≡ sharing rules e file buffer
  unfolding sharing
  one_held h q = rw (h, q)

  module _ (r : Part) (after : List ℕ) (h : share_of r after ≡ sharing rules e file buffer) where
    -- no record: nothing, and the buffer stays
    pub gets_nothing : holds_to e file ≡ false → (r ≡ Ok None) × (after ≡ buffer)
    gets_nothing n = part_once r (Ok None) after buffer (h ∙ sym (none_held n))

    -- a record: what extracting says, and that is not nothing
    pub gets_some : holds_to e file ≡ true → told (output_of r) after ≡ extracting rules e file buffer
    unfolding outcome_of
    gets_some y = sym (outcome_back r after) ∙ ap outcome_of (h ∙ sym (one_held y refl))

    pub gets_part : holds_to e file ≡ true → r ≡ part_of (output_of r)
    unfolding nothing_or
    gets_part y = sym (part_back r after) ∙ ap (λ (x : Portion). nothing_or x (part_of (output_of r))) (h ∙ sym (one_held y refl))
