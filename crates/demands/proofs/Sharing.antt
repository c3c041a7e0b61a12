-- The extracts that the desk hands out of one file share it out among the entities on the roster.
use Prim.Native.Nat.{ℕ, ◌≤◌}
use mathlib.Core.Bool.{Bool, true, false}
use mathlib.Core.List.{List, []}
use mathlib.Core.Path.{◌≡◌, refl, sym, ap, ◌∙◌, subst}
use lib.Dec.{T}
use lib.ListN.{length, get_or}
use Rattle.std.specs.Prelude.{Ok, Err}
use Rattle.paper.specs.Answers.{Output, accepted}
use Rattle.paper.specs.Fields.{within}
use Rattle.paper.specs.Reading.{parts, records_of, reading}
use Rattle.paper.specs.Extract.{grouped, batches_of, item_records, extract}
use Rattle.paper.specs.Demands.{items_in, items_of, carried, SharedOut}
use Rattle.paper.proofs.Tests.{T_of}
use Rattle.paper.proofs.Shared as paper-shared
use Rattle.paper.proofs.Shared.{extract_records, same_hands, nobody_gets}
use Rattle.desk.specs.declared.Session.{Session}
use Rattle.desk.specs.Standing.{rules_of}
use Rattle.desk.specs.Lent.{handed}
use Rattle.desk.specs.Calls.{Extracts}
use Rattle.demands.proofs.Extracts.{extract_exactly, extract_held, extract_has_room}

-- a call for every number, with a buffer as long as the file for every entity on the roster
module _ (s : Session) (file : List ℕ) (before after : ℕ → List ℕ) (r : ℕ → Output) (reads : reading (rules_of s) file ≡ accepted)
    (calls : (e : ℕ) → Extracts s e file (before e) (r e) (after e))
    (room : (e : ℕ) → T (within 1 499 e) → T (get_or s.rules.roster e false) → length file ≤ length (before e)) where
  got : (e : ℕ) → T (within 1 499 e) → T (get_or s.rules.roster e false) → handed (r e) (after e) ≡ extract s.rules.currency e file
  got e w l =
      let accepts = extract_has_room s e file (before e) (r e) (after e) (calls e) w l reads (room e w l) in
      (extract_held s e file (before e) (r e) (after e) (calls e) accepts).0

  -- who is not on the roster is refused, by 208
  nothing_got : (e : ℕ) → (T (within 1 499 e) → T (get_or s.rules.roster e false) → ⊥) → items_of (handed (r e) (after e)) ≡ []
  unfolding handed items_of items_in batches_of grouped records_of parts
  nothing_got e none = go (r e) refl
    where
      go : (q : Output) → r e ≡ q → items_of (handed q (after e)) ≡ []
      go (Ok n) p = let x = (extract_exactly s e file (before e) (r e) (after e) (calls e)).1 n p in absurd (none x.entity x.listed)
      go (Err r) p = refl

  in_hand : (e : ℕ) → items_of (extract s.rules.currency e file) ≡ items_of (handed (r e) (after e))
  in_hand e = go (within 1 499 e) (get_or s.rules.roster e false) refl refl
    where
      nobody : (T (within 1 499 e) → T (get_or s.rules.roster e false) → ⊥) → items_of (extract s.rules.currency e file) ≡ items_of (handed (r e) (after e))
      nobody none = nobody_gets (paper-shared.shared_out (rules_of s) file reads) e none ∙ sym (nothing_got e none)

      go : (a b : Bool) → within 1 499 e ≡ a → get_or s.rules.roster e false ≡ b → items_of (extract s.rules.currency e file) ≡ items_of (handed (r e) (after e))
      go true true p q = ap items_of (sym (got e (T_of p) (T_of q)))
      go true false p q = nobody (λ w l. subst T q l)
      go false b p q = nobody (λ w l. subst T p w)

  -- each individual record with its additional stands in exactly one entity's extract, its addressee's, in the file's order
  -- (not so with an extract that is always empty, or one that shows a record to its sender too)
  pub shared_out : SharedOut s.rules.roster (items_of file) (λ e. items_of (handed (r e) (after e)))
  shared_out = same_hands in_hand (paper-shared.shared_out (rules_of s) file reads)

  -- and no individual or additional record stands in an extract beside these
  pub nothing_beside : (e : ℕ) → T (within 1 499 e) → T (get_or s.rules.roster e false)
      → item_records (items_of (handed (r e) (after e))) ≡ carried (records_of (handed (r e) (after e)))
  nothing_beside e w l =
      subst (λ (x : List ℕ). item_records (items_of x) ≡ carried (records_of x)) (sym (got e w l)) (extract_records (rules_of s) e file reads)
