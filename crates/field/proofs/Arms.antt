-- What an arm of a match says of the variant that was matched.
use Rattle.std.proofs.Common.{◌≡◌, ℕ, zero, suc, List, [], ◌∷◌, sym, refl, ap, ◌∙◌, inl, inr}
use types.Run.{OneOf}
use denote.Enum.Declared.{tag_of}
use Rattle.paper.specs.contracts.record.Kind as kind
use Rattle.paper.specs.contracts.record.Before as before
use Rattle.paper.specs.declared.record.Kind.{Kind}
use Rattle.paper.specs.declared.record.Kind.TheVariants.{FileHeader, BatchHeader, Individual, Additional, BatchControl, FileControl, Other}
use Rattle.paper.specs.declared.record.Before.{Before}
use Rattle.paper.specs.declared.record.Before.TheVariants.{Nothing, Between, Opened, Flagged, Inside, Ended}
use Rattle.characters.proofs.Ranges.{Keys}

-- of variants numbered from 0: what is said of each of an arm's numbers is said of the variant
module _ {A B : Type 0} (tag : B → ℕ) (at : ℕ → B) (back : (v : B) → at (tag v) ≡ v) (said : A) (row : B → A) where
  listed : (ks : List ℕ) → Keys (λ n. said ≡ row (at n)) ks → (n : ℕ) → OneOf ks n → said ≡ row (at n)
  listed [] h n e = absurd e
  listed (k ∷ []) h n e = h.0 ∙ ap (λ (x : ℕ). row (at x)) (sym e)
  listed (k ∷ (l ∷ ks)) h n (inl e) = h.0 ∙ ap (λ (x : ℕ). row (at x)) (sym e)
  listed (k ∷ (l ∷ ks)) h n (inr e) = listed (l ∷ ks) h.1 n e

  in_arm : (ks : List ℕ) → Keys (λ n. said ≡ row (at n)) ks → (v : B) → OneOf ks (tag v) → said ≡ row v
  in_arm ks h v e = listed ks h (tag v) e ∙ ap row (back v)

abbrev pub kind_at : ℕ → Kind
kind_at zero = FileHeader
kind_at (suc zero) = BatchHeader
kind_at (suc (suc zero)) = Individual
kind_at (suc (suc (suc zero))) = Additional
kind_at (suc (suc (suc (suc zero)))) = BatchControl
kind_at (suc (suc (suc (suc (suc zero))))) = FileControl
kind_at (suc (suc (suc (suc (suc (suc n)))))) = Other

kind_back : (k : Kind) → kind_at (tag_of kind.the_type k) ≡ k
kind_back FileHeader = refl
kind_back BatchHeader = refl
kind_back Individual = refl
kind_back Additional = refl
kind_back BatchControl = refl
kind_back FileControl = refl
kind_back Other = refl

pub in_kinds : {A : Type 0} (said : A) (row : Kind → A) (ks : List ℕ) → Keys (λ n. said ≡ row (kind_at n)) ks → (k : Kind) → OneOf ks (tag_of kind.the_type k) → said ≡ row k
in_kinds = in_arm (tag_of kind.the_type) kind_at kind_back

abbrev pub before_at : ℕ → Before
before_at zero = Nothing
before_at (suc zero) = Between
before_at (suc (suc zero)) = Opened
before_at (suc (suc (suc zero))) = Flagged
before_at (suc (suc (suc (suc zero)))) = Inside
before_at (suc (suc (suc (suc (suc n))))) = Ended

before_back : (b : Before) → before_at (tag_of before.the_type b) ≡ b
before_back Nothing = refl
before_back Between = refl
before_back Opened = refl
before_back Flagged = refl
before_back Inside = refl
before_back Ended = refl

pub in_befores : {A : Type 0} (said : A) (row : Before → A) (ks : List ℕ) → Keys (λ n. said ≡ row (before_at n)) ks → (b : Before) → OneOf ks (tag_of before.the_type b) → said ≡ row b
in_befores = in_arm (tag_of before.the_type) before_at before_back
