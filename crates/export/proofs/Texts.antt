-- Where the texts of all records begin: the buffer, record by record and by its indices.
use Prim.Native.Nat.{ℕ, zero, suc, ◌+◌, ◌-◌, ◌/◌, ◌%◌, ◌≤◌, ◌<◌, min}
use native.Mathlib.Omega.{arith}
use native.Mathlib.Nat.{eq-or-lt_of_le}
use mathlib.Core.Bool.{Bool, true, false, cond}
use mathlib.Core.List.{List, [], ◌∷◌}
use mathlib.Core.Logic.{⊎_elim}
use mathlib.Core.Path.{◌≡◌, refl, sym, ap, ◌∙◌}
use borrow.Author.Tests.{ltb-true, ltb-false}
use lib.Dec.{ltb}
use lib.ListN.{length, get_or}
use Rattle.std.specs.Prelude.{Ok, Err}
use Rattle.paper.specs.declared.rules.Rules.{Rules}
use Rattle.paper.specs.declared.answer.Refusal.{Refusal}
use Rattle.paper.specs.Answers.{Answer, accepted, said, require}
use Rattle.paper.specs.Receiving.{showable, explains_at, TextPlace, text_at, Showing, shown_if, showing}
use Rattle.desk.proofs.Members.{found}
use Rattle.export.specs.declared.Spoken.{Spoken}
use Rattle.export.specs.declared.member.SpokenText.{SpokenText}
use Rattle.export.specs.Spoken.{Delivered, spoken_of, spoken_by, pair_written}
use Rattle.export.specs.Member.{TextStart, start_of, heard_text, shown_of, text_found, texts_from, lent_after, reasons_in}
use Rattle.export.proofs.PairLaws.{pair_length, pair_at, pair_apart}

module _ (text : ℕ → TextPlace) where
  -- the buffer after record i
  abbrev pub one_written : ℕ → List ℕ → List ℕ
  one_written i texts = pair_written i (start_of (text i)).source (start_of (text i)).at texts

  pub one_text : (n i : ℕ) (texts : List ℕ) → i < n → texts_from text (n - i) i texts ≡ texts_from text (n - (i + 1)) (i + 1) (one_written i texts)
  unfolding texts_from
  one_text n i texts l = let more : n - i ≡ suc (n - (i + 1)) = omega arith in rw more refl

  pub no_more : (n i : ℕ) (texts : List ℕ) → n ≤ i → texts_from text (n - i) i texts ≡ texts
  unfolding texts_from
  no_more n i texts l = let none : n - i ≡ 0 = omega arith in rw none refl

  pub texts_length : (n i : ℕ) (texts : List ℕ) → length (texts_from text n i texts) ≡ length texts
  unfolding texts_from
  texts_length zero i texts = refl
  texts_length (suc n) i texts = texts_length n (i + 1) (one_written i texts) ∙ pair_length i _ _ texts

  -- of record k / 2 the source at an even index, the byte at an odd one
  abbrev pub number_at : ℕ → ℕ
  number_at k = let start = start_of (text (k / 2)) in get_or (start.source ∷ start.at ∷ []) (k % 2) 0

  -- an index of none of these records, or without room for both
  apart : (n i : ℕ) (texts : List ℕ) (k : ℕ) → (i ≤ k / 2 → k / 2 < i + n → length texts / 2 ≤ k / 2) → get_or (texts_from text n i texts) k 0 ≡ get_or texts k 0
  unfolding texts_from
  apart zero i texts k h = refl
  apart (suc n) i texts k h =
      apart n (i + 1) (one_written i texts) k (λ l m. rw (pair_length i _ _ texts) (h (omega arith) (omega arith)))
      ∙ pair_apart i _ _ texts k (λ e. let room = h (omega arith) (omega arith) in omega arith)

  there : (n i : ℕ) (texts : List ℕ) (k : ℕ) → i ≤ k / 2 → k / 2 < i + n → k / 2 < length texts / 2 → get_or (texts_from text n i texts) k 0 ≡ number_at k
  unfolding texts_from
  there zero i texts k h l room = absurd (omega arith)
  there (suc n) i texts k h l room =
      ⊎_elim
      (λ e. apart n (i + 1) (one_written i texts) k (λ a b. absurd (omega arith)) ∙ rw (← e) (pair_at i _ _ texts k (sym e) (omega arith)))
      (λ m. there n (i + 1) (one_written i texts) k (omega arith) (omega arith) (rw (pair_length i _ _ texts) room))
      (eq-or-lt_of_le h)

  -- what stands at an index afterwards: a number of its record, where there is such a record and room for both, else what stood there
  pub text_at_lem : (n : ℕ) (texts : List ℕ) (k : ℕ) → get_or (texts_from text n 0 texts) k 0 ≡ cond (ltb (k / 2) (min n (length texts / 2))) (number_at k) (get_or texts k 0)
  text_at_lem n texts k = go (ltb (k / 2) (min n (length texts / 2))) refl
    where
      go : (b : Bool) → ltb (k / 2) (min n (length texts / 2)) ≡ b → get_or (texts_from text n 0 texts) k 0 ≡ cond b (number_at k) (get_or texts k 0)
      go true e = let l = ltb-true (k / 2) (min n (length texts / 2)) e in there n 0 texts k (omega arith) (omega arith) (omega arith)
      go false e = let l = ltb-false (k / 2) (min n (length texts / 2)) e in apart n 0 texts k (λ a b. omega arith)

-- ---- the loop

module _ (file : List ℕ) (n i : ℕ) (texts : List ℕ) {s : Showing} {r : SpokenText} {after : List ℕ} where
  pub one_more : i < n → s ≡ shown_if (require (explains_at file i) 214 0) (text_at file i) → shown_of s ≡ heard_text r
      → after ≡ pair_written i r.source r.at texts → texts_from (text_found file) (n - i) i texts ≡ texts_from (text_found file) (n - (i + 1)) (i + 1) after
  unfolding text_found shown_of
  one_more l f h t =
      let start : start_of (text_found file i) ≡ record { source = r.source; at = r.at } = ap (λ (x : Showing). start_of x.text) (sym f) ∙ ap (λ (d : Delivered TextStart). d.lent) h in
      one_text (text_found file) n i texts l
      ∙ ap (λ (x : TextStart). texts_from (text_found file) (n - (i + 1)) (i + 1) (pair_written i x.source x.at texts)) start
      ∙ ap (texts_from (text_found file) (n - (i + 1)) (i + 1)) (sym t)

-- ---- the answer

module _ (rules : Rules) (e : ℕ) (file motives : List ℕ) where
  -- each record's text is where showing finds it
  pub as_shown : showable rules e file motives ≡ accepted → text_found file ≡ (λ (i : ℕ). (showing rules e file motives i).text)
  unfolding text_found
  as_shown h = λ j place. (found rules e file motives place h refl j).text

  module _ (texts : List ℕ) {a : Answer} (asked : said a ≡ showable rules e file motives) where
    pub all_shown : {spoken : Spoken} {after : List ℕ} → a ≡ Ok tt → spoken ≡ spoken_of (length file / 94) accepted → after ≡ texts_from (text_found file) (length file / 94) 0 texts
        → reasons_in rules e file motives texts ≡ record { spoken = spoken; lent = after }
    unfolding reasons_in lent_after
    all_shown r s t = let h = sym asked ∙ ap said r in rw (s, t, as_shown h, h) refl

    pub none_shown : {spoken : Spoken} {r : Refusal} → a ≡ Err r → spoken ≡ spoken_by (Err r)
        → reasons_in rules e file motives texts ≡ record { spoken = spoken; lent = texts }
    unfolding reasons_in lent_after spoken_of
    none_shown e s = rw (s, ← asked, e) refl

    -- so of every index what stands there: showing says the numbers of its record
    pub reason_at_lem : a ≡ Ok tt → (k : ℕ)
        → get_or (reasons_in rules e file motives texts).lent k 0
        ≡ cond (ltb (k / 2) (min (length file / 94) (length texts / 2))) (number_at (λ (i : ℕ). (showing rules e file motives i).text) k) (get_or texts k 0)
    unfolding reasons_in lent_after
    reason_at_lem r k = rw (← asked, r) (text_at_lem (λ (i : ℕ). (showing rules e file motives i).text) (length file / 94) texts k)
