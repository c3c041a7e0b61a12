-- The first wrong word, as it is kept while a text is read, and that of the text.
use Prim.Native.Nat.{ℕ, ◌+◌, ◌^◌, ◌≤◌, ◌<◌}
use native.Mathlib.Numerals.{add-one}
use native.Mathlib.Omega.{arith}
use mathlib.Core.Bool.{Bool, true, false, not, cond, or-false}
use mathlib.Core.List.{List, [], ◌∷◌, ◌++◌}
use mathlib.Core.Logic.{◌⊎◌, inl, inr, ⊎_elim}
use mathlib.Core.Path.{◌≡◌, refl, sym, ap, ◌∙◌, subst}
use borrow.Author.Tests.{not-true, not-false, ltb-true, ltb-false, lt-ltb, le-ltb}
use lib.Dec.{ltb, eqb}
use lib.ListN.{length, get_or, take, set, length-set, length-append, length-replicate}
use lib.Seq.{take_all, take-append-le, take-suc-set, length-take-le}
use Rattle.paper.specs.Fields.{within, number}
use Rattle.typed.specs.declared.roster.Progress.{Progress}
use Rattle.typed.specs.declared.roster.Roster.{Roster}
use Rattle.typed.specs.Words.{entity_typed}
use Rattle.typed.specs.Rosters.{separator, ended, words_from, no_word, wrong_among, wrong_typed, shown_in, told_in, begun, noted, wrong_noted, marks_after, progress_after, closed, next_place, begun_if, bytes_with, kept_with, progress_with, grown_if, with_if, read_on, wrong_in}
use Rattle.typed.proofs.Numbers.{as_entity, as_within, as_below, typed_entity}
use Rattle.typed.proofs.Rosters.{some, some_snoc, Typing, typing_none, typing_on, typing_ended, above_0}
use Rattle.typed.proofs.NotedWords.{tells, first_set, same_read}

-- ---- until then, the first bytes of the word being read are kept

-- this word is being read, or none is, and so many words stand before it
abbrev Kept : Bool → ℕ → List ℕ → Progress → List ℕ → Type 0
Kept true n word p bytes = (p.place ≡ n + 1) × (p.kept ≡ length (take 64 word)) × (take p.kept bytes ≡ take 64 word)
Kept false n word p bytes = p.place ≡ n

record Keeping (n : ℕ) (word : List ℕ) (r : Roster) : Type 0 where
  pub right : wrong_noted r.listed ≡ false
  pub marks : length r.listed ≡ 500
  pub room : length r.bytes ≡ 64
  pub kept : Kept (some word) n word r.progress r.bytes

keeping_none : Keeping 0 [] begun
unfolding begun some
keeping_none = record { right = refl; marks = length-replicate 500 false; room = length-replicate {A = ℕ} 64 0; kept = refl }

counted : (n : ℕ) → n < 2 ^ 63 → next_place n ≡ n + 1
unfolding next_place
counted n h = rw (lt-ltb n (2 ^ 63) h)

-- a word begins
kept_begun : (n : ℕ) (word : List ℕ) (p : Progress) (bytes : List ℕ) → n < 2 ^ 63 → Typing word p → Kept (some word) n word p bytes
    → Kept true n word (begun_if p.word p) bytes
unfolding some begun_if
kept_begun n [] p bytes l t k = subst (λ (b : Bool). Kept true n [] (begun_if b p) bytes) (sym t.reading) (ap next_place k ∙ counted n l, refl, refl)
kept_begun n (x ∷ word) p bytes l t k = subst (λ (b : Bool). Kept true n (x ∷ word) (begun_if b p) bytes) (sym t.reading) k

-- and has one byte more
module _ (n : ℕ) (word : List ℕ) (p : Progress) (bytes : List ℕ) (b : ℕ) (room : length bytes ≡ 64) (k : Kept true n word p bytes) where
  room_on : length (bytes_with p b bytes) ≡ 64
  unfolding bytes_with
  room_on = go (ltb p.kept 64)
    where
      go : (t : Bool) → length (cond t (set bytes p.kept b) bytes) ≡ 64
      go true = length-set bytes p.kept b ∙ room
      go false = room

  kept_on : Kept true n (word ++ b ∷ []) (progress_with p b (kept_with p)) (bytes_with p b bytes)
  unfolding progress_with bytes_with kept_with
  kept_on = go (ltb (length word) 64) refl
    where
      go : (t : Bool) → ltb (length word) 64 ≡ t → Kept true n (word ++ b ∷ []) (progress_with p b (kept_with p)) (bytes_with p b bytes)
      go true e =
          let l = ltb-true (length word) 64 e in
          let all = take_all 64 word (omega arith) in
          let more = take_all 64 (word ++ b ∷ []) (rw length-append (omega arith)) in
          let size : p.kept ≡ length word = k.1 ∙ ap length all in
          let here = lt-ltb p.kept 64 (omega arith) in (
            k.0,
            rw (here, more, length-append word (b ∷ []), size),
            rw (here, more, add-one, take-suc-set bytes p.kept b (omega arith), k.2, all),
          )
      go false e =
          let l = ltb-false (length word) 64 e in
          let size : p.kept ≡ 64 = k.1 ∙ length-take-le 64 word l in
          let full = le-ltb p.kept 64 (omega arith) in
          rw (full, take-append-le 64 word (b ∷ []) l) k

keeping_on : (n : ℕ) (word : List ℕ) (r : Roster) (b : ℕ) → n < 2 ^ 63 → Typing word r.progress → Keeping n word r → Keeping n (word ++ b ∷ []) (with_if false r b)
unfolding with_if grown_if
keeping_on n word r b l t k = subst (λ (wrong : Bool). Keeping n (word ++ b ∷ []) (grown_if wrong r b)) (sym k.right) on
  where
    p : Progress
    p = begun_if r.progress.word r.progress

    there : Kept true n word p r.bytes
    there = kept_begun n word r.progress r.bytes l t k.kept

    on : Keeping n (word ++ b ∷ []) (grown_if false r b)
    on = record {
      right = k.right;
      marks = k.marks;
      room = room_on n word p r.bytes b k.room there;
      kept =
          subst (λ (s : Bool). Kept s n (word ++ b ∷ []) (progress_with p b (kept_with p)) (bytes_with p b r.bytes)) (some_snoc word b)
          (kept_on n word p r.bytes b k.room there);
    }

-- ---- where a word ends, it is right, and the next may begin; or it is told

record Right (n : ℕ) (word : List ℕ) (r : Roster) : Type 0 where
  pub after : ℕ
  pub keeping : Keeping after [] (closed r)
  pub bound : after ≤ n + length word
  pub goes_on : (words : List (List ℕ)) → wrong_among after words ≡ wrong_among n (ended word words)

record Told (n : ℕ) (word : List ℕ) (r : Roster) : Type 0 where
  pub wrong : wrong_noted (closed r).listed ≡ true
  pub stays : (words : List (List ℕ)) → tells (closed r) ≡ wrong_among n (ended word words)

-- its number is noted as no entity's exactly where the word is wrong
noted_right : (marks : List Bool) (word : List ℕ) → length marks ≡ 500 → wrong_noted marks ≡ false
    → not (wrong_noted (noted marks (entity_typed word))) ≡ within 1 499 (number word)
unfolding noted as_entity
noted_right marks word l h =
    let e : ℕ = as_entity (number word) in
    let first : get_or (set marks e true) 0 false ≡ eqb 0 e = first_set marks e (omega arith) ∙ rw (h, or-false (eqb 0 e)) in
    ap (λ (n : ℕ). not (get_or (set marks n true) 0 false)) (typed_entity word)
    ∙ ap not first
    ∙ (above_0 e (as_below (number word)) ∙ as_within (number word))

none_ended : (n : ℕ) (r : Roster) → Typing [] r.progress → Keeping n [] r → Right n [] r
unfolding closed marks_after progress_after some ended
none_ended n r t k =
    let same : marks_after r.progress r.listed ≡ r.listed = ap (λ (b : Bool). cond b (noted r.listed r.progress.number) r.listed) t.reading in
    record {
      after = n;
      keeping = record { right = rw same k.right; marks = rw same k.marks; room = k.room; kept = k.kept };
      bound = omega arith;
      goes_on = λ words. refl;
    }

module _ (n x : ℕ) (word : List ℕ) (r : Roster) (t : Typing (x ∷ word) r.progress) (k : Keeping n (x ∷ word) r) where
  one_noted : marks_after r.progress r.listed ≡ noted r.listed (entity_typed (x ∷ word))
  unfolding marks_after some entity_typed
  one_noted = rw (t.reading, t.so_far)

  fits : not (wrong_noted (marks_after r.progress r.listed)) ≡ within 1 499 (number (x ∷ word))
  fits = rw one_noted (noted_right r.listed (x ∷ word) k.marks k.right)

  long : length (marks_after r.progress r.listed) ≡ 500
  unfolding noted
  long = rw one_noted (length-set r.listed _ true ∙ k.marks)

  is_right : within 1 499 (number (x ∷ word)) ≡ true → Right n (x ∷ word) r
  unfolding closed progress_after some ended wrong_among
  is_right h = record {
    after = n + 1;
    keeping = record { right = not-true _ (fits ∙ h); marks = long; room = k.room; kept = k.kept.0 };
    bound = omega arith;
    goes_on = λ words. rw h;
  }

  is_told : within 1 499 (number (x ∷ word)) ≡ false → Told n (x ∷ word) r
  unfolding closed progress_after wrong_in shown_in some ended wrong_among
  is_told h =
      let f = not-false (wrong_noted (marks_after r.progress r.listed)) (fits ∙ h) in
      record { wrong = f; stays = λ words. rw (f, h, k.kept.0, k.kept.2) }

ending : (n : ℕ) (word : List ℕ) (r : Roster) → Typing word r.progress → Keeping n word r → Right n word r ⊎ Told n word r
ending n [] r t k = inl (none_ended n r t k)
ending n (x ∷ word) r t k = go (within 1 499 (number (x ∷ word))) refl
  where
    go : (b : Bool) → within 1 499 (number (x ∷ word)) ≡ b → Right n (x ∷ word) r ⊎ Told n (x ∷ word) r
    go true h = inl (is_right n x word r t k h)
    go false h = inr (is_told n x word r t k h)

-- ---- a whole text

none_told : (r : Roster) → wrong_noted r.listed ≡ false → tells r ≡ no_word
unfolding wrong_in shown_in
none_told r h = rw h

read_right : (text : List ℕ) (n : ℕ) (word : List ℕ) (r : Roster) → Typing word r.progress → Keeping n word r → n + length word + length text ≤ 2 ^ 63
    → tells (closed (read_on r text)) ≡ wrong_among n (words_from word text)
unfolding closed read_on words_from with_if wrong_among
read_right [] n word r t k l =
    ⊎_elim (λ c. none_told (closed r) c.keeping.right ∙ c.goes_on []) (λ c. c.stays []) (ending n word r t k)
read_right (b ∷ bs) n word r t k l = go (separator b) (read_right bs)
  where
    go : (s : Bool)
        → ((n : ℕ) (word : List ℕ) (r : Roster) → Typing word r.progress → Keeping n word r → n + length word + length bs ≤ 2 ^ 63
        → tells (closed (read_on r bs)) ≡ wrong_among n (words_from word bs))
        → tells (closed (read_on (with_if s r b) bs)) ≡ wrong_among n (cond s (ended word (words_from [] bs)) (words_from (word ++ b ∷ []) bs))
    go true h =
        ⊎_elim
        (λ c. h c.after [] (closed r) (typing_ended r.progress) c.keeping (omega (arith, c.bound)) ∙ c.goes_on (words_from [] bs))
        (λ c. same_read bs (closed r) c.wrong ∙ c.stays (words_from [] bs))
        (ending n word r t k)
    go false h =
        h n (word ++ b ∷ []) (with_if false r b) (typing_on (wrong_noted r.listed) word r b t) (keeping_on n word r b (omega arith) t k)
        (rw length-append (omega arith))

-- what is told after all pieces of a text, closed, is the first wrong word of the text
pub wrong_typed_lem : (text : List ℕ) → length text ≤ 2 ^ 63 → told_in (wrong_in (closed (read_on begun text))) ≡ wrong_typed text
unfolding wrong_typed
wrong_typed_lem text l = read_right text 0 [] begun typing_none keeping_none (omega arith)
