-- A roster as it is read, byte by byte, and the words of its text.
use Prim.Native.Nat.{ℕ, zero, suc, ◌+◌, ◌≤◌, ◌<◌}
use native.Mathlib.Omega.{arith}
use mathlib.Core.Bool.{Bool, true, false, not, ◌&&◌, ◌||◌, cond}
use mathlib.Core.List.{List, [], ◌∷◌, ◌++◌, map, append-nil, append_assoc}
use mathlib.Core.Path.{◌≡◌, refl, sym, ap, ◌∙◌, ap₂}
use borrow.Author.Tests.{eq-eqb, ne_eqb}
use lib.Dec.{T, eqb}
use lib.ListN.{length, set}
use Rattle.paper.specs.declared.rules.Currency.{Currency}
use Rattle.paper.specs.Answers.{Said, accepted, refused, and_then, require}
use Rattle.paper.specs.Fields.{within, among, every, number}
use Rattle.paper.specs.Dates.{is_date}
use Rattle.paper.specs.Sessions.{Reply, listed, new_session, opening_answer, opened_with, opening}
use Rattle.paper.proofs.Tests.{and_l, and_r, T_of, of_T}
use Rattle.paper.proofs.Rosters.{listed_set, listed_none}
use Rattle.characters.proofs.Ranges.{inside}
use Rattle.typed.specs.declared.roster.Progress.{Progress}
use Rattle.typed.specs.declared.roster.Roster.{Roster}
use Rattle.typed.specs.Words.{grown, grown_by, entity_typed}
use Rattle.typed.specs.Rosters.{separator, ended, words_from, roster_typed, begun, noted, wrong_noted, marks_after, progress_after, closed, begun_if, kept_with, progress_with, grown_if, with_if, read_on, numbers_marked, entities_in}
use Rattle.typed.proofs.Numbers.{as_entity, as_within, as_below, as_is, typed_entity}

-- a text read in two pieces is the text read at once
pub pieces : (r : Roster) (a b : List ℕ) → read_on (read_on r a) b ≡ read_on r (a ++ b)
unfolding read_on
pieces r [] b = refl
pieces r (x ∷ a) b = pieces (with_if (separator x) r x) a b

-- ---- the marks that a text's words leave

unfoldable pub some : List ℕ → Bool
some [] = false
some (b ∷ bs) = true

-- this word is being read
pub record Typing (word : List ℕ) (p : Progress) : Type 0 where
  pub reading : p.word ≡ some word
  pub so_far : p.number ≡ grown_by 499 0 word

grown_snoc : (most n : ℕ) (word : List ℕ) (b : ℕ) → grown most (grown_by most n word) b ≡ grown_by most n (word ++ b ∷ [])
unfolding grown_by
grown_snoc most n [] b = refl
grown_snoc most n (x ∷ word) b = grown_snoc most (grown most n x) word b

pub some_snoc : (word : List ℕ) (b : ℕ) → true ≡ some (word ++ b ∷ [])
unfolding some
some_snoc [] b = refl
some_snoc (x ∷ word) b = refl

pub typing_none : Typing [] begun.progress
unfolding begun some grown_by
typing_none = record { reading = refl; so_far = refl }

-- none is, after it has ended
pub typing_ended : (p : Progress) → Typing [] (progress_after p)
unfolding progress_after some grown_by
typing_ended p = record { reading = refl; so_far = refl }

-- one that begins has no byte yet
number_begun : (word : List ℕ) (p : Progress) → Typing word p → (begun_if p.word p).number ≡ grown_by 499 0 word
unfolding begun_if some grown_by
number_begun [] p t = ap (λ (b : Bool). (begun_if b p).number) t.reading
number_begun (x ∷ word) p t = ap (λ (b : Bool). (begun_if b p).number) t.reading ∙ t.so_far

typing_with : (word : List ℕ) (p : Progress) (b kept : ℕ) → p.number ≡ grown_by 499 0 word → Typing (word ++ b ∷ []) (progress_with p b kept)
unfolding progress_with
typing_with word p b kept e = record { reading = some_snoc word b; so_far = ap (λ (n : ℕ). grown 499 n b) e ∙ grown_snoc 499 0 word b }

pub typing_on : (wrong : Bool) (word : List ℕ) (r : Roster) (b : ℕ) → Typing word r.progress → Typing (word ++ b ∷ []) (grown_if wrong r b).progress
unfolding grown_if
typing_on true word r b t = typing_with word r.progress b r.progress.kept t.so_far
typing_on false word r b t =
    let p = begun_if r.progress.word r.progress in typing_with word p b (kept_with p) (number_begun word r.progress t)

-- a byte of a word marks nothing
marks_stay : (wrong : Bool) (r : Roster) (b : ℕ) → (grown_if wrong r b).listed ≡ r.listed
unfolding grown_if
marks_stay true r b = refl
marks_stay false r b = refl

unfoldable pub noting : List Bool → List (List ℕ) → List Bool
noting marks [] = marks
noting marks (word ∷ words) = noting (noted marks (entity_typed word)) words

-- where a word ends, its own number is noted
pub marks_ended : (word : List ℕ) (p : Progress) (marks : List Bool) → Typing word p → marks_after p marks ≡ noting marks (ended word [])
unfolding marks_after noting ended some entity_typed
marks_ended [] p marks t = rw t.reading
marks_ended (x ∷ word) p marks t = rw (t.reading, t.so_far)

noting_ended : (word : List ℕ) (words : List (List ℕ)) (marks : List Bool) → noting (noting marks (ended word [])) words ≡ noting marks (ended word words)
unfolding noting ended
noting_ended [] words marks = refl
noting_ended (x ∷ word) words marks = refl

read_words : (text word : List ℕ) (r : Roster) → Typing word r.progress → (closed (read_on r text)).listed ≡ noting r.listed (words_from word text)
unfolding closed read_on with_if words_from
read_words [] word r t = marks_ended word r.progress r.listed t
read_words (b ∷ bs) word r t = go (separator b) (read_words bs)
  where
    go : (s : Bool) → ((word : List ℕ) (r : Roster) → Typing word r.progress → (closed (read_on r bs)).listed ≡ noting r.listed (words_from word bs))
        → (closed (read_on (with_if s r b) bs)).listed ≡ noting r.listed (cond s (ended word (words_from [] bs)) (words_from (word ++ b ∷ []) bs))
    go true h =
        h [] (closed r) (typing_ended r.progress)
        ∙ ap (λ (marks : List Bool). noting marks (words_from [] bs)) (marks_ended word r.progress r.listed t)
        ∙ noting_ended word (words_from [] bs) r.listed
    go false h =
        let wrong = wrong_noted r.listed in
        h (word ++ b ∷ []) (with_if false r b) (typing_on wrong word r b t)
        ∙ ap (λ (marks : List Bool). noting marks (words_from (word ++ b ∷ []) bs)) (marks_stay wrong r b)

-- they are the marks of the words' numbers
noted_listed : (es word : List ℕ) → noted (listed 500 0 es) (entity_typed word) ≡ listed 500 0 (es ++ as_entity (number word) ∷ [])
unfolding noted as_entity
noted_listed es word = ap (λ (e : ℕ). set (listed 500 0 es) e true) (typed_entity word) ∙ listed_set es (as_entity (number word)) (as_below (number word))

noting_listed : (words : List (List ℕ)) (es : List ℕ) → noting (listed 500 0 es) words ≡ listed 500 0 (es ++ map as_entity (map number words))
unfolding noting
noting_listed [] es = ap (listed 500 0) (sym (append-nil es))
noting_listed (word ∷ words) es =
    ap (λ (marks : List Bool). noting marks words) (noted_listed es word)
    ∙ noting_listed words (es ++ as_entity (number word) ∷ [])
    ∙ ap (listed 500 0) (append_assoc es (as_entity (number word) ∷ []) (map as_entity (map number words)))

-- the marks after a whole text
typed_marks : (text : List ℕ) → (closed (read_on begun text)).listed ≡ listed 500 0 (map as_entity (roster_typed text))
unfolding begun roster_typed
typed_marks text =
    read_words text [] begun typing_none
    ∙ ap (λ (marks : List Bool). noting marks (words_from [] text)) (sym listed_none)
    ∙ noting_listed (words_from [] text) []

-- ---- the numbers that marks stand for

length_listed : (n k : ℕ) (es : List ℕ) → length (listed n k es) ≡ n
unfolding listed
length_listed zero k es = refl
length_listed (suc n) k es = ap suc (length_listed n (k + 1) es)

-- they go up from the first
marked_below : (bs : List Bool) (k e : ℕ) → e < k → among (numbers_marked k bs) e ≡ false
unfolding numbers_marked among
marked_below [] k e h = refl
marked_below (true ∷ bs) k e h = rw (ne_eqb e k (omega arith)) (marked_below bs (k + 1) e (omega arith))
marked_below (false ∷ bs) k e h = marked_below bs (k + 1) e (omega arith)

listed_below : (n k e : ℕ) (es : List ℕ) → e < k → listed n k (e ∷ es) ≡ listed n k es
unfolding listed among
listed_below zero k e es h = refl
listed_below (suc n) k e es h = rw (ne_eqb k e (omega arith), listed_below n (k + 1) e es (omega arith))

-- listed again, they are the marks
listed_marked : (bs : List Bool) (k : ℕ) → listed (length bs) k (numbers_marked k bs) ≡ bs
unfolding listed numbers_marked among
listed_marked [] k = refl
listed_marked (true ∷ bs) k = rw (eq-eqb k k refl, listed_below (length bs) (k + 1) k (numbers_marked (k + 1) bs) (omega arith), listed_marked bs (k + 1))
listed_marked (false ∷ bs) k = rw (marked_below bs (k + 1) k (omega arith), listed_marked bs (k + 1))

-- from 1 on they are entities
marked_within : (bs : List Bool) (k : ℕ) → 1 ≤ k → k + length bs ≤ 500 → every (within 1 499) (numbers_marked k bs) ≡ true
unfolding numbers_marked every
marked_within [] k h l = refl
marked_within (true ∷ bs) k h l = rw (sym (inside 1 499 k h (omega arith))) (marked_within bs (k + 1) (omega arith) (omega arith))
marked_within (false ∷ bs) k h l = marked_within bs (k + 1) (omega arith) (omega arith)

all_marked : (b : Bool) (bs : List Bool) → length bs ≡ 499 → every (within 1 499) (numbers_marked 0 (b ∷ bs)) ≡ not b
unfolding numbers_marked every
all_marked true bs l = refl
all_marked false bs l = marked_within bs 1 (omega arith) (omega arith)

listed_first : (es : List ℕ) → listed 500 0 es ≡ among es 0 ∷ listed 499 1 es
unfolding listed
listed_first es = refl

-- the numbers of a whole roster of marks, listed again
listed_again : (es : List ℕ) → listed 500 0 (numbers_marked 0 (listed 500 0 es)) ≡ listed 500 0 es
listed_again es = rw (length_listed 500 0 es) at (listed_marked (listed 500 0 es) 0)

-- ---- opening

not_or : (a b : Bool) → not (a || b) ≡ (not a && not b)
not_or true b = refl
not_or false b = refl

pub above_0 : (e : ℕ) → e < 500 → not (eqb 0 e) ≡ within 1 499 e
above_0 zero h = refl
above_0 (suc e) h = rw (ne_eqb 0 (suc e) (omega arith)) (inside 1 499 (suc e) (omega arith) (omega arith))

-- 0 is marked where some number is no entity
none_at_0 : (ns : List ℕ) → not (among (map as_entity ns) 0) ≡ every (within 1 499) ns
unfolding among every
none_at_0 [] = refl
none_at_0 (n ∷ ns) =
    not_or (eqb 0 (as_entity n)) (among (map as_entity ns) 0)
    ∙ ap₂ ◌&&◌ (above_0 (as_entity n) (as_below n) ∙ as_within n) (none_at_0 ns)

own_numbers : (ns : List ℕ) → T (every (within 1 499) ns) → map as_entity ns ≡ ns
unfolding every
own_numbers [] t = refl
own_numbers (n ∷ ns) t =
    let all : Bool = every (within 1 499) ns in
    λ i. as_is n (of_T _ (and_l (within 1 499 n) all t)) i ∷ own_numbers ns (and_r (within 1 499 n) all t) i

-- opening asks only whether all are entities and, if so, which are listed
module _ (date : ℕ) (currency : Currency) (es fs : List ℕ) where
  opened_alike : (a : Said) → listed 500 0 es ≡ listed 500 0 fs → opened_with a date currency es ≡ opened_with a date currency fs
  unfolding opened_with new_session
  opened_alike accepted h = rw h
  opened_alike (refused n place) h = refl

  opening_alike : every (within 1 499) es ≡ every (within 1 499) fs → (every (within 1 499) fs ≡ true → listed 500 0 es ≡ listed 500 0 fs)
      → opening date currency es ≡ opening date currency fs
  unfolding opening opening_answer opened_with and_then require
  opening_alike w h = rw w (go (every (within 1 499) fs) (is_date date) h)
    where
      answer : Bool → Bool → Said
      answer d b = and_then (require d 75 0) (require b 208 0)

      reply : Said → List ℕ → Reply
      reply a entities = record { answer = a; session = opened_with a date currency entities }

      go : (b d : Bool) → (b ≡ true → listed 500 0 es ≡ listed 500 0 fs) → reply (answer d b) es ≡ reply (answer d b) fs
      go true d l = λ i. record { answer = answer d true; session = opened_alike (answer d true) (l refl) i }
      go false true l = refl
      go false false l = refl

-- all that is listed are entities exactly where all words are
pub all_typed : (text : List ℕ) → every (within 1 499) (entities_in (closed (read_on begun text))) ≡ every (within 1 499) (roster_typed text)
unfolding entities_in
all_typed text =
    let ns : List ℕ = roster_typed text in
    let es : List ℕ = map as_entity ns in
    ap (λ (marks : List Bool). every (within 1 499) (numbers_marked 0 marks)) (typed_marks text ∙ listed_first es)
    ∙ all_marked (among es 0) (listed 499 1 es) (length_listed 499 1 es)
    ∙ none_at_0 ns

module _ (date : ℕ) (currency : Currency) (text : List ℕ) where
  -- a text opens the session that the numbers of its words open
  pub as_typed : opening date currency (entities_in (closed (read_on begun text))) ≡ opening date currency (roster_typed text)
  unfolding entities_in
  as_typed =
      let ns : List ℕ = roster_typed text in
      let es : List ℕ = map as_entity ns in
      let marks = typed_marks text in
      opening_alike date currency (numbers_marked 0 (closed (read_on begun text)).listed) ns (all_typed text)
      (λ h. rw marks (listed_again es) ∙ ap (listed 500 0) (own_numbers ns (T_of h)))
