-- 209 is answered exactly for an identifier already accepted from this origin; and what the answer to a presentation depends on.
use Prim.Native.Nat.{ℕ, ◌+◌, ◌*◌, ◌-◌, ◌≤◌, ◌<◌}
use native.Mathlib.Omega.{arith}
use mathlib.Core.Bool.{Bool, true, false, cond, not, ◌||◌}
use mathlib.Core.List.{[], List, ◌∷◌, ◌++◌, map}
use mathlib.Core.Logic.{⊎_elim, ◌⊎◌, inl, inr, ◌↔◌}
use mathlib.Core.Path.{◌≡◌, refl, sym, ap, ◌∙◌, subst, ap₂}
use lib.Dec.{eqb, leb, T, eqb→eq}
use lib.ListN.{length, get_or, take, set, length-replicate, length-set, get_or-replicate}
use lib.Seq.{length-take-le, get_or-set_same, get_or-set_other, get_or-take}
use borrow.Author.Tests.{eq-eqb, ne_eqb, eqb-false, le-leb, lt-leb}
use Rattle.paper.specs.declared.record.Kind.{Kind}
use Rattle.paper.specs.declared.rules.Rules.{Rules}
use Rattle.paper.specs.Answers.{Said, accepted, refused, and_then, require}
use Rattle.paper.specs.Checks.{fine}
use Rattle.paper.specs.Fields.{field, among, every, digit, capital, identifier_field}
use Rattle.paper.specs.Records.{in_house, file_header}
use Rattle.paper.specs.Reading.{start, fields, reading}
use Rattle.paper.specs.Sessions.{Session, new_session, origin_of, identifier_if, identifier_of, key_of, answer_to, session_after, presenting}
use Rattle.paper.specs.Demands.{Faultless, with_accepted, Arose, opened, presented, identifiers_from}
use Rattle.paper.proofs.Tests.{and_l, or_go, T_of, within_range}
use Rattle.paper.proofs.Lists.{one_of}
use Rattle.paper.proofs.Exactly.{also_l, also_r, need_T}
use Rattle.paper.proofs.Accepted.{judged_facts, first_header, accepted_facts}
use Rattle.paper.proofs.Figures.{entity_lt, opened_by}
use Rattle.paper.proofs.Own.{presented_new}

-- ---- an identifier is one of 36

header_identifier : (rules : Rules) (r : List ℕ) → file_header (in_house rules) r ≡ fine → T (identifier_field (field r 34 34))
unfolding file_header
header_identifier rules r h = search (also_l, also_r, need_T) depth 12

-- the header of an accepted file
pub header_read : (rules : Rules) (file : List ℕ) → reading rules file ≡ accepted → file_header (in_house rules) (take 94 file) ≡ fine
unfolding fields
header_read rules file h =
    let a = accepted_facts rules file h in
    let rd : Faultless (in_house rules) start (take 94 file ∷ a.first.0) = rw a.first.1 at a.reads in
    subst (λ (k : Kind). fields k (in_house rules) start (take 94 file) ≡ fine) (first_header (in_house rules) (take 94 file) a.first.0 rd) (judged_facts (in_house rules) start (take 94 file) rd.0).fields

-- a digit is 0 to 9, a capital 10 to 35
abbrev Identifies : ℕ → Type 0
Identifies b =
    ((48 ≤ b) × (b ≤ 57) × (identifier_if (leb b 57) b ≡ b - 48)) ⊎ ((65 ≤ b) × (b ≤ 90) × (identifier_if (leb b 57) b ≡ b - 55))

identifies : (b : ℕ) → T (digit b || capital b) → Identifies b
unfolding digit capital identifier_if
identifies b t = or_go (digit b) (capital b) t
    (λ d. let r = within_range 48 57 b d in inl (r.0, r.1, rw (le-leb b 57 r.1)))
    (λ c. let r = within_range 65 90 b c in inr (r.0, r.1, rw (lt-leb b 57 (omega arith))))

-- position 34 of an accepted file
pub identifier_good : (rules : Rules) (file : List ℕ) → reading rules file ≡ accepted → T (digit (get_or file 33 0) || capital (get_or file 33 0))
unfolding identifier_field every
identifier_good rules file h =
    let a = accepted_facts rules file h in
    let l : length (take 94 file) ≡ 94 = length-take-le 94 file (omega (arith, a.long)) in
    let byte : field (take 94 file) 34 34 ≡ get_or file 33 0 ∷ [] = one_of (take 94 file) 33 (omega (arith, l)) ∙ ap (λ (x : ℕ). x ∷ []) (get_or-take 94 file 33 0 (omega arith)) in
    and_l (digit (get_or file 33 0) || capital (get_or file 33 0)) true (rw byte at (header_identifier rules (take 94 file) (header_read rules file h)))

pub identifier_lt : (rules : Rules) (file : List ℕ) → reading rules file ≡ accepted → identifier_of file < 36
unfolding identifier_of
identifier_lt rules file h = ⊎_elim (λ c. omega arith) (λ c. omega arith) (identifies (get_or file 33 0) (identifier_good rules file h))

one_byte : (b d : ℕ) → Identifies b → Identifies d → identifier_if (leb b 57) b ≡ identifier_if (leb d 57) d → b ≡ d
one_byte b d x y h = ⊎_elim (λ p. ⊎_elim (λ q. omega arith) (λ q. omega arith) y) (λ p. ⊎_elim (λ q. omega arith) (λ q. omega arith) y) x

-- two files that the reading accepts have the same identifier only where position 34 is the same
pub identifier_own : (rules others : Rules) (f g : List ℕ) → reading rules f ≡ accepted → reading others g ≡ accepted
    → identifier_of f ≡ identifier_of g → get_or f 33 0 ≡ get_or g 33 0
unfolding identifier_of
identifier_own rules others f g p q h =
    one_byte (get_or f 33 0) (get_or g 33 0) (identifies (get_or f 33 0) (identifier_good rules f p)) (identifies (get_or g 33 0) (identifier_good others g q)) h

-- so a character in position 34 is an identifier, and two are two
pub identifier_exactly : (rules others : Rules) (f g : List ℕ) → reading rules f ≡ accepted → reading others g ≡ accepted
    → (identifier_of f ≡ identifier_of g) ↔ (field f 34 34 ≡ field g 34 34)
unfolding identifier_of
identifier_exactly rules others f g p q = (
  λ h. character rules f p ∙ ap (λ (b : ℕ). b ∷ []) (identifier_own rules others f g p q h) ∙ sym (character others g q),
  λ h.
      let e : get_or f 33 0 ∷ [] ≡ get_or g 33 0 ∷ [] = sym (character rules f p) ∙ h ∙ character others g q in
      let b : get_or f 33 0 ≡ get_or g 33 0 = cc in
      ap (λ (c : ℕ). identifier_if (leb c 57) c) b,
)
  where
    character : (rs : Rules) (file : List ℕ) → reading rs file ≡ accepted → field file 34 34 ≡ get_or file 33 0 ∷ []
    character rs file h = one_of file 33 (omega (arith, (accepted_facts rs file h).long))

abbrev AllIdentified : List (List ℕ) → Type 0
AllIdentified [] = Unit {0}
AllIdentified (f ∷ fs) = (identifier_of f < 36) × AllIdentified fs

identified_snoc : (fs : List (List ℕ)) (f : List ℕ) → AllIdentified fs → identifier_of f < 36 → AllIdentified (fs ++ f ∷ [])
identified_snoc [] f a l = (l, tt)
identified_snoc (x ∷ fs) f a l = (a.0, identified_snoc fs f a.1 l)

identified_came : {s : Session} {files : List (List ℕ)} → Arose s files → AllIdentified files
unfolding presenting answer_to with_accepted
identified_came (opened date currency entities) = tt
identified_came (presented {s} {files} c file) = go (answer_to s file) refl (identified_came c)
  where
    go : (a : Said) → answer_to s file ≡ a → AllIdentified files → AllIdentified (with_accepted a files file)
    go (refused n place) e h = h
    go accepted e h = identified_snoc files file h (identifier_lt s.rules file (presented_new s file e).0)

-- ---- the marks are the keys of the files accepted

pub key_lt : (file : List ℕ) → identifier_of file < 36 → key_of file < 18000
unfolding key_of origin_of
key_lt file l = omega (arith, entity_lt (field file 15 22))

pub among_snoc : (ks : List ℕ) (k j : ℕ) → among (ks ++ k ∷ []) j ≡ (eqb j k || among ks j)
unfolding among
among_snoc [] k j = refl
among_snoc (x ∷ ks) k j = ap (λ (b : Bool). eqb j x || b) (among_snoc ks k j) ∙ swap (eqb j x) (eqb j k) (among ks j)
  where
    swap : (x y z : Bool) → (x || (y || z)) ≡ (y || (x || z))
    swap true true z = refl
    swap true false z = refl
    swap false y z = refl

pub used_length : {s : Session} {files : List (List ℕ)} → Arose s files → length s.used ≡ 18000
unfolding new_session presenting session_after
used_length (opened date currency entities) = opened_by (λ s. length s.used ≡ 18000) (λ d c es. length-replicate 18000 false) date currency entities
used_length (presented {s} c file) = go (answer_to s file) (used_length c)
  where
    go : (a : Said) → length s.used ≡ 18000 → length (session_after a s file).used ≡ 18000
    go (refused n place) h = h
    go accepted h = length-set s.used (key_of file) true ∙ h

marks_came : {s : Session} {files : List (List ℕ)} → Arose s files → (k : ℕ) → k < 18000 → get_or s.used k false ≡ among (map key_of files) k
unfolding new_session presenting session_after with_accepted among answer_to
marks_came (opened date currency entities) k l =
    opened_by (λ s. get_or s.used k false ≡ false) (λ d c es. get_or-replicate 18000 k false false l) date currency entities
marks_came (presented {s} {files} c file) k l = go (answer_to s file) refl (marks_came c k l)
  where
    key : ℕ
    key = key_of file

    mark : (b : Bool) → eqb k key ≡ b → key < 18000 → get_or s.used k false ≡ among (map key_of files) k
        → get_or (set s.used key true) k false ≡ (b || among (map key_of files) k)
    mark true e m h = let q : k ≡ key = eqb→eq k key (T_of e) in rw q (get_or-set_same s.used key true false (omega (arith, used_length c)))
    mark false e m h = get_or-set_other s.used key k true false (eqb-false k key e) ∙ h

    go : (a : Said) → answer_to s file ≡ a → get_or s.used k false ≡ among (map key_of files) k
        → get_or (session_after a s file).used k false ≡ among (map key_of (with_accepted a files file)) k
    go (refused n place) e h = h
    go accepted e h =
        let m : key < 18000 = key_lt file (identifier_lt s.rules file (presented_new s file e).0) in
        mark (eqb k key) refl m h ∙ sym (ap (λ (ks : List ℕ). among ks k) (map_snoc files) ∙ among_snoc (map key_of files) key k)
      where
        map_snoc : (fs : List (List ℕ)) → map key_of (fs ++ file ∷ []) ≡ map key_of fs ++ key ∷ []
        map_snoc [] = refl
        map_snoc (f ∷ fs) = ap (λ (ks : List ℕ). key_of f ∷ ks) (map_snoc fs)

-- ---- a key is an origin and an identifier

keys_identifiers : (o i : ℕ) (fs : List (List ℕ)) → i < 36 → AllIdentified fs → among (map key_of fs) (o * 36 + i) ≡ among (identifiers_from o fs) i
unfolding identifiers_from among key_of
keys_identifiers o i [] l a = refl
keys_identifiers o i (f ∷ fs) l a = go (eqb o (origin_of f)) refl (keys_identifiers o i fs l a.1)
  where
    same_origin : o ≡ origin_of f → (b : Bool) → eqb i (identifier_of f) ≡ b → eqb (o * 36 + i) (origin_of f * 36 + identifier_of f) ≡ b
    same_origin q true e = let w : i ≡ identifier_of f = eqb→eq i (identifier_of f) (T_of e) in rw (q, w) (eq-eqb (origin_of f * 36 + identifier_of f) _ refl)
    same_origin q false e = let n = eqb-false i (identifier_of f) e in rw q (ne_eqb (origin_of f * 36 + i) (origin_of f * 36 + identifier_of f) (λ w. n (omega arith)))

    go : (b : Bool) → eqb o (origin_of f) ≡ b → among (map key_of fs) (o * 36 + i) ≡ among (identifiers_from o fs) i
        → (eqb (o * 36 + i) (origin_of f * 36 + identifier_of f) || among (map key_of fs) (o * 36 + i)) ≡ among (cond b (identifier_of f ∷ identifiers_from o fs) (identifiers_from o fs)) i
    go true e h = ap₂ ◌||◌ (same_origin (eqb→eq o (origin_of f) (T_of e)) (eqb i (identifier_of f)) refl) h
    go false e h =
        let n = eqb-false o (origin_of f) e in
        rw (ne_eqb (o * 36 + i) (origin_of f * 36 + identifier_of f) (λ w. n (omega (arith, a.0)))) h

-- demand 2: presenting answers as the reading does, and 209 exactly where the identifier was accepted from this origin before
pub presenting_exactly : {s : Session} {files : List (List ℕ)} → Arose s files → (file : List ℕ)
    → (presenting s file).answer ≡ and_then (reading s.rules file) (require (not (among (identifiers_from (origin_of file) files) (identifier_of file))) 209 0)
unfolding presenting answer_to and_then key_of
presenting_exactly {s} {files} c file = go (reading s.rules file) refl
  where
    new : ℕ → Bool → Said
    new place used = require (not used) 209 place

    go : (a : Said) → reading s.rules file ≡ a
        → and_then a (new 0 (get_or s.used (key_of file) false)) ≡ and_then a (new 0 (among (identifiers_from (origin_of file) files) (identifier_of file)))
    go (refused n place) e = refl
    go accepted e =
        let l = identifier_lt s.rules file e in
        ap (new 0) (marks_came c (key_of file) (key_lt file l) ∙ keys_identifiers (origin_of file) (identifier_of file) files l (identified_came c))

-- demand 3: the answer depends on the file, the session's date, currency and roster, and which identifiers were already accepted from the file's origin
pub answer_depends : {s t : Session} {fs gs : List (List ℕ)} → Arose s fs → Arose t gs → (file : List ℕ) → s.rules ≡ t.rules
    → ((i : ℕ) → among (identifiers_from (origin_of file) fs) i ≡ among (identifiers_from (origin_of file) gs) i) → (presenting s file).answer ≡ (presenting t file).answer
answer_depends c d file r same = presenting_exactly c file ∙ rw (r, same (identifier_of file)) (sym (presenting_exactly d file))
