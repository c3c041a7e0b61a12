-- Building from a stripped file and its own header gives the file exactly when it is numbered this way and its free control positions are blank.
use Prim.Native.Nat.{ℕ, suc, ◌/◌}
use native.Mathlib.Omega.{arith}
use mathlib.Core.List.{[], List, ◌∷◌, ◌++◌, map, head-eq_of_cons-eq, tail-eq_of_cons-eq}
use mathlib.Core.Logic.{◌↔◌}
use mathlib.Core.Path.{◌≡◌, refl, sym, ap, ◌∙◌, subst}
use lib.ListN.{length, take, drop, length-append, length-take, length-drop}
use lib.Seq.{length-take-le}
use Rattle.paper.specs.declared.record.Before.TheVariants.{Between}
use Rattle.paper.specs.declared.record.Kind.{Kind}
use Rattle.paper.specs.declared.record.Kind.TheVariants.{FileHeader, BatchHeader, Individual, Additional, BatchControl, FileControl, Other}
use Rattle.paper.specs.declared.rules.Rules.{Rules}
use Rattle.paper.specs.Answers.{accepted}
use Rattle.paper.specs.Fields.{bytes}
use Rattle.paper.specs.Kinds.{kind_of}
use Rattle.paper.specs.Records.{ReadingRules, in_house}
use Rattle.paper.specs.Reading.{Reckoning, nothing_counted, counted, start, before_next, next, parts, records_of, reading}
use Rattle.paper.specs.Writing.{blanks, joined, owed, settled, with_controls, closing}
use Rattle.paper.specs.Trays.{tray_records, batches_after, individuals_after, numbering, build, zeroed, marked, stripped, strip}
use Rattle.paper.specs.Demands.{Faultless, AsBuilt}
use Rattle.paper.proofs.Lists.{Sized, sized_append, records_joined, length_spelled, length_numbered}
use Rattle.paper.proofs.Accepted.{first_header, accepted_facts}
use Rattle.paper.proofs.Normal.{normal, normals, tidy_normal, normal_tidy}
use Rattle.paper.proofs.Rebuilt.{Beside, rebuilt}

-- ---- a file is its own normal form exactly when it is as built

tidy_normals : (rs : List (List ℕ)) (b n : ℕ) → Sized 94 rs → AsBuilt b n rs → normals b n rs ≡ rs
unfolding normals
tidy_normals [] b n z t = refl
tidy_normals (r ∷ rs) b n z t = λ i. tidy_normal (kind_of r) b n r z.0 t.0 i ∷ tidy_normals rs (batches_after (kind_of r) b) (individuals_after (kind_of r) n) z.1 t.1 i

normals_tidy : (rs : List (List ℕ)) (b n : ℕ) → Sized 94 rs → normals b n rs ≡ rs → AsBuilt b n rs
unfolding normals
normals_tidy [] b n z e = tt
normals_tidy (r ∷ rs) b n z e = (
  normal_tidy (kind_of r) b n r z.0 (head-eq_of_cons-eq e),
  normals_tidy rs (batches_after (kind_of r) b) (individuals_after (kind_of r) n) z.1 (tail-eq_of_cons-eq e),
)

-- ---- the theorem

length_zeroed : (r : List ℕ) → length r ≡ 94 → length (zeroed r) ≡ 94
unfolding zeroed
length_zeroed r l = length-append (take 87 r) (bytes "0000000") ∙ omega (arith, length-take-le 87 r (omega arith))

pub stripped_sized : (rs : List (List ℕ)) → Sized 94 rs → Sized 96 (stripped rs)
unfolding stripped marked
stripped_sized [] z = tt
stripped_sized (r ∷ rs) z = sized_append 96 (marked (kind_of r) r) (stripped rs) (go (kind_of r)) (stripped_sized rs z.1)
  where
    go : (k : Kind) → Sized 96 (marked k r)
    go FileHeader = tt
    go BatchHeader = (omega (arith, length_zeroed r z.0), tt)
    go Individual = (omega (arith, length_zeroed r z.0), tt)
    go Additional = (omega (arith, length_zeroed r z.0), tt)
    go BatchControl = tt
    go FileControl = tt
    go Other = tt

normals_sized : (rs : List (List ℕ)) (b n : ℕ) → Sized 94 rs → Sized 94 (normals b n rs)
unfolding normals normal blanks
normals_sized [] b n z = tt
normals_sized (r ∷ rs) b n z = (go (kind_of r), normals_sized rs (batches_after (kind_of r) b) (individuals_after (kind_of r) n) z.1)
  where
    l : length r ≡ 94
    l = z.0

    go : (k : Kind) → length (normal k b n r) ≡ 94
    go FileHeader = l
    go BatchHeader = length_numbered (suc b) r (omega arith)
    go Individual = length_numbered (suc n) r (omega arith)
    go Additional = length_numbered n r (omega arith)
    go BatchControl = simp (length-append, length_spelled, length-take, length-drop, l)
    go FileControl = simp (length-append, length-take, l)
    go Other = l

-- a file of records, the first of which is a header
module _ (rules : ReadingRules) (head : List ℕ) (rs : List (List ℕ)) (z : Sized 94 (head ∷ rs)) (h : Faultless rules start (head ∷ rs)) where
  k : kind_of head ≡ FileHeader
  k = first_header rules head rs h

  -- what is built from the stripped file is the file's normal form
  build_strip : build head (strip (joined (head ∷ rs))) ≡ joined (head ∷ normals 0 0 rs)
  unfolding build strip closing records_of tray_records stripped start next nothing_counted counted before_next marked owed settled
  build_strip =
      let c : Reckoning = counted FileHeader nothing_counted head in
      let link : Beside (next start head).counts c = rw k (record { place = refl; batches = refl; closed = refl }) in
      ap (λ (l : List (List ℕ)). joined (head ∷ with_controls c (numbering 0 0 (map (drop 2) (parts 96 (length (joined (stripped l)) / 96) (joined (stripped l))))))) (records_joined 94 (head ∷ rs) (omega arith) z)
      ∙ ap (λ (x : Kind). joined (head ∷ with_controls c (numbering 0 0 (map (drop 2) (parts 96 (length (joined (marked x head ++ stripped rs)) / 96) (joined (marked x head ++ stripped rs))))))) k
      ∙ ap (λ (l : List (List ℕ)). joined (head ∷ with_controls c (numbering 0 0 (map (drop 2) l)))) (records_joined 96 (stripped rs) (omega arith) (stripped_sized rs z.1))
      ∙ ap (λ (l : List (List ℕ)). joined (head ∷ l)) (rebuilt rules rs z.1 (next start head) c 0 Between (ap (λ (x : Kind). before_next x head) k) link h.1)

  -- it is the file exactly when the file is as built
  back_records : (build head (strip (joined (head ∷ rs))) ≡ joined (head ∷ rs)) ↔ AsBuilt 0 0 rs
  unfolding records_of
  back_records = (there, λ t. build_strip ∙ ap (λ (l : List (List ℕ)). joined (head ∷ l)) (tidy_normals rs 0 0 z.1 t))
    where
      there : build head (strip (joined (head ∷ rs))) ≡ joined (head ∷ rs) → AsBuilt 0 0 rs
      there e =
          let q : joined (head ∷ normals 0 0 rs) ≡ joined (head ∷ rs) = sym build_strip ∙ e in
          normals_tidy rs 0 0 z.1 (tail-eq_of_cons-eq
          (sym (records_joined 94 (head ∷ normals 0 0 rs) (omega arith) (z.0, normals_sized rs 0 0 z.1))
          ∙ ap records_of q
          ∙ records_joined 94 (head ∷ rs) (omega arith) z))

  -- the same of the file whose records they are
  pub back_file : (file : List ℕ) → joined (head ∷ rs) ≡ file → records_of file ≡ head ∷ rs
      → (build head (strip file) ≡ file) ↔ AsBuilt 0 0 (records_of file)
  unfolding batches_after individuals_after
  back_file file w e =
      let i : (build head (strip file) ≡ file) ↔ AsBuilt 0 0 rs = subst (λ (f : List ℕ). (build head (strip f) ≡ f) ↔ AsBuilt 0 0 rs) w back_records in
      rw (e, k) ((λ q. (tt, i.0 q)), λ t. i.1 t.1)

-- building from a stripped file and its own header gives the file exactly when it is numbered this way and its free control positions are blank
pub build_strips_back : (rules : Rules) (file : List ℕ) → reading rules file ≡ accepted
    → (build (take 94 file) (strip file) ≡ file) ↔ AsBuilt 0 0 (records_of file)
build_strips_back rules file h =
    let a = accepted_facts rules file h in
    let e = a.first.1 in
    back_file (in_house rules) (take 94 file) a.first.0 (rw e at a.sized) (rw e at a.reads) file (rw e at a.whole) e
