-- What controls count of items and batches, and that an extract's count no more.
use Prim.Native.Nat.{ℕ, ◌≤◌}
use native.Mathlib.Omega.{arith}
use mathlib.Core.Bool.{Bool, true, false, cond}
use mathlib.Core.List.{List, [], ◌∷◌}
use Rattle.paper.specs.declared.record.Tally.{Tally}
use Rattle.paper.specs.Controls.{zeros, plus, with_individual, with_additional}
use Rattle.paper.specs.Extract.{Item, Batch, is_to, items_to, holding, batches_to}
use Rattle.received.proofs.Written.{Fits}

-- going on from t: additionals, then the items of a batch, and the batches of a file
unfoldable pub noted : Tally → List (List ℕ) → Tally
noted t [] = t
noted t (x ∷ xs) = noted (with_additional t) xs

unfoldable pub tallied : Tally → List Item → Tally
tallied t [] = t
tallied t (i ∷ is) = tallied (noted (with_individual t i.individual) i.additionals) is

unfoldable pub totalled : Tally → List Batch → Tally
totalled t [] = t
totalled t (b ∷ bs) = totalled (plus t (tallied zeros b.items)) bs

-- ---- no more

pub record AtMost (t u : Tally) : Type 0 where
  pub records : t.records ≤ u.records
  pub debits : t.debits ≤ u.debits
  pub credits : t.credits ≤ u.credits

pub fits_most : {places : ℕ} {t u : Tally} → AtMost t u → Fits places u → Fits places t
fits_most m f = omega arith

pub most_own : (t : Tally) → AtMost t t
most_own t = omega arith

noted_both : (xs : List (List ℕ)) (t u : Tally) → AtMost t u → AtMost (noted t xs) (noted u xs)
unfolding noted with_additional
noted_both [] t u m = m
noted_both (x ∷ xs) t u m = noted_both xs (with_additional t) (with_additional u) (omega arith)

noted_more : (xs : List (List ℕ)) (t u : Tally) → AtMost t u → AtMost t (noted u xs)
unfolding noted with_additional
noted_more [] t u m = m
noted_more (x ∷ xs) t u m = noted_more xs t (with_additional u) (omega arith)

-- a further item
item_both : (i : Item) (t u : Tally) → AtMost t u → AtMost (tallied t (i ∷ [])) (tallied u (i ∷ []))
unfolding tallied with_individual
item_both i t u m = noted_both i.additionals (with_individual t i.individual) (with_individual u i.individual) (omega arith)

item_more : (i : Item) (t u : Tally) → AtMost t u → AtMost t (tallied u (i ∷ []))
unfolding tallied with_individual
item_more i t u m = noted_more i.additionals t (with_individual u i.individual) (omega arith)

-- ---- of what is addressed to one entity

pub tallied_to : (e : ℕ) (is : List Item) (t u : Tally) → AtMost t u → AtMost (tallied t (items_to e is)) (tallied u is)
unfolding tallied items_to
tallied_to e [] t u m = m
tallied_to e (i ∷ is) t u m = go (is_to e i.individual) (λ t m. tallied_to e is t (tallied u (i ∷ [])) m)
  where
    go : (b : Bool) → ((t : Tally) → AtMost t (tallied u (i ∷ [])) → AtMost (tallied t (items_to e is)) (tallied u (i ∷ is)))
        → AtMost (tallied t (cond b (i ∷ items_to e is) (items_to e is))) (tallied u (i ∷ is))
    go true later = later (tallied t (i ∷ [])) (item_both i t u m)
    go false later = later t (item_more i t u m)

pub totalled_to : (e : ℕ) (bs : List Batch) (t u : Tally) → AtMost t u → AtMost (totalled t (batches_to e bs)) (totalled u bs)
unfolding totalled batches_to holding plus
totalled_to e [] t u m = m
totalled_to e (b ∷ bs) t u m = go (items_to e b.items) (tallied_to e b.items zeros zeros (most_own zeros)) (λ t m. totalled_to e bs t (plus u (tallied zeros b.items)) m)
  where
    go : (is : List Item) → AtMost (tallied zeros is) (tallied zeros b.items)
        → ((t : Tally) → AtMost t (plus u (tallied zeros b.items)) → AtMost (totalled t (batches_to e bs)) (totalled u (b ∷ bs)))
        → AtMost (totalled t (holding b.header is (batches_to e bs))) (totalled u (b ∷ bs))
    go [] n later = later t (omega arith)
    go (i ∷ is) n later = later (plus t (tallied zeros (i ∷ is))) (omega arith)
