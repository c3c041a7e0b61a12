-- Of batches that the house found without fault, what is addressed to one entity reads without fault at its desk.
use Prim.Native.Nat.{ℕ, suc, ◌≤◌, ◌<◌, ◌^◌}
use native.Mathlib.Omega.{arith}
use mathlib.Core.Bool.{Bool, true, false, cond, ◌||◌}
use mathlib.Core.List.{List, [], ◌∷◌}
use mathlib.Core.Path.{◌≡◌, refl, sym, ◌∙◌}
use lib.Dec.{eqb}
use lib.ListN.{length}
use Rattle.paper.specs.declared.record.Before.{Before}
use Rattle.paper.specs.declared.record.Before.TheVariants.{Opened, Inside}
use Rattle.paper.specs.declared.rules.Rules.{Rules}
use Rattle.paper.specs.Checks.{fine}
use Rattle.paper.specs.Fields.{among}
use Rattle.paper.specs.Records.{in_house, at_desk, number_in, batch_header, individual}
use Rattle.paper.specs.Controls.{zeros}
use Rattle.paper.specs.Writing.{numbered}
use Rattle.paper.specs.Extract.{Item, Batch, is_to, items_to, holding, batches_to}
use Rattle.paper.proofs.Counters.{exceeds}
use Rattle.received.proofs.Written.{Fits}
use Rattle.received.proofs.Handed.{individual_handed, header_handed}
use Rattle.received.proofs.Tallies.{tallied, fits_most, most_own, tallied_to}
use Rattle.received.proofs.Batches.{seen_after, ItemRead, ItemsRead, BatchesRead}
use Rattle.received.proofs.Found.{Opens, Reads}

-- ---- at the desk, under headers numbered anew

-- a batch may close after these items: there is one, or a record of the batch stands before them
abbrev pub Filled : Before → List Item → Type 0
Filled w [] = w ≡ Inside
Filled w (i ∷ is) = Unit {0}

abbrev pub OpensAt : Rules → ℕ → Batch → Type 0
OpensAt rules e b = Filled Opened b.items × ((n : ℕ) → suc n < 10 ^ 7 → batch_header (at_desk e rules) n (numbered (suc n) b.header) ≡ fine)

abbrev pub ReadsAt : Rules → ℕ → List ℕ → ℕ → List ℕ → Type 0
ReadsAt rules e header previous r = (n : ℕ) → individual (at_desk e rules) (numbered n header) previous r ≡ fine

-- ---- numbers seen by the desk were seen by the house

abbrev Among : List ℕ → List ℕ → Type 0
Among ms ns = (n : ℕ) → among ms n ≡ true → among ns n ≡ true

among_both : (ms ns : List ℕ) (m : ℕ) → Among ms ns → Among (m ∷ ms) (m ∷ ns)
unfolding among
among_both ms ns m h n = go (eqb n m)
  where
    go : (b : Bool) → b || among ms n ≡ true → b || among ns n ≡ true
    go true e = refl
    go false e = h n e

among_more : (ms ns : List ℕ) (m : ℕ) → Among ms ns → Among ms (m ∷ ns)
unfolding among
among_more ms ns m h n e = go (eqb n m)
  where
    go : (b : Bool) → b || among ns n ≡ true
    go true = refl
    go false = h n e

still_new : (ms ns : List ℕ) (n : ℕ) → Among ms ns → among ns n ≡ false → among ms n ≡ false
still_new ms ns n h new = go (among ms n) (h n)
  where
    go : (b : Bool) → (b ≡ true → among ns n ≡ true) → b ≡ false
    go true e = sym (e refl) ∙ new
    go false e = refl

-- ---- items, chosen

-- after q and ms, where the house came after p and ns
record ItemsChosen (rules : Rules) (e : ℕ) (header : List ℕ) (q : ℕ) (ns ms : List ℕ) (all chosen : List Item) : Type 0 where
  reads : ItemsRead (OpensAt rules e) (ReadsAt rules e) header q ms chosen
  seen : Among (seen_after ms chosen) (seen_after ns all)

items_chosen : (rules : Rules) (e : ℕ) (header : List ℕ) → length header ≡ 94 → (is : List Item) (p q : ℕ) (ns ms : List ℕ) → q ≤ p → Among ms ns
    → ItemsRead (Opens rules) (Reads rules) header p ns is → ItemsChosen rules e header q ns ms is (items_to e is)
unfolding items_to seen_after
items_chosen rules e header l [] p q ns ms o a h = record { reads = tt; seen = a }
items_chosen rules e header l (i ∷ is) p q ns ms o a h =
    go (is_to e i.individual) refl (λ q ms o a. items_chosen rules e header l is next q (next ∷ ns) ms o a h.1)
  where
    next : ℕ
    next = number_in i.individual

    go : (b : Bool) → is_to e i.individual ≡ b
        → ((q : ℕ) (ms : List ℕ) → q ≤ next → Among ms (next ∷ ns) → ItemsChosen rules e header q (next ∷ ns) ms is (items_to e is))
        → ItemsChosen rules e header q ns ms (i ∷ is) (cond b (i ∷ items_to e is) (items_to e is))
    go true t later =
        let x = later next (next ∷ ms) (omega arith) (among_both ms ns next a) in
        let own : ItemRead (OpensAt rules e) (ReadsAt rules e) header q ms i = record {
          kind = h.0.kind;
          good = h.0.good;
          reads = λ n. individual_handed rules e i.individual t n p q header l o h.0.reads;
          new = still_new ms ns next a h.0.new;
          followed = h.0.followed;
        } in
        record { reads = (own, x.reads); seen = x.seen }
    go false t later =
        let x = later q ms (omega (arith, exceeds (in_house rules) header p i.individual h.0.reads)) (among_more ms ns next a) in
        record { reads = x.reads; seen = x.seen }

-- ---- batches

pub batches_chosen : (rules : Rules) (e : ℕ) (bs : List Batch) (ns ms : List ℕ) → Among ms ns → BatchesRead (Opens rules) (Reads rules) ns bs
    → BatchesRead (OpensAt rules e) (ReadsAt rules e) ms (batches_to e bs)
unfolding batches_to holding seen_after
batches_chosen rules e [] ns ms a h = tt
batches_chosen rules e (b ∷ bs) ns ms a h =
    let l = h.0.whole.1 in
    go (items_to e b.items) (items_chosen rules e b.header l b.items 0 0 ns ms (omega arith) a h.0.items)
    (fits_most (tallied_to e b.items zeros zeros (most_own zeros)) h.0.fits)
    (λ ms a. batches_chosen rules e bs (seen_after ns b.items) ms a h.1)
  where
    go : (is : List Item) → ItemsChosen rules e b.header 0 ns ms b.items is → Fits 6 (tallied zeros is)
        → ((ms : List ℕ) → Among ms (seen_after ns b.items) → BatchesRead (OpensAt rules e) (ReadsAt rules e) ms (batches_to e bs))
        → BatchesRead (OpensAt rules e) (ReadsAt rules e) ms (holding b.header is (batches_to e bs))
    go [] x f later = later ms x.seen
    go (i ∷ is) x f later =
        let chosen : Batch = record { header = b.header; items = i ∷ is } in
        let opens : OpensAt rules e chosen = (tt, λ n lt. header_handed rules e n h.0.opens.0 b.header h.0.whole.1 lt h.0.opens.1) in
        (record { whole = h.0.whole; good = h.0.good; opens = opens; items = x.reads; fits = f }, later (seen_after ms (i ∷ is)) x.seen)
