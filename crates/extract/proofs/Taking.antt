-- From the places that were picked to the extract, and its size.
use Prim.Native.Nat.{ℕ, ◌+◌, ◌*◌, ◌≤◌}
use mathlib.Core.List.{List, ◌++◌, append_assoc}
use mathlib.Core.Path.{◌≡◌, sym, ap, ◌∙◌}
use native.Mathlib.Omega.{arith}
use lib.ListN.{length, take, length-append}
use lib.Seq.{take_at}
use Rattle.paper.specs.declared.rules.Currency.{Currency}
use Rattle.paper.specs.Buffers.{over}
use Rattle.paper.specs.Controls.{zeros}
use Rattle.paper.specs.Extract.{batches_of, batches_to, extract}
use Rattle.paper.proofs.Accepted.{accepted_facts}
use Rattle.paper.proofs.Grouping.{extract_good}
use Rattle.picking.specs.declared.Picked.{Picked}
use Rattle.picking.specs.Notes.{goes_to, waits_at}
use Rattle.picking.specs.Picks.{Picks}
use Rattle.picking.specs.Places.{Passed}
use Rattle.extract.proofs.Pass.{picked_batches, opened_batches}
use Rattle.extract.proofs.Sizes.{length_blocks}
use Rattle.picking.proofs.Chosen.{length_chosen}
use Rattle.picking.proofs.Rising.{goes_few, headers_fewer}
use Rattle.extract.proofs.Rest.{extract_length}

module _ {e : ℕ} {file before places : List ℕ} {p : Picked} (r : Passed file) (k : Picks e file before p places) where
  -- what goes stands first in the buffer
  pub taken : {n : ℕ} → n ≡ p.count → take n places ≡ goes_to e file
  unfolding over
  taken q = rw (q, k.places, append_assoc (goes_to e file) (waits_at e file)) (take_at (goes_to e file) _ p.count (sym k.count))

  few : p.count ≤ 10000
  few = omega (arith, k.count, goes_few e file, (accepted_facts r.rules file r.accepts).short)

  pub count_bounds : (p.count ≤ 10000) × (p.batches ≤ 10000) × (p.count ≤ length places)
  unfolding over
  count_bounds = (few, omega (arith, k.count, k.batches, headers_fewer e file, few), rw (k.places, length-append (goes_to e file ++ waits_at e file), length-append (goes_to e file)) (omega (arith, k.count)))

  -- header and file control, what goes, and a control for each batch
  pub size_known : (currency : Currency) → length (extract currency e file) ≡ (p.count + p.batches + 2) * 94
  size_known currency =
      let bs = batches_to e (batches_of file) in
      let c = k.count ∙ sym (length_chosen file (goes_to e file)) ∙ ap length (picked_batches r.rules e file r.accepts) in
      let b = k.batches ∙ opened_batches r.rules e file r.accepts in
      extract_length currency e file r ∙ omega (arith, c, b, length_blocks 1 0 zeros bs (extract_good r.rules e file r.accepts))
