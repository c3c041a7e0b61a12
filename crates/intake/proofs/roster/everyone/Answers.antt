use Rattle.std.proofs.Common.{refl, ◌≡◌, ◌∙◌}
use Rattle.paper.specs.Buffers.{over}
use Rattle.paper.specs.Listing.{numbers_to}
use Rattle.intake.proofs.Gathering.{numbers_length}
use Rattle.intake.proofs.roster.everyone.Goals as goal

pub returns : goal.returns
unfolding over
returns c =
    let e : c.copy_from_slice.new.self ≡ numbers_to 499 = c.copy_from_slice.ensures.after ∙ c.everybody-all.ensures in
    (refl, rw (e, numbers_length 499))
