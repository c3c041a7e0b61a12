use Rattle.std.proofs.Common.{ap, refl, sym, ◌∙◌}
use Rattle.paper.specs.Listing.{numbers_to}
use Rattle.typed.specs.Texts.{text_begun}
use Rattle.watch.specs.Watches.{watch_at}
use Rattle.intake.proofs.Gathering.{numbers_length}
use Rattle.intake.proofs.roster.gather.Goals as goal

pub returns-then-is : goal.returns-then-is
unfolding text_begun watch_at
returns-then-is g c =
    record {
      entities = numbers_to 499;
      listed = (sym c.is.ensures ∙ c.if-is.true, refl, c.begun.ensures ∙ ap text_begun c.at.ensures);
      counted = c.everyone.ensures.0 ∙ sym (numbers_length 499);
      there = c.everyone.ensures.1;
    }
