use Rattle.std.proofs.Common.{arith}
use Rattle.writing.proofs.Decimals.{decimal_most}
use Rattle.listing.proofs.Showing.{shown_most}
use Rattle.listing.proofs.answers.word.Goals as goal

pub text-requires : goal.text-requires
text-requires c =
    omega (arith, decimal_most c.args.place, shown_most 64 c.args.word.now)
