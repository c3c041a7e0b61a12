use Rattle.std.proofs.Common.{arith}
use Rattle.paper.specs.Answers.{said}
use Rattle.listing.proofs.AnswerLines.{words_most}
use Rattle.listing.proofs.Showing.{shown_most}
use Rattle.listing.proofs.answers.named.Goals as goal

pub text-requires : goal.text-requires
text-requires c = omega (arith, words_most (said c.args.answer), shown_most 4096 c.args.name.now)
