use Rattle.std.proofs.Common.{List, ap, ap₂, sym, ℕ, ◌&&◌, ◌∙◌}
use Rattle.paper.specs.Fields.{field, is}
use Rattle.paper.specs.Accounts.{account_checked}
use Rattle.paper.proofs.Tests.{T_of}
use Rattle.field.proofs.Blocks.{block_told}
use Rattle.entries.proofs.Accounts.{account_words, account_zeros, block_digits, no_account}
use Rattle.entries.proofs.individual.account_checked.Goals as goal

pub returns-then-not-digits : goal.returns-then-not-digits
returns-then-not-digits c =
    no_account c.args.rec.now (sym c.digits.ensures ∙ c.if-not-digits.true)

pub returns : goal.returns
unfolding account_checked
returns c =
    let r = c.args.rec.now in
    let digits = block_digits r (T_of (sym c.digits.ensures ∙ c.if-not-digits.false)) in
    ap₂ ◌&&◌ (c.three_zeros.ensures _ c.word-front.ensures ∙ ap (λ (f : List ℕ). is f "000") (account_zeros r c.told-rec))
    (c.good.ensures ∙ block_told (field r 16 29) (account_words r c.told-rec c.word-front.ensures c.word-back.ensures) digits)
