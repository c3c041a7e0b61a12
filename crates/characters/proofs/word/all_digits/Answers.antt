use Rattle.std.proofs.Common.{arith, refl, ◌+◌, ◌-◌, ◌%◌, ◌^◌, ℕ}
use Rattle.characters.proofs.Words.{whether_digits, zeros, sixes}
use Rattle.characters.proofs.word.all_digits.Goals as goal

pub returns : goal.returns
returns c f p =
    let v : ℕ = (c.args.bytes + (2 ^ 64 - zeros)) % 2 ^ 64 in
    whether_digits p v ((v + sixes) % 2 ^ 64) (omega arith) (omega arith) refl
