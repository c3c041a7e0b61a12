use Rattle.std.proofs.Common.{ap, arith, false, length-append, nat_abs, pos, true, ℕ, ℤ, ◌*◌, ◌++◌, ◌^◌, ◌∙◌, ◌≡◌, ◌≤◌}
use lib.Signed.{lt_z}
use mir.Syntax.{w64}
use mir.Val.{to_z, of_z}
use Rattle.paper.specs.Fields.{bytes}
use Rattle.paper.specs.Listing.{decimal, signed_decimal}
use Rattle.writing.proofs.Decimals.{signed_down, signed_up}
use Rattle.writing.proofs.Signs.{there}
use Rattle.writing.proofs.Laying.{start, on}
use Rattle.writing.proofs.signed.Goals as goal

-- as the code finds it, by its bits
module _ (n : ℤ) (h : nat_abs n ≤ 4 * 10 ^ 18) where
  down : lt_z (to_z w64 (of_z w64 n)) (pos 0) ≡ true → signed_decimal n ≡ bytes "-" ++ decimal (nat_abs n)
  down t = signed_down n (rw (there n h) at t)

  up : lt_z (to_z w64 (of_z w64 n)) (pos 0) ≡ false → signed_decimal n ≡ decimal (nat_abs n)
  up t = signed_up n (rw (there n h) at t)

  absolute : {m : ℕ} → m ≡ nat_abs (to_z w64 (of_z w64 n)) → m ≡ nat_abs n
  absolute e = e ∙ ap nat_abs (there n h)

pub text-past-requires : goal.text-past-requires
text-past-requires c =
    omega (arith, rw (down c.args.n c.requires.n_bound c.if-n-lt0.true, length-append) at c.requires.n_in_bounds)

pub number-requires : goal.number-requires
number-requires c =
    rw (absolute c.args.n c.requires.n_bound c.unsigned_abs.ensures.value) (omega (arith, rw (down c.args.n c.requires.n_bound c.if-n-lt0.true, length-append) at c.requires.n_in_bounds))

pub returns-then-n-lt0 : goal.returns-then-n-lt0
returns-then-n-lt0 c =
    let r = on (on (start (omega arith)) (bytes "-") c.text-past.ensures) (decimal (nat_abs c.args.n)) (rw (absolute c.args.n c.requires.n_bound c.unsigned_abs.ensures.value) at c.number.ensures) in
    rw (down c.args.n c.requires.n_bound c.if-n-lt0.true) (r.next, r.held)

pub number-requires-2 : goal.number-requires-2
number-requires-2 c =
    rw (absolute c.args.n c.requires.n_bound c.unsigned_abs-2.ensures.value) (omega (arith, rw (up c.args.n c.requires.n_bound c.if-n-lt0.false) at c.requires.n_in_bounds))

pub returns : goal.returns
returns c =
    rw (up c.args.n c.requires.n_bound c.if-n-lt0.false) (rw (absolute c.args.n c.requires.n_bound c.unsigned_abs-2.ensures.value) at c.number-2.ensures)
