use Rattle.demands.proofs.Stripping.{strip_inside}
use Rattle.counter.proofs.Written.{fits}
use Rattle.counter.proofs.jobs.strip.Goals as goal

pub hand_over-requires : goal.hand_over-requires
hand_over-requires g c =
    let o = c.strip-output in
    fits o.result o.new.out (λ n p. strip_inside c.args.session.now _ _ _ _ o.ensures p)
