use Rattle.demands.proofs.Building.{build_inside}
use Rattle.counter.proofs.Written.{fits}
use Rattle.counter.proofs.jobs.build.Goals as goal

pub hand_over-requires : goal.hand_over-requires
hand_over-requires g c =
    let o = c.build-output in
    fits o.result o.new.out (λ n p. build_inside c.args.session.now _ _ _ _ _ o.ensures p)
