use Rattle.demands.proofs.Extracts.{extract_inside}
use Rattle.counter.proofs.Written.{fits}
use Rattle.counter.proofs.jobs.extract.Goals as goal

pub hand_over-requires : goal.hand_over-requires
hand_over-requires g c =
    let o = c.extract-output in
    fits o.result o.new.out (λ n p. extract_inside c.args.session.now _ _ _ _ _ o.ensures p)
