use Rattle.demands.proofs.Company.{made_inside}
use Rattle.counter.proofs.Written.{fits}
use Rattle.counter.proofs.making.make.Goals as goal

pub hand_over-requires : goal.hand_over-requires
hand_over-requires g c =
    let o = c.tray-output in
    fits o.result o.new.out (λ n p. made_inside c.args.currency _ _ _ o.result _ o.ensures p)
