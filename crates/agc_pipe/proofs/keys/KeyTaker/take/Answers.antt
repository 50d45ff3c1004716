use Rattle.agc_pipe.proofs.Taking.{keeps_key}
use Rattle.agc_pipe.proofs.keys.KeyTaker.take.Goals as goal

pub invariant_of-self-in-Ok-push : goal.invariant_of-self-in-Ok-push
invariant_of-self-in-Ok-push c =
    keeps_key c.self.inside.spacing c.self.inside.tape c.push.new.self c.self.inside.refused _ _ c.cycle-cycle.result c.in-Ok.key c.self.invariant
    (c.is_far_enough.ensures.0 c.if-not-is_far_enough.false) c.in-Ok-push.ensures.ok c.in-Ok.ensures.ok.0
