use Rattle.agc_pipe.proofs.Taking.{keeps_nothing}
use Rattle.agc_pipe.proofs.keys.link_keys.Goals as goal

pub invariant_of-taker : goal.invariant_of-taker
invariant_of-taker c = keeps_nothing c.args.spacing _ _ c.requires c.new-4.ensures c.in_ok-producer.ensures.consumer.0
