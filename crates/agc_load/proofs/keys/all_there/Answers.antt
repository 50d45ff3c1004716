use Rattle.std.proofs.Common.{sym, refl}
use Rattle.agc_load.specs.Keys.{all_there}
use Rattle.agc_load.proofs.There.{there_more_at, there_none_at}
use Rattle.agc_load.proofs.keys.all_there.Goals as goal

pub loop-key-init : goal.loop-key-init
unfolding all_there
loop-key-init c = rw c.new-keys.ensures.items refl

pub returns-in-None : goal.returns-in-None
returns-in-None c = sym (there_none_at c.args.found.now c.loop-key.key-index c.loop-key.keys.items c.loop-key-test.true c.loop-key.invariant c.in-None.is)

pub loop-key-preserved : goal.loop-key-preserved
loop-key-preserved c =
    rw c.in_ok-push-in-Some.ensures.items
    (there_more_at c.args.found.now c.loop-key.key-index c.loop-key.keys.items c.in-Some.key c.loop-key-test.true c.loop-key.invariant c.in-Some.is)
