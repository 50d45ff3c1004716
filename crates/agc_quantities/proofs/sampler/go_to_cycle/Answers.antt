use Rattle.std.proofs.Common.{arith}
use Rattle.agc_quantities.specs.Walk.{has_reached}
use Rattle.agc_quantities.proofs.Walk.{fewer_on_way, first_here, first_join, first_on_way}
use Rattle.agc_quantities.proofs.sampler.go_to_cycle.Goals as goal

pub loop-machine-init : goal.loop-machine-init
loop-machine-init g c = first_here (has_reached c.args.cycle) _

pub loop-machine-smaller : goal.loop-machine-smaller
loop-machine-smaller g c = fewer_on_way _ _ _ c.next_write_before.result c.next_write_before.ensures.next c.in-Quiet.is

pub loop-machine-preserved : goal.loop-machine-preserved
loop-machine-preserved g c =
    first_join (has_reached c.args.cycle) _ _ _ c.loop-machine.invariant
    (first_on_way c.args.cycle _ _ _ _ (omega (arith, c.min.ensures)) (omega (arith, c.cycle.ensures.cycle, c.loop-machine-test.true)) c.next_write_before.ensures.next)

pub returns-in-Stopped : goal.returns-in-Stopped
returns-in-Stopped g c =
    first_join (has_reached c.args.cycle) _ _ _ c.loop-machine.invariant
    (first_on_way c.args.cycle _ _ _ _ (omega (arith, c.min.ensures)) (omega (arith, c.cycle.ensures.cycle, c.loop-machine-test.true)) c.next_write_before.ensures.next)
