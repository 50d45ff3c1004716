use Rattle.std.proofs.Common.{◌∙◌, arith}
use Rattle.agc_trace.proofs.Range.{fewer_on_way}
use Rattle.agc_timeline.proofs.Sights.{none_before}
use Rattle.agc_timeline.proofs.watching.go_to_first.Goals as goal

pub loop-span-smaller : goal.loop-span-smaller
loop-span-smaller g c = fewer_on_way _ _ _ c.next_write_before.result c.next_write_before.ensures.next c.in-Quiet.is

pub loop-span-preserved : goal.loop-span-preserved
loop-span-preserved g c = λ spec.
    none_before c.args.span spec _ _ _ _ (omega (arith, c.min.ensures)) (omega (arith, c.cycle.ensures.cycle, c.loop-span-test.true)) c.next_write_before.ensures.next
    ∙ c.loop-span.invariant spec

pub returns-in-Stopped : goal.returns-in-Stopped
returns-in-Stopped g c = λ spec.
    none_before c.args.span spec _ _ _ _ (omega (arith, c.min.ensures)) (omega (arith, c.cycle.ensures.cycle, c.loop-span-test.true)) c.next_write_before.ensures.next
    ∙ c.loop-span.invariant spec
