use Rattle.std.proofs.Common.{◌∙◌, arith}
use Rattle.agc_trace.proofs.Range.{fewer_on_way, no_entry_before}
use Rattle.agc_trace.proofs.Services.{no_service_before}
use Rattle.agc_trace.proofs.tracing.go_to_first.Goals as goal

pub loop-machine-smaller : goal.loop-machine-smaller
loop-machine-smaller g c = fewer_on_way _ _ _ c.next_write_before.result c.next_write_before.ensures.next c.in-Quiet.is

pub loop-machine-preserved : goal.loop-machine-preserved
loop-machine-preserved g c = (
  no_entry_before c.args.selection.now _ _ _ _ _ (omega (arith, c.min.ensures)) (omega (arith, c.cycle.ensures.cycle, c.loop-machine-test.true)) c.next_write_before.ensures.next
      ∙ c.loop-machine.invariant.0,
  no_service_before c.args.selection.now _ _ _ _ (omega (arith, c.min.ensures)) (omega (arith, c.cycle.ensures.cycle, c.loop-machine-test.true)) c.next_write_before.ensures.next
      ∙ c.loop-machine.invariant.1,
)

pub returns-in-Stopped-clause-entries : goal.returns-in-Stopped-clause-entries
returns-in-Stopped-clause-entries g c =
    no_entry_before c.args.selection.now _ _ _ _ _ (omega (arith, c.min.ensures)) (omega (arith, c.cycle.ensures.cycle, c.loop-machine-test.true)) c.next_write_before.ensures.next
    ∙ c.loop-machine.invariant.0

pub returns-in-Stopped-clause-service : goal.returns-in-Stopped-clause-service
returns-in-Stopped-clause-service g c =
    no_service_before c.args.selection.now _ _ _ _ (omega (arith, c.min.ensures)) (omega (arith, c.cycle.ensures.cycle, c.loop-machine-test.true)) c.next_write_before.ensures.next
    ∙ c.loop-machine.invariant.1
