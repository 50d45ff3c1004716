use Rattle.std.proofs.Common.{arith}
use Rattle.agc_machine.proofs.Before.{fewer_after_way}
use Rattle.agc_timeline.proofs.RecordedFilm.{fewer_after_way_write, passed_at_cycle, passed_at_stop, passing_quiet, passing_write, same_at_stop}
use Rattle.agc_timeline.proofs.recording.open.Goals as goal

pub loop-machine-smaller-in-Quiet : goal.loop-machine-smaller-in-Quiet
loop-machine-smaller-in-Quiet g c = fewer_after_way _ _ _ c.in-Quiet.ensures.next

pub loop-machine-preserved-in-Quiet : goal.loop-machine-preserved-in-Quiet
loop-machine-preserved-in-Quiet g c =
    let so_far = c.loop-machine.invariant in (
      so_far.0,
      passing_quiet _ _ _ _ _ so_far.0 c.next_stage.ensures (omega (arith, c.cycle.ensures.cycle, c.loop-machine-test.true))
          c.in-Quiet.ensures.next so_far.1,
      so_far.2,
    )

pub loop-machine-smaller : goal.loop-machine-smaller
loop-machine-smaller g c = fewer_after_way_write _ _ _ _ c.in-Wrote.ensures.next

pub loop-machine-preserved : goal.loop-machine-preserved
loop-machine-preserved g c =
    let so_far = c.loop-machine.invariant in (
      _,
      passing_write _ _ _ _ _ so_far.0 _ c.next_stage.ensures (omega (arith, c.cycle.ensures.cycle, c.loop-machine-test.true))
          c.in-Wrote.ensures.next so_far.1,
      c.take.ensures.all so_far.0 so_far.2,
    )

pub returns-in-Stopped-clause-opened : goal.returns-in-Stopped-clause-opened
returns-in-Stopped-clause-opened g c =
    let so_far = c.loop-machine.invariant in
    record {
      taken = so_far.0;
      passed =
          passed_at_stop _ _ _ _ _ so_far.0 _ c.next_stage.ensures
          (omega (arith, c.cycle.ensures.cycle, c.loop-machine-test.true)) c.in-Stopped.ensures.next so_far.1;
      panel_is = so_far.2;
    }

pub returns-in-Stopped-clause-machine : goal.returns-in-Stopped-clause-machine
returns-in-Stopped-clause-machine g c =
    let so_far = c.loop-machine.invariant in
    λ to later. same_at_stop _ _ to _ _ _ so_far.0 _ c.next_stage.ensures
    (omega (arith, c.cycle.ensures.cycle, c.loop-machine-test.true)) c.in-Stopped.ensures.next so_far.1 later

pub returns-clause-opened : goal.returns-clause-opened
returns-clause-opened g c =
    let so_far = c.loop-machine.invariant in
    record {
      taken = so_far.0;
      passed = passed_at_cycle _ _ _ so_far.0 (omega (arith, c.cycle.ensures.cycle, c.loop-machine-test.false)) so_far.1;
      panel_is = so_far.2;
    }
