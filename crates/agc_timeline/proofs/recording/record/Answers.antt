use Rattle.std.proofs.Common.{sym, arith}
use Rattle.agc_machine.proofs.Before.{fewer_after_way}
use Rattle.agc_timeline.proofs.RecordedFilm.{ends_at_cycle, ends_at_stop, fewer_after_way_write, passed_at_cycle, passed_at_stop, passing_quiet, passing_write, stopped_at}
use Rattle.agc_timeline.proofs.recording.record.Goals as goal

pub loop-machine-smaller-in-Quiet : goal.loop-machine-smaller-in-Quiet
loop-machine-smaller-in-Quiet g c = fewer_after_way _ _ _ c.in-Quiet.ensures.next

pub loop-machine-preserved-in-Quiet : goal.loop-machine-preserved-in-Quiet
loop-machine-preserved-in-Quiet g c =
    let so_far = c.loop-machine.invariant in (
      so_far.0,
      passing_quiet _ _ _ _ _ so_far.0 c.next_stage.ensures (omega (arith, c.cycle.ensures.cycle, c.loop-machine-test.true)) c.in-Quiet.ensures.next so_far.1,
      so_far.2,
    )

pub loop-machine-smaller : goal.loop-machine-smaller
loop-machine-smaller g c = fewer_after_way_write _ _ _ _ c.in-Wrote.ensures.next

pub loop-machine-preserved : goal.loop-machine-preserved
loop-machine-preserved g c =
    let so_far = c.loop-machine.invariant in (
      _,
      passing_write _ _ _ _ _ so_far.0 _ c.next_stage.ensures (omega (arith, c.cycle.ensures.cycle, c.loop-machine-test.true)) c.in-Wrote.ensures.next so_far.1,
      λ from before h. c.in_ok-take-in-Wrote.ensures from before so_far.0 (so_far.2 from before h),
    )

pub returns-in-Stopped-clause-recorded : goal.returns-in-Stopped-clause-recorded
returns-in-Stopped-clause-recorded g c =
    let so_far = c.loop-machine.invariant in
    record {
      taken = so_far.0;
      passed =
          passed_at_stop _ _ _ _ _ so_far.0 _ c.next_stage.ensures (omega (arith, c.cycle.ensures.cycle, c.loop-machine-test.true)) c.in-Stopped.ensures.next so_far.1;
      recorded = so_far.2;
    }

pub returns-in-Stopped-clause-machine : goal.returns-in-Stopped-clause-machine
returns-in-Stopped-clause-machine g c =
    let so_far = c.loop-machine.invariant in
    ends_at_stop _ _ _ _ _ so_far.0 _ c.next_stage.ensures (omega (arith, c.cycle.ensures.cycle, c.loop-machine-test.true)) c.in-Stopped.ensures.next so_far.1

pub returns-in-Stopped-clause-stop : goal.returns-in-Stopped-clause-stop
returns-in-Stopped-clause-stop g c = λ l. sym (stopped_at _ _ _ _ c.in-Stopped.ensures.next)

pub returns-clause-recorded : goal.returns-clause-recorded
returns-clause-recorded g c =
    let so_far = c.loop-machine.invariant in
    record {
      taken = so_far.0;
      passed = passed_at_cycle _ _ _ so_far.0 (omega (arith, c.cycle.ensures.cycle, c.loop-machine-test.false)) so_far.1;
      recorded = so_far.2;
    }

pub returns-clause-machine : goal.returns-clause-machine
returns-clause-machine g c =
    let so_far = c.loop-machine.invariant in
    ends_at_cycle _ _ _ so_far.0 (omega (arith, c.cycle.ensures.cycle, c.loop-machine-test.false)) so_far.1
