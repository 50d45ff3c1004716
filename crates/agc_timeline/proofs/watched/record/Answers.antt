use Rattle.std.proofs.Common.{sym, ◌∙◌, arith}
use Rattle.agc_machine.proofs.Before.{fewer_after_way}
use Rattle.agc_timeline.specs.Film.{after_first}
use Rattle.agc_timeline.proofs.OverPart.{one_boundary, reported_last, reported_next, reported_past}
use Rattle.agc_timeline.proofs.RecordedFilm.{ends_at_cycle, ends_at_stop, fewer_after_way_write, passed_at_cycle, passed_at_stop, passing_quiet, passing_write, stopped_at}
use Rattle.agc_timeline.proofs.watched.record.Goals as goal

pub loop-alloc-smaller-in-Quiet : goal.loop-alloc-smaller-in-Quiet
loop-alloc-smaller-in-Quiet g c = fewer_after_way _ _ _ c.in-Quiet.ensures.next

pub loop-alloc-preserved-in-Quiet : goal.loop-alloc-preserved-in-Quiet
loop-alloc-preserved-in-Quiet g c =
    let so_far = c.loop-alloc.invariant.0 in
    let on_way = c.in-Quiet.ensures.next in (
      (
        so_far.0,
        passing_quiet 0 _ _ _ _ so_far.0 (omega arith) (omega (arith, c.cycle.ensures.cycle, c.loop-alloc-test.true)) on_way so_far.1,
        so_far.2,
      ),
      reported_next (after_first c.args.span) c.args.spec.now _ _ _ _ _ _ (one_boundary _ _ _ on_way) c.in_ok-look.ensures.shown c.in_ok-look.ensures.text
          ∙ c.loop-alloc.invariant.1,
    )

pub loop-alloc-smaller : goal.loop-alloc-smaller
loop-alloc-smaller g c = fewer_after_way_write _ _ _ _ c.in-Wrote.ensures.next

pub loop-alloc-preserved : goal.loop-alloc-preserved
loop-alloc-preserved g c =
    let so_far = c.loop-alloc.invariant.0 in
    let on_way = c.in-Wrote.ensures.next in (
      (
        _,
        passing_write 0 _ _ _ _ so_far.0 _ (omega arith) (omega (arith, c.cycle.ensures.cycle, c.loop-alloc-test.true)) on_way so_far.1,
        λ from before h. c.in_ok-take-in-Wrote.ensures from before so_far.0 (so_far.2 from before h),
      ),
      reported_next (after_first c.args.span) c.args.spec.now _ _ _ _ _ _ (one_boundary _ _ _ on_way) c.in_ok-look.ensures.shown c.in_ok-look.ensures.text
          ∙ c.loop-alloc.invariant.1,
    )

pub returns-in-Stopped-clause-recorded : goal.returns-in-Stopped-clause-recorded
returns-in-Stopped-clause-recorded g c =
    let so_far = c.loop-alloc.invariant.0 in
    record {
      taken = so_far.0;
      passed =
          passed_at_stop 0 _ _ _ _ so_far.0 _ (omega arith) (omega (arith, c.cycle.ensures.cycle, c.loop-alloc-test.true)) c.in-Stopped.ensures.next so_far.1;
      recorded = so_far.2;
    }

pub returns-in-Stopped-clause-machine : goal.returns-in-Stopped-clause-machine
returns-in-Stopped-clause-machine g c =
    let so_far = c.loop-alloc.invariant.0 in
    ends_at_stop 0 _ _ _ _ so_far.0 _ (omega arith) (omega (arith, c.cycle.ensures.cycle, c.loop-alloc-test.true)) c.in-Stopped.ensures.next so_far.1

pub returns-in-Stopped-clause-stop : goal.returns-in-Stopped-clause-stop
returns-in-Stopped-clause-stop g c = λ l. sym (stopped_at _ _ _ _ c.in-Stopped.ensures.next)

pub returns-in-Stopped-clause-tables : goal.returns-in-Stopped-clause-tables
returns-in-Stopped-clause-tables g c =
    let on_way = c.in-Stopped.ensures.next in
    reported_last (after_first c.args.span) c.args.spec.now _ _ _ _ _ (stopped_at _ _ _ _ on_way) c.in_ok-look-in-Stopped.ensures.text
    ∙ reported_next (after_first c.args.span) c.args.spec.now _ _ _ _ _ _ (one_boundary _ _ _ on_way) c.in_ok-look.ensures.shown c.in_ok-look.ensures.text
    ∙ c.loop-alloc.invariant.1

pub returns-clause-recorded : goal.returns-clause-recorded
returns-clause-recorded g c =
    let so_far = c.loop-alloc.invariant.0 in
    record {
      taken = so_far.0;
      passed = passed_at_cycle _ _ _ so_far.0 (omega (arith, c.cycle.ensures.cycle, c.loop-alloc-test.false)) so_far.1;
      recorded = so_far.2;
    }

pub returns-clause-machine : goal.returns-clause-machine
returns-clause-machine g c =
    let so_far = c.loop-alloc.invariant.0 in
    ends_at_cycle _ _ _ so_far.0 (omega (arith, c.cycle.ensures.cycle, c.loop-alloc-test.false)) so_far.1

pub returns-clause-tables : goal.returns-clause-tables
returns-clause-tables g c =
    reported_past (after_first c.args.span) c.args.spec.now _ _ _ (omega (arith, c.cycle.ensures.cycle, c.loop-alloc-test.false)) ∙ c.loop-alloc.invariant.1
