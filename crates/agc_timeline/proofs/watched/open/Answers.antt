use Rattle.std.proofs.Common.{◌∙◌, ◌+◌, arith}
use Rattle.agc_machine.proofs.Before.{fewer_after_way}
use Rattle.agc_timeline.specs.Film.{until}
use Rattle.agc_timeline.proofs.OverPart.{one_boundary, shown_last, shown_next, shown_past}
use Rattle.agc_timeline.proofs.Sights.{none_before}
use Rattle.agc_timeline.proofs.RecordedFilm.{fewer_after_way_write, passed_at_cycle, passed_at_stop, passing_quiet, passing_write, same_at_stop, stopped_at}
use Rattle.agc_timeline.proofs.watched.open.Goals as goal

pub loop-opening-smaller-in-Quiet : goal.loop-opening-smaller-in-Quiet
loop-opening-smaller-in-Quiet g c = fewer_after_way _ _ _ c.in-Quiet.ensures.next

pub loop-opening-preserved-in-Quiet : goal.loop-opening-preserved-in-Quiet
loop-opening-preserved-in-Quiet g c =
    let so_far = c.loop-opening.invariant.0 in
    let on_way = c.in-Quiet.ensures.next in (
      (
        so_far.0,
        passing_quiet 0 _ _ _ _ so_far.0 (omega arith) (omega (arith, c.cycle.ensures.cycle, c.loop-opening-test.true)) on_way so_far.1,
        so_far.2,
      ),
      shown_next (until c.args.cycle) c.args.spec.now _ _ _ _ (one_boundary _ _ _ on_way) c.look.ensures ∙ c.loop-opening.invariant.1,
      λ to. none_before (record { from = c.args.cycle + 1; to = to }) c.args.spec.now 0 _ _ _ (omega arith)
          (omega (arith, c.cycle.ensures.cycle, c.loop-opening-test.true)) on_way ∙ c.loop-opening.invariant.2 to,
    )

pub loop-opening-smaller : goal.loop-opening-smaller
loop-opening-smaller g c = fewer_after_way_write _ _ _ _ c.in-Wrote.ensures.next

pub loop-opening-preserved : goal.loop-opening-preserved
loop-opening-preserved g c =
    let so_far = c.loop-opening.invariant.0 in
    let on_way = c.in-Wrote.ensures.next in (
      (
        _,
        passing_write 0 _ _ _ _ so_far.0 _ (omega arith) (omega (arith, c.cycle.ensures.cycle, c.loop-opening-test.true)) on_way so_far.1,
        c.take.ensures.all so_far.0 so_far.2,
      ),
      shown_next (until c.args.cycle) c.args.spec.now _ _ _ _ (one_boundary _ _ _ on_way) c.look.ensures ∙ c.loop-opening.invariant.1,
      λ to. none_before (record { from = c.args.cycle + 1; to = to }) c.args.spec.now 0 _ _ _ (omega arith)
          (omega (arith, c.cycle.ensures.cycle, c.loop-opening-test.true)) on_way ∙ c.loop-opening.invariant.2 to,
    )

pub returns-in-Stopped-clause-opened : goal.returns-in-Stopped-clause-opened
returns-in-Stopped-clause-opened g c =
    let so_far = c.loop-opening.invariant.0 in
    record {
      taken = so_far.0;
      passed =
          passed_at_stop 0 _ _ _ _ so_far.0 _ (omega arith)
          (omega (arith, c.cycle.ensures.cycle, c.loop-opening-test.true)) c.in-Stopped.ensures.next so_far.1;
      panel_is = so_far.2;
    }

pub returns-in-Stopped-clause-machine : goal.returns-in-Stopped-clause-machine
returns-in-Stopped-clause-machine g c =
    let so_far = c.loop-opening.invariant.0 in
    λ to later. same_at_stop 0 _ to _ _ _ so_far.0 _ (omega arith)
    (omega (arith, c.cycle.ensures.cycle, c.loop-opening-test.true)) c.in-Stopped.ensures.next so_far.1 later

pub returns-in-Stopped-clause-tables : goal.returns-in-Stopped-clause-tables
returns-in-Stopped-clause-tables g c =
    let on_way = c.in-Stopped.ensures.next in
    shown_last (until c.args.cycle) c.args.spec.now _ _ _ _ (stopped_at _ _ _ _ on_way) c.look-in-Stopped.ensures
    ∙ shown_next (until c.args.cycle) c.args.spec.now _ _ _ _ (one_boundary _ _ _ on_way) c.look.ensures ∙ c.loop-opening.invariant.1

pub returns-in-Stopped-clause-later : goal.returns-in-Stopped-clause-later
returns-in-Stopped-clause-later g c =
    λ to. none_before (record { from = c.args.cycle + 1; to = to }) c.args.spec.now 0 _ _ _ (omega arith)
    (omega (arith, c.cycle.ensures.cycle, c.loop-opening-test.true)) c.in-Stopped.ensures.next ∙ c.loop-opening.invariant.2 to

pub returns-clause-opened : goal.returns-clause-opened
returns-clause-opened g c =
    let so_far = c.loop-opening.invariant.0 in
    record {
      taken = so_far.0;
      passed = passed_at_cycle _ _ _ so_far.0 (omega (arith, c.cycle.ensures.cycle, c.loop-opening-test.false)) so_far.1;
      panel_is = so_far.2;
    }

pub returns-clause-tables : goal.returns-clause-tables
returns-clause-tables g c =
    shown_past (until c.args.cycle) c.args.spec.now _ _ (omega (arith, c.cycle.ensures.cycle, c.loop-opening-test.false)) ∙ c.loop-opening.invariant.1
