use Rattle.std.proofs.Common.{arith, ◌∙◌}
use Rattle.std.proofs.lemmas.List.{take_rest, length-drop}
use Rattle.agc_script.proofs.Merges.{joined-next, joined-end, on_ok_if}
use Rattle.agc_script.proofs.merge.push_joined.Goals as goal

pub loop-event-preserved : goal.loop-event-preserved
loop-event-preserved c =
    rw take_rest
    (record {
      same = joined-next c.loop-event.events.items c.loop-event.rest.now _ c.args.given.now c.loop-event.event-index c.in_ok-due.due _ _ c.loop-event-test.true c.event-item.is c.in_ok-due.ensures.due c.in_ok-due.ensures.events ∙ c.loop-event.invariant.same;
      few = omega (arith, length-drop c.in_ok-due.due c.loop-event.rest.now);
    })

pub returns : goal.returns
returns c =
    let same = rw (joined-end c.loop-event.rest.now c.args.given.now c.loop-event.event-index (omega arith)) at c.loop-event.invariant.same in
    on_ok_if _ _ _ _ _ c.extend_from_slice.ensures.items same
