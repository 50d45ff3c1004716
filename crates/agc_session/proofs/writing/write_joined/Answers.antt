use Rattle.std.proofs.Common.{arith}
use Rattle.std.proofs.lemmas.List.{take_rest, length-drop}
use Rattle.agc_session.proofs.Written.{given_written, on_ok_then, rest_written}
use Rattle.agc_session.proofs.writing.write_joined.Goals as goal

pub loop-event-preserved : goal.loop-event-preserved
loop-event-preserved g c =
    rw take_rest
    (record {
      same = given_written _ _ _ c.loop-event.rest.now c.args.given.now _ c.loop-event.event-index c.in_ok-due.due _ _ c.loop-event-test.true c.event-item.is c.in_ok-due.ensures.due c.loop-event.invariant.same c.in_ok-due.ensures.written;
      few = omega (arith, length-drop c.in_ok-due.due c.loop-event.rest.now);
    })

pub returns : goal.returns
returns g c =
    on_ok_then _ _ _
    (rest_written _ _ _ c.loop-event.rest.now c.args.given.now _ c.loop-event.event-index (omega arith) c.loop-event.invariant.same)
    c.write_events.ensures
