use Rattle.std.proofs.Common.{sym, arith}
use Rattle.std.proofs.lemmas.Option.{slice_get_within}
use Rattle.agc_script.specs.Event.{IsInRange}
use Rattle.agc_machine.proofs.Events.{due_at_place, undue_at_place}
use Rattle.agc_machine.proofs.engine.Engine.due_event.Goals as goal

pub returns-then-event-self-clause-due : goal.returns-then-event-self-clause-due
returns-then-event-self-clause-due c =
    sym (undue_at_place c.args.self.now.script c.args.self.now.next c.args.self.now.cycle c.in_ok-event.event c.in_ok-event.ensures.event c.if-event-self.true)

pub returns-else-event-self-clause-due : goal.returns-else-event-self-clause-due
returns-else-event-self-clause-due c =
    sym (due_at_place c.args.self.now.script c.args.self.now.next c.args.self.now.cycle c.in_ok-event.event c.in_ok-event.ensures.event c.if-event-self.false)

pub returns-else-event-self-clause-script : goal.returns-else-event-self-clause-script
unfolding IsInRange
returns-else-event-self-clause-script c =
    let it = c.in_ok-event in
    (omega (arith, slice_get_within c.args.self.now.script c.args.self.now.next it.event it.ensures.event), it.ensures.place, it.ensures.range.1)
