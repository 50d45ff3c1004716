use Rattle.std.proofs.Common.{refl, arith}
use Rattle.agc_machine.proofs.Events.{later_from}
use Rattle.agc_machine.proofs.InTime.{event_in_time, sound_slowly, step_in_time, steps_counted}
use Rattle.agc_machine.proofs.engine.Engine.carry_out.Goals as goal

pub returns-in-Event-clause-step : goal.returns-in-Event-clause-step
returns-in-Event-clause-step c =
    let script = rw c.in-Event.is at c.requires.script in
    rw (c.in-Event.is, c.apply_event.ensures.state, c.apply_event.ensures.cycles, later_from c.args.self.now.script c.args.self.now.next script.0) refl

pub returns-in-Event-clause-sound : goal.returns-in-Event-clause-sound
returns-in-Event-clause-sound c =
    let script = rw c.in-Event.is at c.requires.script in
    let applies = rw c.in-Event.is at c.requires.applies in
    sound_slowly _ (omega (arith, script.0)) c.requires.sound.some c.requires.sound.limit (omega (arith, applies.0, c.apply_event.ensures.bound))
    (event_in_time _ _ _ _ _ c.requires.sound.in_time c.apply_event.ensures.state (omega arith)) c.requires.not_quiet c.requires.begun

pub step_timer-requires : goal.step_timer-requires
step_timer-requires c =
    let applies = rw c.in-Timer.is at c.requires.applies in
    record { counted = steps_counted c.in-Timer.timer c.args.self.now.cycle c.args.self.now.processor.timers c.requires.sound.in_time (omega (arith, applies.0, c.requires.sound.limit)) }

pub returns-in-Timer-clause-sound : goal.returns-in-Timer-clause-sound
returns-in-Timer-clause-sound c =
    let applies = rw c.in-Timer.is at c.requires.applies in
    sound_slowly _ c.requires.sound.place c.requires.sound.some c.requires.sound.limit (omega (arith, applies.0, c.step_timer.ensures.bound))
    (step_in_time _ _ _ _ _ _ c.requires.sound.in_time applies.2 c.step_timer.ensures.step (omega arith)) c.requires.not_quiet c.requires.begun
