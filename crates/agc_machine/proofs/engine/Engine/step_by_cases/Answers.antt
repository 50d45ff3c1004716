use Rattle.std.proofs.Common.{Option, ap, refl, sym, ◌∙◌, arith}
use Rattle.agc_script.specs.declared.event.What.{What}
use Rattle.agc_machine.specs.Boundary.{boundary, carried_out}
use Rattle.agc_machine.specs.Engine.{state_of}
use Rattle.agc_machine.specs.declared.upcoming.Upcoming.{Upcoming}
use Rattle.agc_machine.proofs.Cases.{applies_begun, upcoming_comes}
use Rattle.agc_machine.proofs.InTime.{event_in_time, sound_slowly}
use Rattle.agc_machine.proofs.Replay.{begun, live_happens}
use Rattle.agc_machine.proofs.engine.Engine.step_by_cases.Goals as goal

pub carry_out-requires-clause-applies : goal.carry_out-requires-clause-applies
carry_out-requires-clause-applies c =
    applies_begun (state_of c.args.self.now) _ c.in_default-stopped.is c.upcoming_by_cases-next.ensures.reported

pub returns-clause-step : goal.returns-clause-step
returns-clause-step c =
    let s = state_of c.args.self.now in
    c.carry_out.ensures.step ∙ ap (λ (u : Upcoming). carried_out u (begun s)) c.upcoming_by_cases-next.ensures.reported
    ∙ sym ((upcoming_comes s).comes c.in_default-stopped.is) ∙ ap (λ (live : Option What). boundary live s) (sym c.in_default.is)

pub returns-in-Some-clause-step : goal.returns-in-Some-clause-step
returns-in-Some-clause-step c =
    let wanted = rw c.in-Some.is at c.requires.wanted in
    rw (c.in-Some.is, c.apply_event.ensures.state, c.apply_event.ensures.cycles) (sym (live_happens (state_of c.args.self.now) c.in-Some.what (wanted refl)))

pub returns-in-Some-clause-sound : goal.returns-in-Some-clause-sound
returns-in-Some-clause-sound c =
    let wanted = rw c.in-Some.is at c.requires.wanted in
    let below = (wanted refl).below in
    sound_slowly _ c.requires.sound.place c.requires.sound.some c.requires.sound.limit (omega (arith, below, c.apply_event.ensures.bound))
    (event_in_time _ _ _ _ _ c.requires.sound.in_time c.apply_event.ensures.state (omega arith)) c.requires.not_quiet refl
