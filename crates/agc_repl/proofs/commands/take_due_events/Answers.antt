use Rattle.std.proofs.Common.{refl, ap, sym, ◌∙◌, ◌+◌, ◌-◌, arith}
use Rattle.std.specs.Prelude.{◌≡◌, true, false}
use Rattle.agc_machine.specs.Boundary.{upcoming_of}
use Rattle.agc_session.specs.Session.{SessionState}
use Rattle.agc_repl.specs.Repl.{is_event}
use Rattle.agc_repl.proofs.Due.{due_ends, due_more, due_none, not_event}
use Rattle.agc_repl.proofs.Going.{goes_then, stays_put}
use Rattle.agc_repl.proofs.commands.take_due_events.Goals as goal

pub loop-event-init : goal.loop-event-init
loop-event-init c = (refl, stays_put _)

pub loop-event-preserved : goal.loop-event-preserved
loop-event-preserved c =
    let so_far = c.loop-event.invariant in
    let comes = c.upcoming.ensures.reported ∙ ap upcoming_of c.machine.ensures in
    let event : is_event c.upcoming.result ≡ true = ap is_event c.in-Event.is in (
      due_more _ (65537 - (c.loop-event._event + 1)) c.args.repl.now _ _ _ c.upcoming.result _ (omega (arith, c.loop-event-test.true)) comes event
          c.step.ensures.boundary c.step.ensures.shown so_far.0,
      goes_then _ _ _ so_far.1 c.step.ensures.on.session,
    )

pub returns-clause-taken : goal.returns-clause-taken
returns-clause-taken c =
    ap (λ (s : SessionState). record c.loop-event.repl { session = s }) (sym (due_none _ c.loop-event.repl.session (omega (arith, c.loop-event-test.false)))) ∙ c.loop-event.invariant.0

pub returns-in_default-clause-taken : goal.returns-in_default-clause-taken
returns-in_default-clause-taken c =
    let comes = c.upcoming.ensures.reported ∙ ap upcoming_of c.machine.ensures in
    let none : is_event (upcoming_of c.loop-event.repl.session.now) ≡ false = ap is_event (sym comes) ∙ not_event c.upcoming.result c.in_default.not-Event in
    ap (λ (s : SessionState). record c.loop-event.repl { session = s }) (sym (due_ends (65537 - c.loop-event._event) c.loop-event.repl.session none)) ∙ c.loop-event.invariant.0
