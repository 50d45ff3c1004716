use Rattle.std.specs.Prelude.{◌≡◌, ◌+◌, ◌-◌, ℕ, List, [], IfOk, length}
use Rattle.std.proofs.Common.{ap, arith, refl, subst, sym, ◌∙◌}
use Rattle.agc_machine.specs.Boundary.{WantsKey}
use Rattle.agc_machine.specs.State.{State}
use Rattle.agc_script.specs.Merge.{joined}
use Rattle.agc_script.specs.Script.{before}
use Rattle.agc_script.specs.declared.event.Event.{Event}
use Rattle.agc_session.specs.Checkpoints.{IsCheckpoint}
use Rattle.agc_session.specs.Session.{SessionState}
use Rattle.agc_session.proofs.Begun.{of_value}
use Rattle.agc_session.proofs.Checkpoints.{copies_now}
use Rattle.agc_session.proofs.session.Session.checkpoint.Goals as goal

pub returns : goal.returns
returns c =
    let machine : State = c.self.inside.machine in
    let script : List Event = c.self.inside.script in
    let wants : WantsKey machine = c.if-not-wants_key.ensures.wants.0 refl in
    let known : c.in_ok-known.known ≡ before (machine.cycle + 1) script =
    of_value c.before-2.result c.in_ok-known.known (λ (known : List Event). known ≡ before (machine.cycle + 1) script) c.in_ok-known.ensures.value
    (subst (λ (n : ℕ). IfOk c.before-2.result (λ (known : List Event). known ≡ before (n + 1) script)) c.cycle.ensures.cycle c.before-2.ensures) in
    let count : length script - length (before (machine.cycle + 1) script) ≡ length machine.events =
    ap (λ (events : List Event). length script - length events) (sym known)
    ∙ omega (arith, c.if-len-events_left.false, c.len.ensures.count, c.len-2.ensures.count, ap length c.events_left.ensures) in
    let taken : c.in_ok-taken.taken ≡ joined (before (machine.cycle + 1) script) c.self.inside.injected =
    of_value c.join.result c.in_ok-taken.taken (λ (taken : List Event). taken ≡ joined c.in_ok-known.known c.self.inside.injected) c.in_ok-taken.ensures.value c.join.ensures.ok
    ∙ ap (λ (events : List Event). joined events c.self.inside.injected) known in
    let copied : c.in_ok-machine.machine ≡ record machine { events = [] } =
    c.in_ok-machine.ensures ∙ ap (λ (events : List Event). record machine { events = events }) c.empty.ensures in
    subst
    (λ (s : SessionState). IsCheckpoint s.now.processor.store.fixed s.now.limit
    (record { machine = c.in_ok-machine.machine; panel = c.self.inside.panel; writes = c.self.inside.writes; taken = c.in_ok-taken.taken }))
    c.self.view_is
    (copies_now _ c.self.inside.writes c.self.inside.checkpoints.copies.items c.in_ok-machine.machine c.in_ok-taken.taken c.self.invariant wants.runs c.rises.ensures count taken copied)
