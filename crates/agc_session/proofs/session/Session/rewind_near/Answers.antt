use Rattle.std.specs.Prelude.{◌≡◌, List, All}
use Rattle.std.proofs.Common.{ap, refl, subst, sym, ◌∙◌}
use Rattle.agc_script.specs.Merge.{joined}
use Rattle.agc_script.specs.declared.event.Event.{Event}
use Rattle.agc_session.specs.Checkpoints.{IsCheckpoint, IsOnWay}
use Rattle.agc_session.specs.Session.{SessionState, retained_before, start_with}
use Rattle.agc_session.proofs.Checkpoints.{resumed}
use Rattle.agc_session.proofs.session.Session.rewind_near.Goals as goal

pub invariant_of-session : goal.invariant_of-session
invariant_of-session c =
    let now = c.self.inside.machine in
    let at = c.resume-machine.result in
    let known : c.in-Some.known.script ≡ joined c.self.inside.base c.in-Some.known.retained =
    c.in-Some.ensures.script ∙ ap (λ (s : SessionState). joined s.base (retained_before c.args.cycle c.args.self)) (sym c.self.view_is)
    ∙ ap (joined c.self.inside.base) (sym c.in-Some.ensures.retained) in
    let way : IsOnWay c.args.before (start_with c.in-Some.known.script now) at.machine at.panel at.writes =
    subst (λ (events : List Event). IsOnWay c.args.before (start_with events now) at.machine at.panel at.writes) c.in-Some.ensures.same c.resume-machine.ensures.way in
    resumed c.args.before _ now at.machine at.writes c.wait.new.self.copies.items refl c.empty.ensures known c.in-Some.ensures.bound way
    (subst (All (IsCheckpoint now.processor.store.fixed now.limit)) (sym c.wait.ensures) c.resume-machine.ensures.right)
