use Rattle.std.proofs.Common.{ap, sym, subst, ◌∙◌, List}
use Rattle.std.specs.Prelude.{◌≡◌, None}
use Rattle.agc_script.specs.Merge.{joined}
use Rattle.agc_script.specs.declared.event.Event.{Event}
use Rattle.agc_machine.specs.State.{start_state}
use Rattle.agc_session.specs.Session.{SessionState, retained_before}
use Rattle.agc_session.proofs.Checkpoints.{begins_kept}
use Rattle.agc_session.proofs.session.Session.rewind.Goals as goal

pub invariant_of-result : goal.invariant_of-result
invariant_of-result c =
    let words = c.self.inside.machine.processor.store.fixed in
    let limit = c.self.inside.machine.limit in
    let start = subst (λ (events : List Event). c.restart_with.result ≡ start_state words events limit None) c.in-Some.ensures.same c.restart_with.ensures in
    let known : c.in-Some.known.script ≡ joined c.self.inside.base c.in-Some.known.retained =
    c.in-Some.ensures.script ∙ ap (λ (s : SessionState). joined s.base (retained_before c.args.cycle c.args.self)) (sym c.self.view_is)
    ∙ ap (joined c.self.inside.base) (sym c.in-Some.ensures.retained) in
    rw c.empty.ensures (begins_kept words c.self.inside.base c.in-Some.known.retained c.in-Some.known.script limit c.restart_with.result c.new.result _ start c.new.ensures known c.in-Some.ensures.bound c.new-2.ensures)
