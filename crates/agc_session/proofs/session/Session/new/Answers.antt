use Rattle.std.proofs.Common.{ap, arith, length, subst, sym, ◌∙◌, [], List}
use Rattle.std.specs.Prelude.{◌≡◌, None}
use Rattle.agc_script.specs.declared.event.Event.{Event}
use Rattle.agc_script.proofs.Merges.{joined_none}
use Rattle.agc_machine.specs.State.{start_state}
use Rattle.agc_session.proofs.Checkpoints.{begins_kept}
use Rattle.agc_session.proofs.session.Session.new.Goals as goal

pub invariant_of-result : goal.invariant_of-result
invariant_of-result c =
    let known : c.in_ok-known.known ≡ c.args.script = rw c.in_ok-known.ensures.ok_part at c.copied.ensures in
    let met : c.in_ok-events.events ≡ c.args.script = rw c.in_ok-events.ensures.ok_part at c.copied-2.ensures in
    let start = subst (λ (events : List Event). c.in-Ok.machine ≡ start_state c.args.rope events c.args.limit None) (met ∙ sym known) c.in-Ok.ensures.start in
    rw (c.empty.ensures, c.empty-in-Ok.ensures)
    (begins_kept c.args.rope c.args.script [] c.in_ok-known.known c.args.limit c.in-Ok.machine c.new-in-Ok.result _ start c.new-in-Ok.ensures
    (known ∙ sym (joined_none c.args.script)) (omega (arith, c.script.invariant.few, ap length c.script.view_is, ap length known)) c.new-in-Ok-2.ensures)
