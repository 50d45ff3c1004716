use Rattle.std.specs.Prelude.{ℕ, drop}
use Rattle.std.proofs.Common.{ap, subst, sym, ◌∙◌}
use Rattle.agc_machine.specs.State.{State}
use Rattle.agc_session.specs.Checkpoints.{IsOnWay}
use Rattle.agc_session.specs.Session.{start_with}
use Rattle.agc_session.proofs.Checkpoints.{goes_on_from, starts_on_run}
use Rattle.agc_session.proofs.session.resume.Goals as goal

pub returns-in_default-clause-way : goal.returns-in_default-clause-way
returns-in_default-clause-way c =
    let start : State = start_with c.args.events c.args.machine in
    subst (λ (now : State). IsOnWay c.args.before start now c.new.result 0) (sym c.restart_with.ensures) (starts_on_run c.args.before start c.new.result c.new.ensures)

pub returns-in_default-clause-right : goal.returns-in_default-clause-right
returns-in_default-clause-right c = c.take_newest.ensures.right _ _ c.requires

pub returns-clause-way : goal.returns-clause-way
returns-clause-way c =
    let words = c.args.machine.processor.store.fixed in
    let limit = c.args.machine.limit in
    subst (λ (now : State). IsOnWay c.args.before (start_with c.args.events c.args.machine) now c.in-Some.copy.panel c.in-Some.copy.writes) (sym (c.resume_with.ensures ∙ ap (λ (n : ℕ). record c.in-Some.copy.machine { events = drop n c.args.events }) c.len.ensures.count))
    (goes_on_from words limit c.args.before c.args.events c.in-Some.copy (c.in-Some.ensures.copy words limit c.requires) c.in-Some.ensures.fits c.in-Some.ensures.before)

pub returns-clause-right : goal.returns-clause-right
returns-clause-right c = c.take_newest.ensures.right _ _ c.requires
