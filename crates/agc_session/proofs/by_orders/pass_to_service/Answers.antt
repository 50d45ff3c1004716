use Rattle.agc_session.specs.declared.condition.Condition.TheVariants as condition
use Rattle.agc_machine.specs.declared.order_run.Watch.TheVariants as watch
use Rattle.std.proofs.Common.{sym}
use Rattle.agc_session.proofs.Passing.{no_service, one_hit, service_meets}
use Rattle.agc_session.proofs.by_orders.pass_to_service.Goals as goal

pub returns-then-is_service_next : goal.returns-then-is_service_next
returns-then-is_service_next c =
    one_hit (condition.Interrupt c.args.which) c.args.end c.args.panel.now c.pass.new.panel c.args.machine.now c.pass.new.machine c.pass.result
    c.requires.runs c.pass.ensures.now c.pass.ensures.panel c.pass.ensures.began
    (service_meets c.args.which c.args.panel.now c.args.machine.now (sym c.if-is_service_next.ensures))

pub returns : goal.returns
returns c =
    no_service c.args.which watch.Nothing c.args.end c.args.panel.now c.pass_some.new.panel c.args.machine.now c.pass_some.new.machine
    c.pass_some.result c.pass_some.ensures (sym c.if-is_service_next.ensures)
