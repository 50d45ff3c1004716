use Rattle.agc_session.specs.declared.condition.Condition.TheVariants as condition
use Rattle.std.proofs.Common.{sym}
use Rattle.agc_session.proofs.Passing.{no_order, one_hit, order_meets, order_needs}
use Rattle.agc_session.proofs.by_orders.pass_to_order.Goals as goal

pub returns-then-is_order_next : goal.returns-then-is_order_next
returns-then-is_order_next c =
    one_hit (condition.Order c.args.place) c.args.end c.args.panel.now c.pass.new.panel c.args.machine.now c.pass.new.machine c.pass.result
    c.requires.runs c.pass.ensures.now c.pass.ensures.panel c.pass.ensures.began
    (order_meets c.args.place c.args.panel.now c.args.machine.now (sym c.if-is_order_next.ensures))

pub returns : goal.returns
returns c =
    no_order (condition.Order c.args.place) c.watch_of.result c.args.place c.args.end c.args.panel.now c.pass_some.new.panel c.args.machine.now
    c.pass_some.new.machine c.pass_some.result (order_needs c.args.place) c.watch_of.ensures c.pass_some.ensures (sym c.if-is_order_next.ensures)
