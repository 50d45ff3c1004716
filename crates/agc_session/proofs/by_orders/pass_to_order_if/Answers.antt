use Rattle.std.proofs.Common.{ap, sym, ◌∙◌}
use Rattle.agc_store.specs.Memory.{Memory}
use Rattle.agc_session.specs.Comparison.{holds_in}
use Rattle.agc_session.specs.declared.condition.Condition.TheVariants as condition
use Rattle.agc_session.proofs.Passing.{no_order, one_hit, one_misses, order_if_meets, order_if_misses, order_if_needs}
use Rattle.agc_session.proofs.by_orders.pass_to_order_if.Goals as goal

pub returns-then-not-is_order_next : goal.returns-then-not-is_order_next
returns-then-not-is_order_next c =
    no_order (condition.OrderIf c.args.place c.args.comparison.now) c.watch_of.result c.args.place c.args.end c.args.panel.now c.pass_some.new.panel
    c.args.machine.now c.pass_some.new.machine c.pass_some.result (order_if_needs c.args.place c.args.comparison.now) c.watch_of.ensures c.pass_some.ensures
    (sym c.if-not-is_order_next.ensures)

pub returns-then-hit : goal.returns-then-hit
returns-then-hit c =
    one_hit (condition.OrderIf c.args.place c.args.comparison.now) c.args.end c.args.panel.now c.pass-began.new.panel c.args.machine.now
    c.pass-began.new.machine c.pass-began.result c.requires.runs c.pass-began.ensures.now c.pass-began.ensures.panel c.pass-began.ensures.began
    (order_if_meets c.args.place c.args.comparison.now c.args.panel.now c.args.machine.now (sym c.if-not-is_order_next.ensures)
    (ap (λ (m : Memory). holds_in m c.args.comparison.now) (sym c.store.ensures) ∙ sym c.if-hit.ensures))

pub returns-else-hit : goal.returns-else-hit
returns-else-hit c =
    one_misses (condition.OrderIf c.args.place c.args.comparison.now) c.args.end c.args.panel.now c.pass-began.new.panel c.args.machine.now
    c.pass-began.new.machine c.pass-began.ensures.now c.pass-began.ensures.panel
    (order_if_misses c.args.place c.args.comparison.now c.args.panel.now c.args.machine.now
    (ap (λ (m : Memory). holds_in m c.args.comparison.now) (sym c.store.ensures) ∙ sym c.if-hit.ensures))
