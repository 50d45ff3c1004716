use Rattle.std.proofs.Common.{sym}
use Rattle.agc_session.specs.declared.condition.Condition.TheVariants as condition
use Rattle.agc_session.proofs.Passing.{caller_meets, caller_misses, one_hit, one_misses}
use Rattle.agc_session.proofs.by_orders.pass_to_caller.Goals as goal

pub returns-then-hit : goal.returns-then-hit
returns-then-hit c =
    one_hit (condition.Caller c.args.caller.now) c.args.end c.args.panel.now c.pass-began.new.panel c.args.machine.now c.pass-began.new.machine
    c.pass-began.result c.requires.runs c.pass-began.ensures.now c.pass-began.ensures.panel c.pass-began.ensures.began
    (caller_meets c.args.caller.now c.args.panel.now c.args.machine.now (sym c.if-hit.ensures))

pub returns-else-hit : goal.returns-else-hit
returns-else-hit c =
    one_misses (condition.Caller c.args.caller.now) c.args.end c.args.panel.now c.pass-began.new.panel c.args.machine.now c.pass-began.new.machine
    c.pass-began.ensures.now c.pass-began.ensures.panel
    (caller_misses c.args.caller.now c.args.panel.now c.args.machine.now (sym c.if-hit.ensures))
