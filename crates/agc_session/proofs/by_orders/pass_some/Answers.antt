use Rattle.agc_session.proofs.Passing.{passes_one}
use Rattle.agc_session.proofs.by_orders.pass_some.Goals as goal

pub returns-in-None : goal.returns-in-None
returns-in-None c =
    passes_one c.args.watch.now c.args.end c.args.panel.now c.pass.new.panel c.args.machine.now c.run_orders.new.self c.pass.new.machine c.pass.result
    c.in-None.ensures.unchanged c.pass.ensures.now c.pass.ensures.panel c.pass.ensures.began
