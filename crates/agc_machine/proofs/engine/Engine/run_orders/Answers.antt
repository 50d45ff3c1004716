use Rattle.std.proofs.Common.{◌≤◌, arith}
use Rattle.agc_machine.specs.Engine.{state_of}
use Rattle.agc_machine.proofs.Orders.{ran_within}
use Rattle.agc_machine.proofs.engine.Engine.run_orders.Goals as goal

pub returns-then-eq-clause-ran : goal.returns-then-eq-clause-ran
returns-then-eq-clause-ran c =
    let within : c.min.result ≤ c.args.cycle = omega (arith, c.min.ensures) in
    ran_within c.args.watch.now c.min.result c.args.cycle (state_of c.args.self.now) (state_of c.run_bare_orders.new.self) c.run_bare_orders.result within
    c.run_bare_orders.ensures.ran
