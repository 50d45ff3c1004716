use Rattle.agc_session.specs.declared.condition.Condition.TheVariants as condition
use Rattle.agc_session.proofs.Advancing.{boundary_hits}
use Rattle.agc_session.proofs.Passing.{one_hit}
use Rattle.agc_session.proofs.search.advance.Goals as goal

pub returns-in-Boundary : goal.returns-in-Boundary
returns-in-Boundary c =
    rw c.in-Boundary.is
    (one_hit condition.Boundary c.args.end c.args.panel.now c.pass.new.panel c.args.machine.now c.pass.new.machine c.pass.result c.requires.runs
    c.pass.ensures.now c.pass.ensures.panel c.pass.ensures.began (boundary_hits c.args.panel.now c.args.machine.now))

pub returns-in-Order : goal.returns-in-Order
returns-in-Order c = rw c.in-Order.is c.pass_to_order.ensures

pub returns-in-OrderIf : goal.returns-in-OrderIf
returns-in-OrderIf c = rw c.in-OrderIf.is c.pass_to_order_if.ensures

pub returns-in-Caller : goal.returns-in-Caller
returns-in-Caller c = rw c.in-Caller.is c.pass_to_caller.ensures

pub returns-in-Cell : goal.returns-in-Cell
returns-in-Cell c = rw c.in-Cell.is c.pass_to_change.ensures

pub returns-in-Interrupt : goal.returns-in-Interrupt
returns-in-Interrupt c = rw c.in-Interrupt.is c.pass_to_service.ensures
