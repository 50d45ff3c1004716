use Rattle.std.proofs.Common.{◌<◌, ◌∙◌, refl, ap, Option, arith}
use Rattle.agc_machine.proofs.Before.{before_at_cycle, before_after_quiet, before_at_end}
use Rattle.agc_machine.proofs.Chain.{fewer_after_quiet}
use Rattle.agc_machine.specs.Boundary.{is_reached}
use Rattle.agc_machine.specs.declared.stop_address.StopAddress.{StopAddress}
use Rattle.agc_machine.proofs.Stillness.{none_pending}
use Rattle.agc_machine.proofs.engine.Engine.go_bare.Goals as goal

pub order_in_quiet-requires-clause-uninterrupted : goal.order_in_quiet-requires-clause-uninterrupted
order_in_quiet-requires-clause-uninterrupted c =
    let some : 0 < c.loop-next.self.quiet_until = omega arith in
    none_pending c.loop-next.self.processor (rw c.loop-next.invariant.4 at c.loop-next.invariant.0.pace some).0

pub order_in_quiet-requires-clause-unreached : goal.order_in_quiet-requires-clause-unreached
order_in_quiet-requires-clause-unreached c =
    let some : 0 < c.loop-next.self.quiet_until = omega arith in
    ap (λ (u : Option StopAddress). is_reached u c.loop-next.self.processor) (rw c.loop-next.invariant.4 at c.loop-next.invariant.0.pace some).1

pub returns-then-end-cycle-clause-next : goal.returns-then-end-cycle-clause-next
returns-then-end-cycle-clause-next c = before_at_cycle _ _ _ c.in-Goes.ensures.step (omega arith) ∙ c.loop-next.invariant.1

pub loop-next-smaller : goal.loop-next-smaller
loop-next-smaller c = fewer_after_quiet _ _ c.in-Goes.ensures.step

pub loop-next-preserved : goal.loop-next-preserved
loop-next-preserved c =
    let same = c.in-Goes.ensures.quiet_until _ refl in
    (c.in-Goes.ensures.sound, before_after_quiet _ _ _ c.in-Goes.ensures.step (omega arith) ∙ c.loop-next.invariant.1, omega arith, omega arith, c.in-Goes.ensures.pace ∙ c.loop-next.invariant.4)

pub returns-in-Ends-clause-next : goal.returns-in-Ends-clause-next
returns-in-Ends-clause-next c =
    before_at_end _ _ _ _ c.in-Ends.ensures.step (c.in-Ends.ensures.shows _ refl) ∙ c.loop-next.invariant.1
