use Rattle.std.proofs.Common.{◌∙◌, refl, ap, sym, Option, arith}
use Rattle.agc_machine.proofs.Before.{before_at_cycle, before_after_quiet, before_at_end}
use Rattle.agc_machine.proofs.Chain.{fewer_after_quiet}
use Rattle.agc_machine.specs.Boundary.{is_reached}
use Rattle.agc_machine.specs.declared.stop_address.StopAddress.{StopAddress}
use Rattle.agc_machine.proofs.Stillness.{held_off}
use Rattle.agc_machine.proofs.engine.Engine.go_held_off.Goals as goal

pub order_in_quiet-requires-clause-uninterrupted : goal.order_in_quiet-requires-clause-uninterrupted
order_in_quiet-requires-clause-uninterrupted c =
    held_off c.loop-self.self.processor (sym c.if-not-is_held_off.ensures)

pub order_in_quiet-requires-clause-unreached : goal.order_in_quiet-requires-clause-unreached
order_in_quiet-requires-clause-unreached c =
    ap (λ (u : Option StopAddress). is_reached u c.loop-self.self.processor) c.loop-self.invariant.4

pub returns-then-end-cycle-clause-next : goal.returns-then-end-cycle-clause-next
returns-then-end-cycle-clause-next c = before_at_cycle _ _ _ c.in-Goes.ensures.step (omega arith) ∙ c.loop-self.invariant.1

pub loop-self-smaller : goal.loop-self-smaller
loop-self-smaller c = fewer_after_quiet _ _ c.in-Goes.ensures.step

pub loop-self-preserved : goal.loop-self-preserved
loop-self-preserved c =
    let same = c.in-Goes.ensures.quiet_until _ refl in
    (c.in-Goes.ensures.sound, before_after_quiet _ _ _ c.in-Goes.ensures.step (omega arith) ∙ c.loop-self.invariant.1, omega arith, omega arith, c.in-Goes.ensures.until ∙ c.loop-self.invariant.4)

pub returns-in-Ends-clause-next : goal.returns-in-Ends-clause-next
returns-in-Ends-clause-next c =
    before_at_end _ _ _ _ c.in-Ends.ensures.step (c.in-Ends.ensures.shows _ refl) ∙ c.loop-self.invariant.1

pub returns-then-not-is_held_off-clause-next : goal.returns-then-not-is_held_off-clause-next
returns-then-not-is_held_off-clause-next c = c.go_step_by_step.ensures.next ∙ c.loop-self.invariant.1
