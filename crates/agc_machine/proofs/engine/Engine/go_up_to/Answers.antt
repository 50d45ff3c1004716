use Rattle.std.proofs.Common.{◌<◌, ◌∙◌, refl, ap, sym, Option, arith}
use Rattle.agc_machine.proofs.Before.{before_at_cycle, before_after_quiet, before_at_end}
use Rattle.agc_machine.proofs.Chain.{fewer_after_quiet}
use Rattle.agc_machine.specs.Boundary.{is_reached}
use Rattle.agc_machine.specs.State.{State}
use Rattle.agc_machine.specs.declared.answer.Stepped.{Stepped}
use Rattle.agc_machine.specs.declared.stop_address.StopAddress.{StopAddress}
use Rattle.agc_machine.specs.Engine.{engine_at, state_of}
use Rattle.agc_machine.proofs.Stillness.{none_pending, reached_step}
use Rattle.agc_machine.proofs.engine.Engine.go_up_to.Goals as goal

pub order_in_quiet-requires-clause-uninterrupted : goal.order_in_quiet-requires-clause-uninterrupted
order_in_quiet-requires-clause-uninterrupted c =
    let some : 0 < c.loop-at.self.quiet_until = omega arith in
    none_pending c.loop-at.self.processor (rw c.loop-at.invariant.4 at c.loop-at.invariant.0.pace some)

pub order_in_quiet-requires-clause-unreached : goal.order_in_quiet-requires-clause-unreached
order_in_quiet-requires-clause-unreached c =
    ap (λ (u : Option StopAddress). is_reached u c.loop-at.self.processor) c.loop-at.invariant.5 ∙ sym c.if-is_one_past.ensures

pub returns-then-end-cycle-clause-next : goal.returns-then-end-cycle-clause-next
returns-then-end-cycle-clause-next c = before_at_cycle _ _ _ c.in-Goes.ensures.step (omega arith) ∙ c.loop-at.invariant.1

pub loop-at-smaller : goal.loop-at-smaller
loop-at-smaller c = fewer_after_quiet _ _ c.in-Goes.ensures.step

pub loop-at-preserved : goal.loop-at-preserved
loop-at-preserved c =
    let same = c.in-Goes.ensures.quiet_until _ refl in
    (c.in-Goes.ensures.sound, before_after_quiet _ _ _ c.in-Goes.ensures.step (omega arith) ∙ c.loop-at.invariant.1, omega arith, omega arith, c.in-Goes.ensures.pace ∙ c.loop-at.invariant.4, c.in-Goes.ensures.until ∙ c.loop-at.invariant.5)

pub returns-in-Ends-clause-next : goal.returns-in-Ends-clause-next
returns-in-Ends-clause-next c =
    before_at_end _ _ _ _ c.in-Ends.ensures.step (c.in-Ends.ensures.shows _ refl) ∙ c.loop-at.invariant.1

pub returns-then-is_one_past-clause-next : goal.returns-then-is_one_past-clause-next
returns-then-is_one_past-clause-next c =
    let some : 0 < c.loop-at.self.quiet_until = omega arith in
    let none = none_pending c.loop-at.self.processor (rw c.loop-at.invariant.4 at c.loop-at.invariant.0.pace some) in
    let reached = ap (λ (u : Option StopAddress). is_reached u c.loop-at.self.processor) c.loop-at.invariant.5 ∙ sym c.if-is_one_past.ensures in
    let stops = ap (λ (r : State × Stepped). r.1) c.stop.ensures.step in
    before_at_end _ _ _ c.stop.result (c.stop.ensures.step ∙ sym (reached_step c.loop-at.self.quiet_until (state_of (engine_at c.loop-at.cycle c.loop-at.self)) (c.loop-at.invariant.0.quiet some) c.loop-at.invariant.2 none reached)) (λ e. cc)
    ∙ c.loop-at.invariant.1
