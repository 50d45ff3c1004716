-- No boundary changes the constants of a run: the fixed words, the limit and the stop address.
use Rattle.std.proofs.Common.{Option, Some, None, true, refl}
use Rattle.agc_script.specs.declared.event.What.{What}
use Rattle.agc_processor.specs.declared.processor.Processor.{Processor}
use Rattle.agc_processor.specs.declared.processor.Ran.{Ran}
use Rattle.agc_processor.specs.declared.processor.Ran.TheVariants as ran
use Rattle.agc_processor.specs.Effect.{order_effect}
use Rattle.agc_machine.specs.Boundary.{boundary, by_order, carried_out, ran_order}
use Rattle.agc_machine.specs.Laws.{IsSameRun}
use Rattle.agc_machine.specs.State.{State, fed}
use Rattle.agc_machine.specs.declared.upcoming.Upcoming.{Upcoming}
use Rattle.agc_machine.specs.declared.upcoming.Upcoming.TheVariants as upcoming
use Rattle.agc_machine.proofs.Cases.{by_cases}
use Rattle.agc_machine.proofs.Fixed.{SameFixed, event_keeps, interrupt_keeps, order_keeps, timer_keeps}

ran_keeps : (s : State) (r : Processor × Ran) → SameFixed s.processor r.0 → IsSameRun s (ran_order s r).0
ran_keeps s (p, ran.Quiet cycles) h = (h, refl, refl)
ran_keeps s (p, ran.Wrote channel value) h = (h, refl, refl)
ran_keeps s (p, ran.Halted why) h = (h, refl, refl)

by_order_keeps : (s : State) → IsSameRun s (by_order s).0
unfolding by_order
by_order_keeps s = ran_keeps s (order_effect s.cycle s.processor) (order_keeps s.cycle s.processor)

comes_keeps : (u : Upcoming) (s : State) → IsSameRun s (carried_out u s).0
comes_keeps (upcoming.Stop why) s = (refl, refl, refl)
comes_keeps (upcoming.Event what) s = (event_keeps s.cycle what s.processor, refl, refl)
comes_keeps (upcoming.Timer t) s = (timer_keeps t s.processor, refl, refl)
comes_keeps (upcoming.Interrupt r) s = (interrupt_keeps r s.processor, refl, refl)
comes_keeps (upcoming.Order order) s = by_order_keeps s

plain_keeps : (s : State) → IsSameRun s (boundary None s).0
plain_keeps s = by_cases (λ r. IsSameRun s r.0) s (λ why e. (refl, refl, refl)) (λ u a. comes_keeps u (record s { begun = true }))

pub boundary_keeps : (live : Option What) (s : State) → IsSameRun s (boundary live s).0
unfolding boundary
boundary_keeps None s = plain_keeps s
boundary_keeps (Some what) s = plain_keeps (fed (Some what) s)
