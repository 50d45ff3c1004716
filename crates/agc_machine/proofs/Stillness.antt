-- Below `quiet_until` a boundary is an interrupt, the stop at the stop address, or the order in hand.
use Rattle.std.proofs.Common.{◌≡◌, ℕ, ◌<◌, ◌≤◌, ◌⊎◌, min, Bool, true, false, Option, Some, None, refl, ap, sym, ◌∙◌, arith}
use Rattle.std.specs.Prelude.{◌||◌, ◌&&◌, not, if◌then◌else◌}
use Rattle.agc_machine.specs.declared.answer.Stop.TheVariants as stop
use Rattle.agc_machine.specs.declared.stop_address.StopAddress.{StopAddress}
use Rattle.agc_processor.specs.declared.processor.Processor.{Processor}
use Rattle.agc_machine.specs.declared.upcoming.Upcoming.{Upcoming}
use Rattle.agc_machine.specs.declared.upcoming.Upcoming.TheVariants as upcoming
use Rattle.agc_machine.specs.Boundary.{IsClockQuiet, boundary, by_order, carried_out, in_hand, is_reached, stops, upcoming_of}
use Rattle.agc_machine.proofs.Cases.{address_upcoming, interrupt_upcoming, order_upcoming, upcoming_comes}
use Rattle.agc_processor.specs.Interrupt.{pending, interrupted, is_allowed, is_none_over, first_request}
use Rattle.agc_processor.specs.Processor.{a_of}
use Rattle.agc_word.specs.Arithmetic.{over_of}
use Rattle.agc_processor.specs.declared.interrupt.Rupt.{Rupt}
use Rattle.agc_processor.specs.Keeps.{IsSame}
use Rattle.agc_machine.specs.Quiet.{IsQuiet, Serves}
use Rattle.agc_machine.specs.declared.quiet.Pace.{Pace}
use Rattle.agc_machine.specs.declared.quiet.Pace.TheVariants as pace
use Rattle.agc_machine.specs.State.{State}
use Rattle.agc_processor.specs.Channel.{switch_word}
use Rattle.agc_processor.specs.Timer.{due_timer, is_any_due, is_time6_due}
use Rattle.agc_processor.specs.Due.{is_due}
use Rattle.agc_processor.specs.Period.{time1_first, time3_first, time4_first, time5_first}

-- no timer steps when none is due
none_of_five : {X : Type 0} (a b c d e : Bool) (v w x y z : X) → (a || b || c || d || e) ≡ false →
    (if a then Some v else if b then Some w else if c then Some x else if d then Some y else if e then Some z else None) ≡ None
none_of_five false false false false false v w x y z h = refl
none_of_five true b c d e v w x y z h = cc
none_of_five false true c d e v w x y z h = cc
none_of_five false false true d e v w x y z h = cc
none_of_five false false false true e v w x y z h = cc
none_of_five false false false false true v w x y z h = cc

pub no_timer : (cycle : ℕ) (p : Processor) → is_any_due cycle p.timers (switch_word p) ≡ false → due_timer cycle p ≡ None
unfolding due_timer
no_timer cycle p h =
    none_of_five (is_due cycle time1_first p.timers.time1) (is_due cycle time3_first p.timers.time3) (is_due cycle time4_first p.timers.time4)
    (is_due cycle time5_first p.timers.time5) (is_time6_due cycle p.timers (switch_word p)) _ _ _ _ _ h

pub none_or_none : (b : Bool) (o : Option Rupt) → o ≡ None → (if b then o else None) ≡ None
none_or_none true o e = e
none_or_none false o e = refl

-- no interrupt is taken when none is requested
pub none_pending : (p : Processor) → first_request p ≡ None → pending p ≡ None
unfolding pending
none_pending p e = none_or_none (is_allowed p) _ e

held_by : (serving inhibited uninterruptible none_over : Bool) (o : Option Rupt) → (serving || inhibited) ≡ true →
    (if not serving && not inhibited && not uninterruptible && none_over then o else None) ≡ None
held_by true inhibited uninterruptible none_over o e = refl
held_by false true uninterruptible none_over o e = refl
held_by false false uninterruptible none_over o e = cc

-- nor during a service or while INHINT is in force
pub held_off : (p : Processor) → (p.serving || p.inhibited) ≡ true → pending p ≡ None
unfolding pending
held_off p e = held_by p.serving p.inhibited p.uninterruptible (is_none_over (over_of (a_of p))) (first_request p) e

quiet_clock : (until : ℕ) (s : State) → IsQuiet until s → s.cycle < until → IsClockQuiet s
quiet_clock until s q h =
    record { below = q.limit s.cycle h; none_due = q.events s.cycle h; no_timer = no_timer s.cycle s.processor (q.timers s.cycle h) }

quiet_boundary : (until : ℕ) (s : State) (u : Upcoming) → IsQuiet until s → upcoming_of s ≡ u → boundary None s ≡ carried_out u s
quiet_boundary until s u q e =
    (upcoming_comes s).comes q.going.runs ∙ ap (λ (b : Bool). carried_out (upcoming_of s) (record s { begun = b })) (sym q.going.begun)
    ∙ ap (λ (u : Upcoming). carried_out u s) e

-- below `quiet_until` a boundary is an interrupt, the stop at the stop address, or the order
pub interrupt_step : (until : ℕ) (s : State) (r : Rupt) → IsQuiet until s → s.cycle < until → pending s.processor ≡ Some r →
    boundary None s ≡ carried_out (upcoming.Interrupt r) s
interrupt_step until s r q h e =
    quiet_boundary until s _ q (interrupt_upcoming s r q.going.runs (quiet_clock until s q h) e)

pub reached_step : (until : ℕ) (s : State) → IsQuiet until s → s.cycle < until → pending s.processor ≡ None → is_reached s.until s.processor ≡ true →
    boundary None s ≡ stops stop.Reached s
reached_step until s q h e r = quiet_boundary until s _ q (address_upcoming s q.going.runs (quiet_clock until s q h) e r)

pub order_step : (until : ℕ) (s : State) → IsQuiet until s → s.cycle < until → pending s.processor ≡ None → is_reached s.until s.processor ≡ false →
    boundary None s ≡ by_order s
order_step until s q h e r = quiet_boundary until s _ q (order_upcoming s q.going.runs (quiet_clock until s q h) e r)

-- without requests and a stop address the order in hand comes
unreached : (until : Option StopAddress) (p : Processor) → until ≡ None → is_reached until p ≡ false
unreached until p e = ap (λ (u : Option StopAddress). is_reached u p) e

pub bare_step : (until : ℕ) (s : State) → IsQuiet until s → s.cycle < until → Serves pace.Bare s → boundary None s ≡ by_order s
bare_step until s q h serves = order_step until s q h (none_pending s.processor serves.0) (unreached s.until s.processor serves.1)

pub bare_upcoming : (until : ℕ) (s : State) → IsQuiet until s → s.cycle < until → Serves pace.Bare s → upcoming_of s ≡ upcoming.Order (in_hand s.processor)
bare_upcoming until s q h serves =
    order_upcoming s q.going.runs (quiet_clock until s q h) (none_pending s.processor serves.0) (unreached s.until s.processor serves.1)

-- what is quiet stays so while the timers and TIME6's switch are unchanged
pub quiet_kept : (until : ℕ) (s : State) (p : Processor) (cycle : ℕ) → IsQuiet until s → IsSame s.processor p →
    IsQuiet until (record s { processor = p; cycle = cycle })
quiet_kept until s p cycle q same =
    record { going = record { begun = q.going.begun; runs = q.going.runs }; limit = q.limit; events = q.events; timers = λ c l. rw (same.0, same.2) (q.timers c l) }

-- and an interrupt leaves them unchanged
pub interrupted_kept : (until : ℕ) (s : State) (r : Rupt) (cycle : ℕ) → IsQuiet until s →
    IsQuiet until (record s { processor = interrupted r s.processor; cycle = cycle })
unfolding interrupted
interrupted_kept until s r cycle q =
    record { going = record { begun = q.going.begun; runs = q.going.runs }; limit = q.limit; events = q.events; timers = q.timers }

-- a pace that serves continues to serve while the requests are unchanged
pub serves_kept : (pace : Pace) (s : State) (p : Processor) (cycle : ℕ) → Serves pace s → IsSame s.processor p →
    Serves pace (record s { processor = p; cycle = cycle })
serves_kept pace.Bare s p cycle h same = (rw same.1 h.0, h.1)
serves_kept pace.Watched s p cycle h same = rw same.1 h
serves_kept pace.Held s p cycle h same = tt

-- the least of three is at most the second, the third or the first
pub least_of : (t l e : ℕ) → (l ≤ min (min t l) e) ⊎ ((min (min t l) e ≡ e) ⊎ (min (min t l) e ≡ t))
least_of t l e = grind arith
