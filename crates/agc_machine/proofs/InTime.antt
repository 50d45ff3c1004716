-- The timers of a run are never ahead of its cycle, so none of them exceeds what can be counted below the largest
-- limit.
use Rattle.std.proofs.Common.{◌≡◌, ℕ, ◌+◌, ◌<◌, ◌≤◌, List, length, Bool, true, false, Option, Some, None, refl, sym, subst, arith, lit≤}
use Rattle.std.specs.Prelude.{◌==◌, ◌&&◌, ◌^◌, if◌then◌else◌, nat_lt, IfSome}
use Rattle.std.proofs.lemmas.Bool.Decides.{nat_tests}
use Rattle.agc_word.specs.Number.{Number}
use Rattle.agc_word.specs.Pulses.{pulsed}
use Rattle.agc_word.specs.declared.pulse.Carry.{Carry}
use Rattle.agc_word.specs.declared.pulse.Carry.TheVariants as carry
use Rattle.agc_word.specs.declared.pulse.Pulse.{Pulse}
use Rattle.agc_script.specs.declared.event.What.{What}
use Rattle.agc_script.specs.declared.event.What.TheVariants as what
use Rattle.agc_store.specs.Places.{inlink_cell}
use Rattle.agc_processor.specs.declared.interrupt.Rupt.{Rupt}
use Rattle.agc_processor.specs.declared.interrupt.Rupt.TheVariants as rupt
use Rattle.agc_processor.specs.declared.processor.Processor.{Processor}
use Rattle.agc_processor.specs.declared.processor.Timers.{Timers}
use Rattle.agc_processor.specs.declared.processor.Ran.{Ran}
use Rattle.agc_processor.specs.declared.timer.Timer.{Timer}
use Rattle.agc_processor.specs.declared.timer.Timer.TheVariants as timer
use Rattle.agc_processor.specs.Channel.{is_on, switch_word}
use Rattle.agc_processor.specs.Effect.{order_effect}
use Rattle.agc_processor.specs.Interrupt.{interrupt_cycles, interrupted}
use Rattle.agc_processor.specs.Due.{is_due, time6_periods}
use Rattle.agc_processor.specs.Period.{pulses_at, time1_first, time3_first, time4_first, time5_first}
use Rattle.agc_processor.specs.Processor.{◌▷◌}
use Rattle.agc_processor.specs.Start.{start_processor}
use Rattle.agc_processor.specs.Timer.{IsCounted, carried, counter, set_counter, switched_off, time2_by, time1_step, time3_step, time4_step, time5_step, time6_step, is_time6_due, due_timer, steps_of, timer_step}
use Rattle.agc_processor.proofs.Timed.{order_timed, set_channel_timed, with_periods}
use Rattle.agc_machine.specs.Engine.{IsInTime, IsSound}
use Rattle.agc_machine.specs.declared.engine.Engine.{Engine}
use Rattle.agc_machine.specs.EventEffect.{happened, is_shift, pressed, proceeded, pulsed_counter}

-- at a later cycle the timers are still in time
pub later_in_time : (c d : ℕ) (t : Timers) → IsInTime c t → c ≤ d → IsInTime d t
later_in_time c d t h l =
    record {
      time1 = omega (arith, h.time1);
      time3 = omega (arith, h.time3);
      time4 = omega (arith, h.time4);
      time5 = omega (arith, h.time5);
      mark = omega (arith, h.mark);
    }

-- and up to the end of the longest run they can be counted
pub counted_with : (c : ℕ) (t : Timers) → IsInTime c t → c ≤ 1000000000006 → IsCounted t
counted_with c t h l =
    (omega (arith, h.time1), omega (arith, h.time3), omega (arith, h.time4), omega (arith, h.time5), omega (arith, h.mark))

-- at the start they have counted nothing
pub start_in_time : (words : List Number) → IsInTime 0 (start_processor words).timers
unfolding start_processor
start_in_time words = record { time1 = lit≤ tt; time3 = lit≤ tt; time4 = lit≤ tt; time5 = lit≤ tt; mark = omega arith }

-- TIME6's mark at the periods passed is in time
with_periods_in_time : (c : ℕ) (t : Timers) → IsInTime c t → IsInTime c (with_periods c t)
with_periods_in_time c t h = record { time1 = h.time1; time3 = h.time3; time4 = h.time4; time5 = h.time5; mark = omega arith }

-- a word enters a channel
set_channel_in_time : (c h : ℕ) (w : Number) (p : Processor) → IsInTime c p.timers → IsInTime c (happened c (what.Input h w) p).timers
unfolding happened
set_channel_in_time c h w p t = set_channel_timed (IsInTime c) c h w p t (with_periods_in_time c p.timers t)

-- the order in hand
effect_in_time : (c : ℕ) (p : Processor) → IsInTime c p.timers → IsInTime c (order_effect c p).0.timers
effect_in_time c p t = order_timed (IsInTime c) c p t (with_periods_in_time c p.timers t)

pub order_in_time : (c : ℕ) (p q : Processor) (r : Ran) → IsInTime c p.timers → (q, r) ≡ order_effect c p → IsInTime c q.timers
order_in_time c p q r t e = subst (λ (x : Processor × Ran). IsInTime c x.0.timers) (sym e) (effect_in_time c p t)

-- an interrupt
pub interrupt_in_time : (c : ℕ) (r : Rupt) (p q : Processor) → IsInTime c p.timers → q ≡ interrupted r p → IsInTime (c + interrupt_cycles) q.timers
unfolding interrupted
interrupt_in_time c r p q t e =
    subst (λ (x : Processor). IsInTime (c + interrupt_cycles) x.timers) (sym e) (later_in_time c (c + interrupt_cycles) p.timers t (omega arith))

-- a carry requests an interrupt, and leaves the timers unchanged
carried_in_time : (c : ℕ) (r : Rupt) (x : Carry) (p : Processor) → IsInTime c p.timers → IsInTime c (carried r x p).timers
carried_in_time c r carry.Out p t = t
carried_in_time c r carry.None p t = t

-- an event
one_in_time : (c : ℕ) (b : Bool) (p q : Processor) → IsInTime c p.timers → IsInTime c q.timers → IsInTime c (if b then p else q).timers
one_in_time c true p q h k = h
one_in_time c false p q h k = k

pulse_in_time : (c place : ℕ) (kind : Pulse) (p : Processor) → IsInTime c p.timers → IsInTime c (pulsed_counter place kind p).timers
unfolding pulsed_counter
pulse_in_time c place kind p t =
    let stepped = pulsed kind (counter place p) in
    let after : Processor = p ▷ set_counter place stepped.0 in
    one_in_time c ((place == inlink_cell) && is_shift kind) (after ▷ carried rupt.Uprupt stepped.1) after
    (carried_in_time c rupt.Uprupt stepped.1 after t) t

happened_in_time : (c : ℕ) (event : What) (p : Processor) → IsInTime c p.timers → IsInTime c (happened c event p).timers
unfolding happened pressed proceeded
happened_in_time c (what.Input channel value) p t = set_channel_in_time c channel value p t
happened_in_time c (what.Pulse place kind) p t = pulse_in_time c place kind p t
happened_in_time c (what.Key key) p t = t
happened_in_time c (what.Pro down) p t = t
happened_in_time c (what.Raise number) p t = t
happened_in_time c (what.Poke bank offset value) p t = t

pub event_in_time : (c d : ℕ) (event : What) (p q : Processor) → IsInTime c p.timers → q ≡ happened c event p → c ≤ d → IsInTime d q.timers
event_in_time c d event p q t e l =
    later_in_time c d q.timers (subst (λ (x : Processor). IsInTime c x.timers) (sym e) (happened_in_time c event p t)) l

-- the step of a timer that is due
time2_in_time : (c : ℕ) (x : Carry) (p : Processor) → IsInTime c p.timers → IsInTime c (time2_by x p).0.timers
time2_in_time c carry.Out p t = t
time2_in_time c carry.None p t = t

switch_in_time : (c : ℕ) (x : Carry) (p : Processor) → IsInTime c p.timers → IsInTime c (switched_off x p).timers
switch_in_time c carry.Out p t = t
switch_in_time c carry.None p t = t

-- one more step when one is due is at most the pulses passed
step_counted : (c first taken : ℕ) → 0 < first → is_due c first taken ≡ true → taken + 1 ≤ pulses_at c
step_counted c first taken some due = grind (arith, nat_tests)

period_by : (b : Bool) (c mark : ℕ) → (b && nat_lt mark (time6_periods c)) ≡ true → mark + 1 ≤ time6_periods c
period_by true c mark e = grind (arith, nat_tests)
period_by false c mark e = cc

period_counted : (c : ℕ) (t : Timers) (switch : Number) → is_time6_due c t switch ≡ true → t.mark + 1 ≤ time6_periods c
period_counted c t switch due = period_by (is_on switch) c t.mark due

time1_in_time : (c : ℕ) (p : Processor) → IsInTime c p.timers → is_due c time1_first p.timers.time1 ≡ true → IsInTime c (time1_step p).0.timers
unfolding time1_step
time1_in_time c p t due =
    time2_in_time c _ _ (record { time1 = step_counted c time1_first p.timers.time1 (lit≤ tt) due; time3 = t.time3; time4 = t.time4; time5 = t.time5; mark = t.mark })

time3_in_time : (c : ℕ) (p : Processor) → IsInTime c p.timers → is_due c time3_first p.timers.time3 ≡ true → IsInTime c (time3_step p).0.timers
unfolding time3_step
time3_in_time c p t due =
    carried_in_time c rupt.T3rupt _ _ (record { time1 = t.time1; time3 = step_counted c time3_first p.timers.time3 (lit≤ tt) due; time4 = t.time4; time5 = t.time5; mark = t.mark })

time4_in_time : (c : ℕ) (p : Processor) → IsInTime c p.timers → is_due c time4_first p.timers.time4 ≡ true → IsInTime c (time4_step p).0.timers
unfolding time4_step
time4_in_time c p t due =
    carried_in_time c rupt.T4rupt _ _ (record { time1 = t.time1; time3 = t.time3; time4 = step_counted c time4_first p.timers.time4 (lit≤ tt) due; time5 = t.time5; mark = t.mark })

time5_in_time : (c : ℕ) (p : Processor) → IsInTime c p.timers → is_due c time5_first p.timers.time5 ≡ true → IsInTime c (time5_step p).0.timers
unfolding time5_step
time5_in_time c p t due =
    carried_in_time c rupt.T5rupt _ _ (record { time1 = t.time1; time3 = t.time3; time4 = t.time4; time5 = step_counted c time5_first p.timers.time5 (lit≤ tt) due; mark = t.mark })

time6_in_time : (c : ℕ) (p : Processor) → IsInTime c p.timers → is_time6_due c p.timers (switch_word p) ≡ true → IsInTime c (time6_step p).0.timers
unfolding time6_step
time6_in_time c p t due =
    switch_in_time c _ _ (record { time1 = t.time1; time3 = t.time3; time4 = t.time4; time5 = t.time5; mark = period_counted c p.timers (switch_word p) due })

first_in_time : (c : ℕ) (p : Processor) → IsInTime c p.timers → (a1 a3 a4 a5 a6 : Bool) → is_due c time1_first p.timers.time1 ≡ a1 →
    is_due c time3_first p.timers.time3 ≡ a3 → is_due c time4_first p.timers.time4 ≡ a4 → is_due c time5_first p.timers.time5 ≡ a5 →
    is_time6_due c p.timers (switch_word p) ≡ a6 →
    IfSome
    (if a1 then Some timer.Time1
    else if a3 then Some timer.Time3
    else if a4 then Some timer.Time4
    else if a5 then Some timer.Time5
    else if a6 then Some timer.Time6
    else None) (λ t. IsInTime c (timer_step t p).0.timers)
first_in_time c p h true a3 a4 a5 a6 e1 e3 e4 e5 e6 = time1_in_time c p h e1
first_in_time c p h false true a4 a5 a6 e1 e3 e4 e5 e6 = time3_in_time c p h e3
first_in_time c p h false false true a5 a6 e1 e3 e4 e5 e6 = time4_in_time c p h e4
first_in_time c p h false false false true a6 e1 e3 e4 e5 e6 = time5_in_time c p h e5
first_in_time c p h false false false false true e1 e3 e4 e5 e6 = time6_in_time c p h e6
first_in_time c p h false false false false false e1 e3 e4 e5 e6 = tt

due_in_time : (c : ℕ) (p : Processor) → IsInTime c p.timers → IfSome (due_timer c p) (λ t. IsInTime c (timer_step t p).0.timers)
unfolding due_timer
due_in_time c p h = first_in_time c p h _ _ _ _ _ refl refl refl refl refl

pub step_in_time : (c d : ℕ) (p q : Processor) (t : Timer) (cycles : ℕ) → IsInTime c p.timers → due_timer c p ≡ Some t → (q, cycles) ≡ timer_step t p →
    c ≤ d → IsInTime d q.timers
step_in_time c d p q t cycles h e is l =
    let stepped = subst (λ (o : Option Timer). IfSome o (λ t. IsInTime c (timer_step t p).0.timers)) e (due_in_time c p h) in
    later_in_time c d q.timers (subst (λ (x : Processor × ℕ). IsInTime c x.0.timers) (sym is) stepped) l

-- and none has taken more steps than can be counted
pub steps_counted : (t : Timer) (c : ℕ) (timers : Timers) → IsInTime c timers → c ≤ 1000000000006 → steps_of t timers < 2 ^ 60
steps_counted timer.Time1 c timers h l = omega (arith, h.time1)
steps_counted timer.Time3 c timers h l = omega (arith, h.time3)
steps_counted timer.Time4 c timers h l = omega (arith, h.time4)
steps_counted timer.Time5 c timers h l = omega (arith, h.time5)
steps_counted timer.Time6 c timers h l = omega (arith, h.mark)

-- a machine that has begun is sound if `quiet_until` is 0
pub sound_slowly : (m : Engine) → m.next ≤ length m.script → 0 < m.limit → m.limit ≤ 1000000000000 → m.cycle < m.limit + 6 →
    IsInTime m.cycle m.processor.timers → m.quiet_until ≡ 0 → m.begun ≡ true → IsSound m
sound_slowly m place some limit cycle in_time not_quiet begun =
    record {
      place = place;
      some = some;
      limit = limit;
      cycle = cycle;
      in_time = in_time;
      quiet = λ l. let no : ⊥ = omega arith in absurd no;
      pace = λ l. let no : ⊥ = omega arith in absurd no;
      fresh = λ e. cc;
    }
