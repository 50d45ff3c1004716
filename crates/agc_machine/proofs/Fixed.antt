-- Nothing that a processor does changes the fixed words.
use Rattle.std.proofs.Common.{◌≡◌, ℕ, Bool, true, false, refl}
use Rattle.std.specs.Prelude.{◌==◌, ◌&&◌, if◌then◌else◌}
use Rattle.agc_word.specs.Number.{Number}
use Rattle.agc_word.specs.Pulses.{pulsed}
use Rattle.agc_word.specs.declared.pulse.Carry.{Carry}
use Rattle.agc_word.specs.declared.pulse.Carry.TheVariants as carry
use Rattle.agc_word.specs.declared.pulse.Pulse.{Pulse}
use Rattle.agc_word.specs.Channels.{superbnk, chan13}
use Rattle.agc_script.specs.declared.event.What.{What}
use Rattle.agc_script.specs.declared.event.What.TheVariants as what
use Rattle.agc_store.specs.Places.{inlink_cell}
use Rattle.agc_store.specs.Cells.{poke_of, put_of, superbank_set}
use Rattle.agc_processor.specs.declared.interrupt.Rupt.{Rupt}
use Rattle.agc_processor.specs.declared.interrupt.Rupt.TheVariants as rupt
use Rattle.agc_processor.specs.declared.processor.Processor.{Processor}
use Rattle.agc_processor.specs.Channel.{set_channel}
use Rattle.agc_processor.specs.Effect.{order_effect}
use Rattle.agc_processor.specs.Interrupt.{interrupted}
use Rattle.agc_processor.specs.Processor.{◌▷◌}
use Rattle.agc_processor.specs.Timer.{carried, counter, set_counter, switched_off, time1_step, time2_by, time3_step, time4_step, time5_step, time6_step, timer_step}
use Rattle.agc_processor.specs.declared.timer.Timer.{Timer}
use Rattle.agc_processor.specs.declared.timer.Timer.TheVariants as timer
use Rattle.agc_processor.proofs.Fixed.{order_fixed}
use Rattle.agc_machine.specs.EventEffect.{happened, is_shift, pressed, proceeded, pulsed_counter}

-- the fixed words are as they were
abbrev pub SameFixed : Processor → Processor → Type 0
SameFixed p q = q.store.fixed ≡ p.store.fixed

either : (b : Bool) (p q r : Processor) → SameFixed p q → SameFixed p r → SameFixed p (if b then q else r)
either true p q r h k = h
either false p q r h k = k

-- a word comes into a channel
pub set_channel_keeps : (c h : ℕ) (w : Number) (p : Processor) → SameFixed p (set_channel c h w p)
unfolding set_channel superbank_set
set_channel_keeps c h w p =
    either (h == superbnk) p _ _ refl (either (h == chan13) p _ _ refl refl)

-- the order in hand
pub order_keeps : (c : ℕ) (p : Processor) → SameFixed p (order_effect c p).0
order_keeps c p = order_fixed c p

carried_keeps : (r : Rupt) (c : Carry) (p q : Processor) → SameFixed p q → SameFixed p (carried r c q)
carried_keeps r carry.Out p q h = h
carried_keeps r carry.None p q h = h

time2_keeps : (c : Carry) (p q : Processor) → SameFixed p q → SameFixed p (time2_by c q).0
unfolding poke_of
time2_keeps carry.Out p q h = h
time2_keeps carry.None p q h = h

switch_keeps : (c : Carry) (p q : Processor) → SameFixed p q → SameFixed p (switched_off c q)
switch_keeps carry.Out p q h = h
switch_keeps carry.None p q h = h

time1_keeps : (p : Processor) → SameFixed p (time1_step p).0
unfolding time1_step poke_of
time1_keeps p = time2_keeps _ p _ refl

time3_keeps : (p : Processor) → SameFixed p (time3_step p).0
unfolding time3_step poke_of
time3_keeps p = carried_keeps rupt.T3rupt _ p _ refl

time4_keeps : (p : Processor) → SameFixed p (time4_step p).0
unfolding time4_step poke_of
time4_keeps p = carried_keeps rupt.T4rupt _ p _ refl

time5_keeps : (p : Processor) → SameFixed p (time5_step p).0
unfolding time5_step poke_of
time5_keeps p = carried_keeps rupt.T5rupt _ p _ refl

time6_keeps : (p : Processor) → SameFixed p (time6_step p).0
unfolding time6_step poke_of
time6_keeps p = switch_keeps _ p _ refl

-- the step of a timer
pub timer_keeps : (t : Timer) (p : Processor) → SameFixed p (timer_step t p).0
timer_keeps timer.Time1 p = time1_keeps p
timer_keeps timer.Time3 p = time3_keeps p
timer_keeps timer.Time4 p = time4_keeps p
timer_keeps timer.Time5 p = time5_keeps p
timer_keeps timer.Time6 p = time6_keeps p

-- an interrupt
pub interrupt_keeps : (r : Rupt) (p : Processor) → SameFixed p (interrupted r p)
unfolding interrupted poke_of put_of
interrupt_keeps r p = refl

pulse_keeps : (place : ℕ) (kind : Pulse) (p : Processor) → SameFixed p (pulsed_counter place kind p)
unfolding pulsed_counter poke_of
pulse_keeps place kind p =
    let stepped = pulsed kind (counter place p) in
    let after : Processor = p ▷ set_counter place stepped.0 in
    either ((place == inlink_cell) && is_shift kind) p (after ▷ carried rupt.Uprupt stepped.1) after
    (carried_keeps rupt.Uprupt stepped.1 p after refl) refl

-- an event
pub event_keeps : (cycle : ℕ) (what : What) (p : Processor) → SameFixed p (happened cycle what p)
unfolding happened pressed proceeded poke_of
event_keeps cycle (what.Input channel value) p = set_channel_keeps cycle channel value p
event_keeps cycle (what.Pulse place kind) p = pulse_keeps place kind p
event_keeps cycle (what.Key key) p = refl
event_keeps cycle (what.Pro down) p = refl
event_keeps cycle (what.Raise number) p = refl
event_keeps cycle (what.Poke bank offset value) p = refl
