-- The five timers, which count pulses.
use Rattle.std.specs.Prelude.{ℕ, ◌≤◌, ◌+◌, ◌%◌, ◌^◌, ◌&&◌, ◌||◌, Bool}
use Rattle.std.specs.Prelude.{List, codes, Option, Some, None, nat_lt, if◌then◌else◌}
use Rattle.agc_processor.specs.Due.{is_due, time6_periods}
use Rattle.agc_processor.specs.Period.{time1_first, time3_first, time4_first, time5_first}
use Rattle.agc_word.specs.Number.{Number, pattern_of}
use Rattle.agc_word.specs.Pulses.{pulsed}
use Rattle.agc_word.specs.declared.pulse.Pulse.TheVariants as pulse
use Rattle.agc_word.specs.declared.pulse.Carry.{Carry}
use Rattle.agc_word.specs.declared.pulse.Carry.TheVariants as carry
use Rattle.agc_word.specs.Channels.{chan13}
use Rattle.agc_store.specs.Cells.{narrow_number, cell_of}
use Rattle.agc_store.specs.Places.{time1_cell, time2_cell, time3_cell, time4_cell, time5_cell, time6_cell}
use Rattle.agc_processor.specs.declared.interrupt.Rupt.{Rupt}
use Rattle.agc_processor.specs.declared.interrupt.Rupt.TheVariants as rupt
use Rattle.agc_processor.specs.declared.processor.Processor.{Processor}
use Rattle.agc_processor.specs.declared.processor.Timers.{Timers}
use Rattle.agc_processor.specs.declared.timer.Timer.{Timer}
use Rattle.agc_processor.specs.declared.timer.Timer.TheVariants as timer
use Rattle.agc_processor.specs.Channel.{set_channel_cell, is_on, switch_word}
use Rattle.agc_processor.specs.Processor.{◌▷◌, poke}
use Rattle.agc_processor.specs.Interrupt.{request}

-- the name of a timer, which is its counter's
abbrev pub timer_name : Timer → List ℕ
timer_name timer.Time1 = codes "TIME1"
timer_name timer.Time3 = codes "TIME3"
timer_name timer.Time4 = codes "TIME4"
timer_name timer.Time5 = codes "TIME5"
timer_name timer.Time6 = codes "TIME6"

-- TIME6's step is due while it is on and a period has passed that it has not counted.
abbrev pub is_time6_due : ℕ → Timers → Number → Bool
is_time6_due cycle t switch = is_on switch && nat_lt t.mark (time6_periods cycle)

-- some timer's step is due at a cycle, if TIME6's switch is in this word
abbrev pub is_any_due : ℕ → Timers → Number → Bool
is_any_due cycle t switch =
    is_due cycle time1_first t.time1 || is_due cycle time3_first t.time3
    || is_due cycle time4_first t.time4 || is_due cycle time5_first t.time5
    || is_time6_due cycle t switch

-- no timer has taken more steps than can be calculated with; any run takes fewer
abbrev pub IsCounted : Timers → Type 0
IsCounted t =
    (t.time1 ≤ 2 ^ 48) × (t.time3 ≤ 2 ^ 48) × (t.time4 ≤ 2 ^ 48) × (t.time5 ≤ 2 ^ 48)
    × (t.mark ≤ 2 ^ 48)

-- the steps that a timer has taken
abbrev pub steps_of : Timer → Timers → ℕ
steps_of timer.Time1 t = t.time1
steps_of timer.Time3 t = t.time3
steps_of timer.Time4 t = t.time4
steps_of timer.Time5 t = t.time5
steps_of timer.Time6 t = t.mark

-- the word of a counter, and the state after it has taken another
abbrev pub counter : ℕ → Processor → Number
counter place p = cell_of p.store 0 place

abbrev pub set_counter : ℕ → Number → Processor → Processor
set_counter place w p = p ▷ poke 0 place w

-- a carry requests the interrupt
abbrev pub carried : Rupt → Carry → Processor → Processor
carried r carry.Out p = p ▷ request r
carried r carry.None p = p

-- a counter in bank 0 is incremented, and its carry requests an interrupt
abbrev pub tick : ℕ → Rupt → Processor → Processor
tick place r p =
    let stepped = pulsed pulse.Pinc (counter place p) in
    p ▷ set_counter place stepped.0 ▷ carried r stepped.1

-- TIME1's carry steps TIME2, at the cost of another cycle; a carry of TIME2 is lost.
abbrev pub time2_by : Carry → Processor → Processor × ℕ
time2_by carry.Out p =
    let stepped = pulsed pulse.Pinc (counter time2_cell p) in
    (p ▷ set_counter time2_cell stepped.0, 2)
time2_by carry.None p = (p, 1)

-- TIME6 counts towards zero; the step that finds zero requests T6RUPT and turns its switch off.
abbrev pub switched_off : Carry → Processor → Processor
switched_off carry.Out p =
    let off = narrow_number (pattern_of 15 (switch_word p) % 0o40000) in
    p ▷ set_channel_cell chan13 off ▷ request rupt.T6rupt
switched_off carry.None p = p

-- one more step of a timer is taken
abbrev pub time1_taken : Processor → Processor
time1_taken p = record p { timers = record p.timers { time1 = p.timers.time1 + 1 } }

abbrev pub time3_taken : Processor → Processor
time3_taken p = record p { timers = record p.timers { time3 = p.timers.time3 + 1 } }

abbrev pub time4_taken : Processor → Processor
time4_taken p = record p { timers = record p.timers { time4 = p.timers.time4 + 1 } }

abbrev pub time5_taken : Processor → Processor
time5_taken p = record p { timers = record p.timers { time5 = p.timers.time5 + 1 } }

abbrev pub time6_taken : Processor → Processor
time6_taken p = record p { timers = record p.timers { mark = p.timers.mark + 1 } }

-- a step of each timer, and the cycles that it takes
unfoldable pub time1_step : Processor → Processor × ℕ
time1_step p =
    let stepped = pulsed pulse.Pinc (counter time1_cell p) in
    p ▷ time1_taken ▷ set_counter time1_cell stepped.0 ▷ time2_by stepped.1

unfoldable pub time3_step : Processor → Processor × ℕ
time3_step p = (p ▷ time3_taken ▷ tick time3_cell rupt.T3rupt, 1)

unfoldable pub time4_step : Processor → Processor × ℕ
time4_step p = (p ▷ time4_taken ▷ tick time4_cell rupt.T4rupt, 1)

unfoldable pub time5_step : Processor → Processor × ℕ
time5_step p = (p ▷ time5_taken ▷ tick time5_cell rupt.T5rupt, 1)

unfoldable pub time6_step : Processor → Processor × ℕ
time6_step p =
    let stepped = pulsed pulse.Dinc (counter time6_cell p) in
    (p ▷ time6_taken ▷ set_counter time6_cell stepped.0 ▷ switched_off stepped.1, 1)

-- the step of a timer
abbrev pub timer_step : Timer → Processor → Processor × ℕ
timer_step timer.Time1 p = time1_step p
timer_step timer.Time3 p = time3_step p
timer_step timer.Time4 p = time4_step p
timer_step timer.Time5 p = time5_step p
timer_step timer.Time6 p = time6_step p

-- the first timer whose step is due, in the order in which the timers step
unfoldable pub due_timer : ℕ → Processor → Option Timer
due_timer cycle p =
    if is_due cycle time1_first p.timers.time1 then Some timer.Time1
    else if is_due cycle time3_first p.timers.time3 then Some timer.Time3
    else if is_due cycle time4_first p.timers.time4 then Some timer.Time4
    else if is_due cycle time5_first p.timers.time5 then Some timer.Time5
    else if is_time6_due cycle p.timers (switch_word p) then Some timer.Time6
    else None
