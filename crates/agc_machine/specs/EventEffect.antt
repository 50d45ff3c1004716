-- What an event, scripted or live, does to the processor. No event is a channel write.
use Rattle.std.specs.Prelude.{ℕ, ◌+◌, ◌*◌, ◌/◌, ◌%◌, ◌==◌, ◌&&◌, Bool, true, false, if◌then◌else◌}
use Rattle.agc_word.specs.Number.{pattern_of}
use Rattle.agc_word.specs.Pulses.{pulsed}
use Rattle.agc_word.specs.declared.pulse.Pulse.{Pulse}
use Rattle.agc_word.specs.declared.pulse.Pulse.TheVariants as pulse
use Rattle.agc_word.specs.Channels.{mnkeyin, chan32}
use Rattle.agc_script.specs.Key.{code_of}
use Rattle.agc_script.specs.declared.event.What.{What}
use Rattle.agc_script.specs.declared.event.What.TheVariants as what
use Rattle.agc_script.specs.declared.key.Key.{Key}
use Rattle.agc_store.specs.Cells.{narrow_number}
use Rattle.agc_store.specs.Places.{inlink_cell}
use Rattle.agc_processor.specs.declared.processor.Processor.{Processor}
use Rattle.agc_processor.specs.Channel.{channel_cell, set_channel_cell}
use Rattle.agc_processor.specs.Channel.{set_channel}
use Rattle.agc_processor.specs.Processor.{◌▷◌, poke}
use Rattle.agc_processor.specs.Interrupt.{request, rupt_numbered}
use Rattle.agc_processor.specs.Timer.{counter, set_counter, carried}
use Rattle.agc_processor.specs.declared.interrupt.Rupt.TheVariants as rupt

-- a key: its code goes into the keyboard's channel, and KEYRUPT1 is requested
unfoldable pub pressed : Key → Processor → Processor
pressed key p =
    p ▷ set_channel_cell mnkeyin (narrow_number (code_of key)) ▷ request rupt.Keyrupt1

-- the PRO key: bit 14 of channel 32 octal is 0 while it is down
unfoldable pub proceeded : Bool → Processor → Processor
proceeded down p =
    let word = pattern_of 15 (channel_cell chan32 p) in
    let bit = if down then 0 else 0o20000 in
    let changed = narrow_number (word / 0o40000 * 0o40000 + bit + word % 0o20000) in
    p ▷ set_channel_cell chan32 changed

-- only the shifts of INLINK, through which the uplink comes in, request UPRUPT with their carry
abbrev pub is_shift : Pulse → Bool
is_shift pulse.Shinc = true
is_shift pulse.Shanc = true
is_shift kind = false

-- a pulse of a counter
unfoldable pub pulsed_counter : ℕ → Pulse → Processor → Processor
pulsed_counter place kind p =
    let stepped = pulsed kind (counter place p) in
    let after = p ▷ set_counter place stepped.0 in
    if (place == inlink_cell) && is_shift kind then after ▷ carried rupt.Uprupt stepped.1 else after

-- what happens at a boundary that begins at a cycle
unfoldable pub happened : ℕ → What → Processor → Processor
happened cycle (what.Key key) p = p ▷ pressed key
happened cycle (what.Pro down) p = p ▷ proceeded down
happened cycle (what.Input channel value) p = p ▷ set_channel cycle channel value
happened cycle (what.Pulse place kind) p = p ▷ pulsed_counter place kind
happened cycle (what.Raise number) p = p ▷ request (rupt_numbered number)
happened cycle (what.Poke bank offset value) p = p ▷ poke bank offset value

-- a pulse takes a cycle, every other event none
unfoldable pub cycles_of : What → ℕ
cycles_of (what.Pulse place kind) = 1
cycles_of (what.Key key) = 0
cycles_of (what.Pro down) = 0
cycles_of (what.Input channel value) = 0
cycles_of (what.Raise number) = 0
cycles_of (what.Poke bank offset value) = 0
