-- What an event of a script may hold.
use Rattle.std.specs.Prelude.{◌≡◌, ◌≢◌, ℕ, ◌≤◌, ◌<◌, ◌^◌, ◌==◌, if◌then◌else◌}
use Rattle.agc_word.specs.Channels.{IsIoChannel}
use Rattle.agc_word.specs.Number.{Number}
use Rattle.agc_word.specs.declared.pulse.Pulse.TheVariants as pulse
use Rattle.agc_script.specs.declared.event.Event.{Event}
use Rattle.agc_script.specs.declared.event.What.{What}
use Rattle.agc_script.specs.declared.event.What.TheVariants as what

-- an interrupt's number, from 1 for T6RUPT to 10 for RUPT10
abbrev pub last_interrupt : ℕ
last_interrupt = 10

abbrev pub IsInterrupt : ℕ → Type 0
IsInterrupt number = (1 ≤ number) × (number ≤ last_interrupt)

-- The cells of erasable memory that a script may write: any but the registers, which are the first
-- eight of bank 0.
abbrev pub last_bank : ℕ
last_bank = 0o7

abbrev pub first_offset : ℕ → ℕ
first_offset bank = if bank == 0 then 0o10 else 0

abbrev pub last_offset : ℕ
last_offset = 0o377

abbrev pub IsPokePlace : ℕ → ℕ → Type 0
IsPokePlace bank offset = (bank ≤ last_bank) × (offset ≤ last_offset) × (bank ≡ 0 → 0o10 ≤ offset)

-- the cells of the counters, which pulses step
abbrev pub first_counter : ℕ
first_counter = 0o24

abbrev pub last_counter : ℕ
last_counter = 0o60

abbrev pub IsCounter : ℕ → Type 0
IsCounter cell = (first_counter ≤ cell) × (cell ≤ last_counter)

-- a word of fifteen bits: a sign and fourteen bits of magnitude
abbrev pub IsNarrow : Number → Type 0
IsNarrow value = value.magnitude < 2 ^ 14

-- An event has each of its numbers in range; no script has a Dinc, which only the timers send.
unfoldable pub IsWhatInRange : What → Type 0
IsWhatInRange (what.Key key) = Unit {0}
IsWhatInRange (what.Pro down) = Unit {0}
IsWhatInRange (what.Input channel value) = IsIoChannel channel × IsNarrow value
IsWhatInRange (what.Pulse counter kind) = IsCounter counter × (kind ≢ pulse.Dinc)
IsWhatInRange (what.Raise number) = IsInterrupt number
IsWhatInRange (what.Poke bank offset value) = IsPokePlace bank offset × IsNarrow value

-- the latest cycle that a script may name
abbrev pub last_cycle : ℕ
last_cycle = 1000000000000

-- the most events that a script may have
abbrev pub most_events : ℕ
most_events = 65536

-- an event with its cycle and each of its numbers in range
unfoldable pub IsInRange : Event → Type 0
IsInRange event = (event.cycle ≤ last_cycle) × IsWhatInRange event.what
