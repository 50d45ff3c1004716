-- The names that scripts know and the ranges of their numbers.
use Rattle.std.specs.Prelude.{ℕ, nat_le, Bool, true, false, ◌&&◌, List, [], ◌∷◌, Option, Some, None}
use Rattle.std.specs.Prelude.{codes, find}
use Rattle.std.specs.Str.{bytes_eq}
use Rattle.agc_word.specs.Channels.{first_io_channel, last_io_channel}
use Rattle.agc_word.specs.Pulses.{pulse_name}
use Rattle.agc_word.specs.declared.pulse.Pulse.{Pulse}
use Rattle.agc_word.specs.declared.pulse.Pulse.TheVariants as pulse
use Rattle.agc_script.specs.Event.{first_counter, last_counter, last_interrupt, last_bank}
use Rattle.agc_script.specs.Event.{first_offset, last_offset}
use Rattle.agc_script.specs.declared.grammar.Base.{Base}
use Rattle.agc_script.specs.declared.grammar.Base.TheVariants as base
use Rattle.agc_script.specs.declared.grammar.Command.{Command}
use Rattle.agc_script.specs.declared.grammar.Command.TheVariants as command
use Rattle.agc_script.specs.declared.grammar.NumberRange.{NumberRange}

-- the word that begins a command
unfoldable pub command_name : Command → List ℕ
command_name command.Key = codes "key"
command_name command.Pro = codes "pro"
command_name command.Input = codes "input"
command_name command.Pulse = codes "pulse"
command_name command.Raise = codes "raise"
command_name command.Poke = codes "poke"

-- every command, once
unfoldable pub all_commands : List Command
all_commands =
    command.Key ∷ command.Pro ∷ command.Input ∷ command.Pulse ∷ command.Raise ∷ command.Poke ∷ []

-- the command with a name, if there is one
unfoldable pub command_named : List ℕ → Option Command
command_named name = find (λ c. bytes_eq (command_name c) name) all_commands

-- how many words follow the command's name
unfoldable pub argument_count : Command → ℕ
argument_count command.Key = 1
argument_count command.Pro = 1
argument_count command.Input = 2
argument_count command.Pulse = 2
argument_count command.Raise = 1
argument_count command.Poke = 3

-- the directions of PRO: down is true
unfoldable pub direction_name : Bool → List ℕ
direction_name true = codes "down"
direction_name false = codes "up"

unfoldable pub directions : List Bool
directions = true ∷ false ∷ []

unfoldable pub direction_named : List ℕ → Option Bool
direction_named name = find (λ d. bytes_eq (direction_name d) name) directions

-- the pulses of a script, which has no Dinc
unfoldable pub pulses : List Pulse
pulses =
    pulse.Pinc ∷ pulse.Minc ∷ pulse.Pcdu ∷ pulse.Mcdu ∷ pulse.Shinc ∷ pulse.Shanc ∷ []

unfoldable pub pulse_named : List ℕ → Option Pulse
pulse_named name = find (λ p. bytes_eq (pulse_name p) name) pulses

-- the number of a base
abbrev pub radix : Base → ℕ
radix base.Octal = 8
radix base.Decimal = 10

abbrev pub is_within : ℕ → ℕ → ℕ → Bool
is_within low high n = nat_le low n && nat_le n high

abbrev pub octal_range : ℕ → ℕ → NumberRange
octal_range low high = record { base = base.Octal; low = low; high = high }

-- the ranges of a command's numbers
abbrev pub channels : NumberRange
channels = octal_range first_io_channel last_io_channel

abbrev pub counters : NumberRange
counters = octal_range first_counter last_counter

abbrev pub interrupts : NumberRange
interrupts = record { base = base.Decimal; low = 1; high = last_interrupt }

abbrev pub banks : NumberRange
banks = octal_range 0 last_bank

-- a word's fifteen bits
abbrev pub patterns : NumberRange
patterns = octal_range 0 0o77777

-- the lowest offset of a poke, if its bank is a number
abbrev pub lowest_offset : Option ℕ → ℕ
lowest_offset None = 0
lowest_offset (Some bank) = first_offset bank

abbrev pub offsets_in : Option ℕ → NumberRange
offsets_in bank = octal_range (lowest_offset bank) last_offset

-- The ranges of the words after a command's name that are numbers, up to the most that a command
-- has. `first` is the value of the first of these words.
unfoldable pub ranges_of : Command → Option ℕ → List (Option NumberRange)
ranges_of command.Key first = None ∷ None ∷ None ∷ []
ranges_of command.Pro first = None ∷ None ∷ None ∷ []
ranges_of command.Input first = Some channels ∷ Some patterns ∷ None ∷ []
ranges_of command.Pulse first = Some counters ∷ None ∷ None ∷ []
ranges_of command.Raise first = Some interrupts ∷ None ∷ None ∷ []
ranges_of command.Poke first = Some banks ∷ Some (offsets_in first) ∷ Some patterns ∷ []
