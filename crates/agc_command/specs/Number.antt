-- The numbers in commands: cycles, boundaries, channels and tables.
use Rattle.std.specs.Prelude.{ℕ, nat_le, find, List, Option, Some, None, Result, Ok, Err, if◌then◌else◌}
use Rattle.std.specs.Option.{ok_or}
use Rattle.std.specs.Str.{bytes_eq}
use Rattle.agc_listing.specs.Number.{octal_word}
use Rattle.agc_panel.specs.WatchSpec.{spec_of, watch_fault_of}
use Rattle.agc_panel.specs.declared.watch_spec.WatchFault.{WatchFault}
use Rattle.agc_panel.specs.declared.watch_spec.WatchSpec.{WatchSpec}
use Rattle.agc_processor.specs.Interrupt.{rupt_name, rupts}
use Rattle.agc_processor.specs.declared.interrupt.Rupt.{Rupt}
use Rattle.agc_script.specs.Line.{cycle_of}
use Rattle.agc_word.specs.Channels.{is_io_channel, last_io_channel}
use Rattle.agc_word.specs.Number.{Number}
use Rattle.agc_word.specs.Numeral.{octal_number}
use Rattle.agc_command.specs.declared.fault.CommandFault.{CommandFault}
use Rattle.agc_command.specs.declared.fault.CommandFault.TheVariants as fault

-- cycles and boundaries have one to thirteen decimal digits, like the cycles of a script
unfoldable pub cycles_in : List ℕ → Result ℕ CommandFault
cycles_in word = ok_or (cycle_of word) fault.BadNumber

-- a channel has one to six octal digits, as in a script
abbrev pub channel_at : Option ℕ → Result ℕ CommandFault
channel_at (Some channel) =
    if nat_le channel last_io_channel then Ok channel else Err fault.BadChannel
channel_at None = Err fault.BadChannel

unfoldable pub channel_in : List ℕ → Result ℕ CommandFault
channel_in word = channel_at (octal_number 6 word)

-- a channel whose writes show
abbrev pub written_channel_at : Option ℕ → Result ℕ CommandFault
written_channel_at (Some channel) =
    if is_io_channel channel then Ok channel else Err fault.NoWrites
written_channel_at None = Err fault.NoWrites

unfoldable pub written_channel_in : List ℕ → Result ℕ CommandFault
written_channel_in word = written_channel_at (octal_number 6 word)

-- a word has one to five octal digits
unfoldable pub word_in : List ℕ → Result Number CommandFault
word_in word = ok_or (octal_word word) fault.BadWord

-- the interrupt with this name, as traces print it
unfoldable pub interrupt_named : List ℕ → Option Rupt
interrupt_named word = find (λ rupt. bytes_eq (rupt_name rupt) word) rupts

unfoldable pub interrupt_in : List ℕ → Result Rupt CommandFault
interrupt_in word = ok_or (interrupt_named word) fault.BadInterrupt

-- tables that can be watched
abbrev pub spec_unless : Option WatchFault → WatchSpec → Result WatchSpec CommandFault
spec_unless (Some why) spec = Err (fault.Watch why)
spec_unless None spec = Ok spec

unfoldable pub sound_spec : WatchSpec → Result WatchSpec CommandFault
sound_spec spec = spec_unless (watch_fault_of spec) spec

abbrev pub spec_where_parsed : Option WatchSpec → Result WatchSpec CommandFault
spec_where_parsed (Some spec) = sound_spec spec
spec_where_parsed None = Err fault.BadSpec

unfoldable pub spec_in : List ℕ → Result WatchSpec CommandFault
spec_in word = spec_where_parsed (spec_of word)
